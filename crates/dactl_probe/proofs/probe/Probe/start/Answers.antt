use Rattle.dactl_probe.proofs.Traced.{started, started_view, sound_probing}
use Rattle.dactl_probe.proofs.probe.Probe.start.Goals as goal

pub judge-verdict-requires : goal.judge-verdict-requires
judge-verdict-requires c = λ s rule known is. absurd (c.none-lost.ensures s known)

pub invariant_of-result : goal.invariant_of-result
invariant_of-result c = started _ _ c.args.room _ _ _ _ c.judge-verdict.ensures.decisions c.requires c.clear.ensures c.readings.ensures c.judge-verdict.ensures.verdict c.judge-verdict.ensures.lost

pub returns : goal.returns
returns c =
    let sound = started _ _ c.args.room _ _ _ c.judge-verdict.new.lost c.judge-verdict.ensures.decisions c.requires c.clear.ensures c.readings.ensures c.judge-verdict.ensures.verdict c.judge-verdict.ensures.lost in
    record {
      begun = started_view _ _ c.args.room _ _ _ c.clear.ensures c.readings.ensures c.judge-verdict.ensures.verdict;
      probing = sound_probing _ _ _ _ _ sound;
    }
