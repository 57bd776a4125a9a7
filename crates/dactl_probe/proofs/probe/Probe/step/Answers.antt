use Rattle.std.proofs.Common.{◌∷◌, [], ap, ◌∙◌}
use Rattle.dactl_probe.proofs.Further.{all_lost_more}
use Rattle.dactl_probe.proofs.Traced.{sound_room, sound_step}
use Rattle.dactl_probe.proofs.probe.Probe.step.Goals as goal

pub push_reading-requires : goal.push_reading-requires
push_reading-requires c = sound_room _ _ _ _ _ c.self.invariant c.args.reading.node (ap (λ p. p.next) c.self.view_is ∙ c.requires)

pub judge-verdict-requires : goal.judge-verdict-requires
judge-verdict-requires c = rw (c.readings.ensures, c.push_reading.ensures) (all_lost_more _ (c.args.reading ∷ []) _ _ c.self.inside.lost c.self.invariant.are_lost)

pub invariant_of-self : goal.invariant_of-self
invariant_of-self c =
    let decided = rw (c.readings.ensures, c.push_reading.ensures) at c.judge-verdict.ensures.verdict in
    let lost = rw (c.readings.ensures, c.push_reading.ensures) at c.judge-verdict.ensures.lost in
    rw c.push_reading.ensures (sound_step _ _ _ _ _ c.self.invariant c.args.reading _ _ (ap (λ p. p.next) c.self.view_is ∙ c.requires) decided lost)
