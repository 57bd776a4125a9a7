use Rattle.std.proofs.Common.{subst}
use Rattle.dactl_verify.specs.Verdicts.{IsVerdict}
use Rattle.dactl_top.proofs.steps.judge.Goals as goal

pub returns-in-Ok-clause-comes : goal.returns-in-Ok-clause-comes
returns-in-Ok-clause-comes c = λ input meant.
    let found = subst (λ r. IsVerdict c.args.program c.args.trace.now r c.verify.new.journal.items c.in-Ok.verdict) c.room_of.ensures c.in-Ok.ensures.verdict in
    c.judged.ensures.comes c.args.settings input (record {
      check = c.requires.check;
      asked = c.requires.asked;
      fresh = (rw c.requires.asked at c.requires.limits.one);
      rest = c.args.trace.now;
      meant = meant;
      found = found;
      short = c.requires.short;
      few = c.requires.limits.nodes.1;
    })
