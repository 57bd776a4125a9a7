use Rattle.std.proofs.Common.{◌∙◌, arith}
use Rattle.dactl_patterns.proofs.Tables.{right_next}
use Rattle.dactl_patterns.proofs.named.entered.Goals as goal

pub loop-declared-preserved : goal.loop-declared-preserved
loop-declared-preserved c =
    let step = c.in_ok-enter.ensures in
    record {
      text = step.same.text ∙ c.loop-declared.invariant.text;
      scopes = step.same.scopes ∙ c.loop-declared.invariant.scopes;
      right = right_next c.loop-declared.declared-index c.loop-declared.patterns c.enter.new.patterns step.same.text c.loop-declared.invariant.right step.right;
    }

pub returns-clause-right : goal.returns-clause-right
returns-clause-right c = λ d le. c.loop-declared.invariant.right d (omega (arith, le, c.loop-declared.auto.declared-index-end))
