use Rattle.std.proofs.Common.{ℕ, List, subst}
use Rattle.dactl_names.specs.Found.{Notes}
use Rattle.dactl_contractum.proofs.Tables.{variables_more}
use Rattle.dactl_contractum.proofs.variables.Variables.new.Goals as goal

pub loop-number-preserved : goal.loop-number-preserved
loop-number-preserved c = λ w.
    variables_more c.as_slice-name-items.result.now c.loop-number.number c.name-item.result c.loop-number.numbers c.note.new.self c.loop-number-test.true c.name-item.is
    (subst (λ (v : List ℕ). Notes v c.loop-number.number c.loop-number.numbers c.note.new.self) c.as_slice.ensures c.in_ok-note.ensures.after) c.loop-number.invariant w
