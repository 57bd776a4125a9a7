use Rattle.std.proofs.Common.{sym, ◌∙◌}
use Rattle.std.proofs.lemmas.Bool.{eqb-true}
use Rattle.dactl_plain.proofs.Kept.{kept_noted}
use Rattle.dactl_plain.proofs.noting.is_kept.Goals as goal

pub returns-then-number-noting : goal.returns-then-number-noting
returns-then-number-noting c = λ e.
    kept_noted c.args.noting _ c.args.node.now c.if-number-noting.true (rw c.as_slice.ensures at (sym c.waiting_arcs.ensures ∙ eqb-true _ _ e))
