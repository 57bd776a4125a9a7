-- A visit has one outcome.
use Rattle.std.proofs.Common.{◌≡◌, List, refl, sym, ap, ◌∙◌, subst}
use Rattle.dactl_model.specs.declared.graph.NodeId.{NodeId}
use Rattle.dactl_model.specs.declared.graph.Graph.{Graph}
use Rattle.dactl_print.specs.Order.{Visits, ended, passed, joined}
use Rattle.dactl_print.specs.Lines.{graph_lines}
use Rattle.dactl_print.specs.Laws.{HasOneOrder, HasOneText}

one_outcome : {g : Graph} {nodes before after other : List NodeId} → Visits g nodes before after → Visits g nodes before other → after ≡ other
one_outcome ended ended = refl
one_outcome (passed p v) (passed q w) = one_outcome v w
one_outcome (passed p v) (joined m w x) = absurd (m p)
one_outcome (joined m v w) (passed q x) = absurd (m q)
one_outcome {g} {other} (joined m v w) (joined {rest} k x y) = one_outcome w (subst (λ b. Visits g rest b other) (sym (one_outcome v x)) y)

pub has_one_order : HasOneOrder
has_one_order g nodes before after other v w = one_outcome v w

pub has_one_text : HasOneText
has_one_text p g text other first second = first.lines ∙ ap (graph_lines p g) (one_outcome first.is_order second.is_order) ∙ sym second.lines
