-- The text of a node in parts.
use Rattle.std.proofs.Common.{◌≡◌, ℕ, ◌+◌, ◌-◌, ◌<◌, ◌≤◌, List, [], ◌∷◌, ◌++◌, refl, sym, ap, ◌∙◌, append_assoc, drop, length, replicate, codes, Option, Some, None, slice_get, IsSomeAnd, arith}
use Rattle.std.proofs.lemmas.List.{drop_more, drop_all, replicate-append-replicate}
use Rattle.std.proofs.lemmas.Option.{slice_get_within, get_or_from_slice_get}
use Rattle.dactl_model.specs.declared.graph.NodeId.{NodeId}
use Rattle.dactl_model.specs.declared.graph.Label.{Label}
use Rattle.dactl_model.specs.declared.graph.Mark.{Mark}
use Rattle.dactl_model.specs.declared.graph.Arc.{Arc}
use Rattle.dactl_model.specs.declared.graph.Node.{Node}
use Rattle.dactl_model.specs.declared.program.Program.{Program}
use Rattle.dactl_print.specs.Texts.{line_feed}
use Rattle.dactl_print.specs.Lines.{mark_text, label_text, argument, further_arguments, arguments, arcs_of, content}

pub one_more_sign : (i : ℕ) → replicate {A = ℕ} (i + 1) 35 ≡ replicate i 35 ++ (35 ∷ [])
one_more_sign i = sym (replicate-append-replicate i 1 35)

pub signs_left : (i n : ℕ) → i < n → replicate {A = ℕ} n 35 ≡ replicate i 35 ++ ((35 ∷ []) ++ replicate (n - (i + 1)) 35)
signs_left i n below =
    let m = n - (i + 1) in
    let sum : n ≡ i + (1 + m) = omega arith in
    ap (λ k. replicate {A = ℕ} k 35) sum ∙ sym (replicate-append-replicate i (1 + m) 35) ∙ ap (λ l. replicate i 35 ++ l) (sym (replicate-append-replicate 1 m 35))

arc_at : (o : Option Node) (place : ℕ) (a : Arc) → IsSomeAnd o (λ node. slice_get node.arcs place ≡ Some a) → slice_get (arcs_of o) place ≡ Some a
arc_at None place a at = absurd at
arc_at (Some node) place a at = at

next_arc : (arcs : List Arc) (place : ℕ) (a : Arc) → slice_get arcs place ≡ Some a → drop place arcs ≡ a ∷ drop (place + 1) arcs
next_arc arcs place a at = drop_more arcs place a (slice_get_within arcs place a at) ∙ ap (λ b. b ∷ drop (place + 1) arcs) (get_or_from_slice_get arcs place a a at)

pub further_more : (order : List NodeId) (o : Option Node) (place : ℕ) (a : Arc) → IsSomeAnd o (λ node. slice_get node.arcs place ≡ Some a)
    → further_arguments order (drop place (arcs_of o)) ≡ (codes " " ++ argument order a) ++ further_arguments order (drop (place + 1) (arcs_of o))
further_more order o place a at =
    let rest = drop (place + 1) (arcs_of o) in
    ap (further_arguments order) (next_arc (arcs_of o) place a (arc_at o place a at)) ∙ sym (append_assoc (codes " ") (argument order a) (further_arguments order rest))

pub further_end : (order : List NodeId) (o : Option Node) (count place : ℕ) → IsSomeAnd o (λ node. count ≡ length node.arcs) → count ≤ place → further_arguments order (drop place (arcs_of o)) ≡ codes "]"
further_end order None count place long past = absurd long
further_end order (Some node) count place long past = ap (further_arguments order) (drop_all place node.arcs (omega (arith, long)))

pub arguments_more : (order : List NodeId) (o : Option Node) (a : Arc) → IsSomeAnd o (λ node. slice_get node.arcs 0 ≡ Some a)
    → arguments order (arcs_of o) ≡ (codes "[" ++ argument order a) ++ further_arguments order (drop 1 (arcs_of o))
arguments_more order o a at =
    let rest = drop 1 (arcs_of o) in
    ap (arguments order) (next_arc (arcs_of o) 0 a (arc_at o 0 a at)) ∙ sym (append_assoc (codes "[") (argument order a) (further_arguments order rest))

pub content_parts : (p : Program) (order : List NodeId) (o : Option Node) (mark : Mark) (label : Label) → IsSomeAnd o (λ node. mark ≡ node.mark) → IsSomeAnd o (λ node. label ≡ node.label)
    → content p order o ≡ mark_text mark ++ (label_text p label ++ (arguments order (arcs_of o) ++ line_feed))
content_parts p order None mark label marked labelled = absurd marked
content_parts p order (Some node) mark label marked labelled = rw (marked, labelled) refl
