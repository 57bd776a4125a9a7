-- A graph and a part of it have one text.
use Rattle.std.proofs.Common.{◌≡◌, ℕ, ◌+◌, cond, codes, List, [], ◌∷◌, ◌++◌, map, refl, sym, ◌∙◌, ap, subst}
use Rattle.std.specs.List.{AllByRecursion, concat}
use Rattle.std.specs.Fmt.{decimal}
use Rattle.dactl_model.specs.declared.graph.NodeId.{NodeId}
use Rattle.dactl_model.specs.declared.graph.Arc.{Arc}
use Rattle.dactl_model.specs.declared.graph.Graph.{Graph}
use Rattle.dactl_model.specs.declared.program.Program.{Program}
use Rattle.dactl_model.specs.Patterns.{same_node}
use Rattle.dactl_model.specs.Graphs.{node_at, HasNode, IsWellFormed}
use Rattle.dactl_model.specs.Firing.{redirected_arc}
use Rattle.dactl_print.specs.Texts.{line_feed}
use Rattle.dactl_print.specs.Order.{Visits, number_from}
use Rattle.dactl_print.specs.Lines.{mark_text, label_text, argument, further_arguments, arguments, content, line_number, node_line, graph_lines}
use Rattle.dactl_within.specs.Renumbering.{Renumbers, image}
use Rattle.dactl_within.proofs.Places.{NodeThere, node_there, targets_in, same_kept}
use Rattle.dactl_resume.specs.Statements.{TextIsKept, TextComesBack}
use Rattle.dactl_resume.proofs.Visiting.{visits_there, visits_back}

module _ (f : NodeId → NodeId) (h g : Graph) (fine : IsWellFormed h) (is : Renumbers f h g) where
  number_kept : (first : ℕ) (order : List NodeId) → AllByRecursion (HasNode h) order → (n : NodeId) → HasNode h n → number_from first (map f order) (f n) ≡ number_from first order n
  number_kept first [] all n has = refl
  number_kept first (m ∷ rest) all n has =
      ap (λ c. cond c first (number_from (first + 1) (map f rest) (f n))) (same_kept f m n (is.once m n all.0 has))
      ∙ ap (λ k. cond (same_node m n) first k) (number_kept (first + 1) rest all.1 n has)

  module _ (p : Program) (order : List NodeId) (all : AllByRecursion (HasNode h) order) where
    argument_kept : (a : Arc) → HasNode h a.target → argument (map f order) (redirected_arc f a) ≡ argument order a
    argument_kept a has = ap (λ k. cond a.waits (codes "^") [] ++ (codes "@" ++ decimal k)) (number_kept 1 order all a.target has)

    further_kept : (arcs : List Arc) → AllByRecursion (λ a. HasNode h a.target) arcs → further_arguments (map f order) (map (redirected_arc f) arcs) ≡ further_arguments order arcs
    further_kept [] have = refl
    further_kept (a ∷ arcs) have =
        ap (λ s. codes " " ++ (s ++ further_arguments (map f order) (map (redirected_arc f) arcs))) (argument_kept a have.0)
        ∙ ap (λ s. codes " " ++ (argument order a ++ s)) (further_kept arcs have.1)

    arguments_kept : (arcs : List Arc) → AllByRecursion (λ a. HasNode h a.target) arcs → arguments (map f order) (map (redirected_arc f) arcs) ≡ arguments order arcs
    arguments_kept [] have = refl
    arguments_kept (a ∷ arcs) have =
        ap (λ s. codes "[" ++ (s ++ further_arguments (map f order) (map (redirected_arc f) arcs))) (argument_kept a have.0)
        ∙ ap (λ s. codes "[" ++ (argument order a ++ s)) (further_kept arcs have.1)

    line_kept : (n : NodeId) → HasNode h n → node_line p g (map f order) (f n) ≡ node_line p h order n
    line_kept n has =
        let there : NodeThere h n = node_there h n has in
        ap (λ k. (codes "@" ++ (decimal k ++ codes " ")) ++ content p (map f order) (node_at g (f n))) (number_kept 1 order all n has)
        ∙ ap (λ o. line_number order n ++ content p (map f order) o) (is.nodes n there.0 there.1)
        ∙ ap (λ s. line_number order n ++ (mark_text there.0.mark ++ (label_text p there.0.label ++ (s ++ line_feed)))) (arguments_kept there.0.arcs (targets_in h n there.0 fine there.1))
        ∙ sym (ap (λ o. line_number order n ++ content p order o) there.1)

    lines_kept : (ns : List NodeId) → AllByRecursion (HasNode h) ns → concat (map (node_line p g (map f order)) (map f ns)) ≡ concat (map (node_line p h order) ns)
    lines_kept [] have = refl
    lines_kept (n ∷ ns) have =
        ap (λ s. s ++ concat (map (node_line p g (map f order)) (map f ns))) (line_kept n have.0)
        ∙ ap (λ s. node_line p h order n ++ s) (lines_kept ns have.1)

pub text_is_kept : TextIsKept
text_is_kept p f h g text fine is has =
    let there = visits_there (image f) h g fine is.renumbers has.is_order (fine.root, tt) tt in
    record {
      order = map (image f) has.order;
      is_order = subst (λ r. Visits g (r ∷ []) [] (map (image f) has.order)) (sym is.renumbers.root) there.0;
      lines = has.lines ∙ sym (lines_kept (image f) h g fine is.renumbers p has.order there.1 has.order there.1);
    }

pub text_comes_back : TextComesBack
text_comes_back p f h g text fine is has =
    let root : g.root ∷ [] ≡ map (image f) (h.root ∷ []) = ap (λ r. r ∷ []) is.renumbers.root in
    let back = visits_back (image f) h g fine is.renumbers has.is_order (h.root ∷ []) [] root refl (fine.root, tt) tt in
    record {
      order = back.0;
      is_order = back.2;
      lines = has.lines ∙ ap (λ o. graph_lines p g o) back.1 ∙ lines_kept (image f) h g fine is.renumbers p back.0 back.3 back.0 back.3;
    }
