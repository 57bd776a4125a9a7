-- The print of a graph that is numbered as it is printed, line by line.
use Rattle.std.proofs.Common.{◌≡◌, ℕ, zero, suc, ◌+◌, ◌-◌, ◌==◌, ◌<◌, ◌≤◌, cond, codes, List, [], ◌∷◌, ◌++◌, map, length, Some, slice_get, refl, sym, ◌∙◌, ap, arith, inl, inr}
use Rattle.std.specs.List.{AllByRecursion, concat}
use Rattle.std.specs.Fmt.{decimal}
use Rattle.std.proofs.lemmas.Bool.{cases_lt, cases_eq, cond-true, cond-false, eq-eqb, ne_eqb}
use Rattle.std.proofs.lemmas.List.{append_assoc}
use Rattle.std.proofs.lemmas.List.Elements.{recursion_from_All}
use Rattle.dactl_model.specs.declared.graph.NodeId.{NodeId}
use Rattle.dactl_model.specs.declared.graph.Arc.{Arc}
use Rattle.dactl_model.specs.declared.graph.Node.{Node}
use Rattle.dactl_model.specs.declared.graph.Graph.{Graph}
use Rattle.dactl_model.specs.declared.program.Program.{Program}
use Rattle.dactl_model.specs.Graphs.{node_at, IsFineNode, IsWellFormed}
use Rattle.dactl_print.specs.Texts.{line_feed}
use Rattle.dactl_print.specs.Order.{number_from, number_in}
use Rattle.dactl_print.specs.Lines.{mark_text, label_text, argument, further_arguments, arguments, content, line_number, node_line, graph_lines, IsGraphText}
use Rattle.dactl_print.proofs.OneOrder.{has_one_order}
use Rattle.dactl_within.specs.Renumbering.{nodes_from}
use Rattle.dactl_within.proofs.FireKept.{numbered}
use Rattle.dactl_resume.specs.Restriction.{IsCanonical}
use Rattle.dactl_resume.specs.Plain.{put_argument, put_further, put_arguments, put_node, put_nodes}

next_above : (m k : ℕ) → m ≤ k → (m ≡ k → ⊥) → m + 1 ≤ k
next_above m k above ne =
    elim (cases_lt m k) [
      | inl before ↦ omega arith
      | inr after ↦ absurd (ne (omega arith))
    ]

later : (first m k : ℕ) → m + 1 ≤ k → (first + 1) + (k - (m + 1)) ≡ first + (k - m)
later first m k above = omega arith

step_number : (i j : ℕ) → i + suc j ≡ (i + 1) + j
step_number i j = omega arith

zero_number : (j : ℕ) → j ≡ 0 + j
zero_number j = omega arith

number_of : (first m count : ℕ) (x : NodeId) → m ≤ x.number → x.number < m + count → number_from first (nodes_from m count) x ≡ first + (x.number - m)
number_of first m zero x above below = absurd (omega arith)
number_of first m (suc count) x above below =
    elim (cases_eq m x.number) [
      | inl e ↦ cond-true (m == x.number) first (number_from (first + 1) (nodes_from (m + 1) count) x) (eq-eqb m x.number e) ∙ omega (arith, e)
      | inr ne ↦ cond-false (m == x.number) first (number_from (first + 1) (nodes_from (m + 1) count) x) (ne_eqb m x.number ne) ∙ number_of (first + 1) (m + 1) count x (next_above m x.number above ne) (omega arith) ∙ later first m x.number (next_above m x.number above ne)
    ]

number_is : (count : ℕ) (x : NodeId) → x.number < count → number_in (nodes_from 0 count) x ≡ x.number + 1
number_is count x below = number_of 1 0 count x (omega arith) (omega arith) ∙ omega arith

module _ (p : Program) (count : ℕ) where
  argument_put : (a : Arc) (rest : List ℕ) → a.target.number < count → argument (nodes_from 0 count) a ++ rest ≡ put_argument a rest
  argument_put a rest below =
      append_assoc (cond a.waits (codes "^") []) (codes "@" ++ decimal (number_in (nodes_from 0 count) a.target)) rest
      ∙ ap (λ k. cond a.waits (94 ∷ []) [] ++ (64 ∷ (decimal k ++ rest))) (number_is count a.target below)

  further_put : (arcs : List Arc) (rest : List ℕ) → AllByRecursion (λ a. a.target.number < count) arcs → further_arguments (nodes_from 0 count) arcs ++ rest ≡ put_further arcs rest
  further_put [] rest have = refl
  further_put (a ∷ arcs) rest have =
      ap (λ s. 32 ∷ s) (append_assoc (argument (nodes_from 0 count) a) (further_arguments (nodes_from 0 count) arcs) rest
      ∙ ap (λ s. argument (nodes_from 0 count) a ++ s) (further_put arcs rest have.1)
      ∙ argument_put a (put_further arcs rest) have.0)

  arguments_put : (arcs : List Arc) (rest : List ℕ) → AllByRecursion (λ a. a.target.number < count) arcs → arguments (nodes_from 0 count) arcs ++ rest ≡ put_arguments arcs rest
  arguments_put [] rest have = refl
  arguments_put (a ∷ arcs) rest have =
      ap (λ s. 91 ∷ s) (append_assoc (argument (nodes_from 0 count) a) (further_arguments (nodes_from 0 count) arcs) rest
      ∙ ap (λ s. argument (nodes_from 0 count) a ++ s) (further_put arcs rest have.1)
      ∙ argument_put a (put_further arcs rest) have.0)

  line_put : (i : ℕ) (node : Node) (rest : List ℕ) → i < count → AllByRecursion (λ a. a.target.number < count) node.arcs
      → (line_number (nodes_from 0 count) (numbered i) ++ content p (nodes_from 0 count) (Some node)) ++ rest ≡ put_node p i node rest
  line_put i node rest below have =
      append_assoc (line_number (nodes_from 0 count) (numbered i)) (content p (nodes_from 0 count) (Some node)) rest
      ∙ ap (λ s. line_number (nodes_from 0 count) (numbered i) ++ s) (append_assoc (mark_text node.mark) (label_text p node.label ++ (arguments (nodes_from 0 count) node.arcs ++ line_feed)) rest
      ∙ ap (λ s. mark_text node.mark ++ s) (append_assoc (label_text p node.label) (arguments (nodes_from 0 count) node.arcs ++ line_feed) rest
      ∙ ap (λ s. label_text p node.label ++ s) (append_assoc (arguments (nodes_from 0 count) node.arcs) line_feed rest ∙ arguments_put node.arcs (10 ∷ rest) have)))
      ∙ append_assoc (codes "@") (decimal (number_in (nodes_from 0 count) (numbered i)) ++ codes " ") (mark_text node.mark ++ (label_text p node.label ++ put_arguments node.arcs (10 ∷ rest)))
      ∙ ap (λ s. 64 ∷ s) (append_assoc (decimal (number_in (nodes_from 0 count) (numbered i))) (codes " ") (mark_text node.mark ++ (label_text p node.label ++ put_arguments node.arcs (10 ∷ rest))))
      ∙ ap (λ k. 64 ∷ (decimal k ++ (32 ∷ (mark_text node.mark ++ (label_text p node.label ++ put_arguments node.arcs (10 ∷ rest)))))) (number_is count (numbered i) below)

abbrev AreBelow : ℕ → Node → Type 0
AreBelow count node = AllByRecursion (λ a. a.target.number < count) node.arcs

module _ (p : Program) (g : Graph) where
  lines_put : (i : ℕ) (nodes : List Node) → ((j : ℕ) → slice_get nodes j ≡ slice_get g.nodes (i + j)) → i + length nodes ≡ length g.nodes → AllByRecursion (AreBelow (length g.nodes)) nodes
      → concat (map (node_line p g (nodes_from 0 (length g.nodes))) (nodes_from i (length nodes))) ≡ put_nodes p i nodes
  lines_put i [] same long below = refl
  lines_put i (node ∷ nodes) same long below =
      let number : i + 0 ≡ i = omega arith in
      let here : node_at g (numbered i) ≡ Some node = sym (same 0 ∙ ap (slice_get g.nodes) number) in
      ap (λ o. (line_number (nodes_from 0 (length g.nodes)) (numbered i) ++ content p (nodes_from 0 (length g.nodes)) o) ++ concat (map (node_line p g (nodes_from 0 (length g.nodes))) (nodes_from (i + 1) (length nodes)))) here
      ∙ ap (λ s. (line_number (nodes_from 0 (length g.nodes)) (numbered i) ++ content p (nodes_from 0 (length g.nodes)) (Some node)) ++ s)
      (lines_put (i + 1) nodes (λ j. same (suc j) ∙ ap (slice_get g.nodes) (step_number i j)) (omega (arith, long)) below.1)
      ∙ line_put p (length g.nodes) i node (put_nodes p (i + 1) nodes) (omega (arith, long)) below.0

  nodes_below : (nodes : List Node) → AllByRecursion (IsFineNode (length g.nodes)) nodes → AllByRecursion (AreBelow (length g.nodes)) nodes
  nodes_below [] fine = tt
  nodes_below (node ∷ nodes) fine = (recursion_from_All (λ a. a.target.number < length g.nodes) node.arcs fine.0.targets, nodes_below nodes fine.1)

  pub text_put : IsWellFormed g → IsCanonical g → (text : List ℕ) → IsGraphText p g text → text ≡ put_nodes p 0 g.nodes
  text_put fine canonical text has =
      has.lines ∙ ap (graph_lines p g) (has_one_order g (g.root ∷ []) [] has.order (nodes_from 0 (length g.nodes)) has.is_order canonical)
      ∙ lines_put 0 g.nodes (λ j. ap (slice_get g.nodes) (zero_number j)) (omega arith) (nodes_below g.nodes (recursion_from_All (IsFineNode (length g.nodes)) g.nodes fine.each))
