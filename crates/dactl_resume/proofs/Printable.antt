-- A restriction has the labels of its graph, and no more nodes.
use Rattle.std.proofs.Common.{◌≡◌, ℕ, ◌≤◌, List, [], ◌∷◌, length, All, Some, slice_get, sym, arith, inl, inr}
use Rattle.std.specs.List.{AllByRecursion}
use Rattle.std.proofs.lemmas.Option.{slice_get-get_or}
use Rattle.dactl_model.specs.declared.graph.NodeId.{NodeId}
use Rattle.dactl_model.specs.declared.graph.Label.{Label}
use Rattle.dactl_model.specs.declared.graph.Node.{Node}
use Rattle.dactl_model.specs.declared.graph.Graph.{Graph}
use Rattle.dactl_model.specs.Graphs.{HasNode}
use Rattle.dactl_model.proofs.Pairs.{All-slice_get}
use Rattle.dactl_print.specs.Lines.{IsLabelAmong}
use Rattle.dactl_within.specs.Renumbering.{renumbered, image, nodes_from}
use Rattle.dactl_within.proofs.FireKept.{numbered}
use Rattle.dactl_within.proofs.StepKept.{length-nodes_from}
use Rattle.dactl_resume.specs.Restriction.{IsRestriction, IsOfLanguage}
use Rattle.dactl_resume.specs.Statements.{RestrictionIsPrintable}
use Rattle.dactl_resume.proofs.Among.{Among}
use Rattle.dactl_resume.proofs.Existing.{AreDistinct, visits_distinct, visits_in}
use Rattle.dactl_resume.proofs.Ordering.{without, one_less, kept, all_left}

each_still : (x : NodeId) (xs ys : List NodeId) → (Among xs x → ⊥) → AllByRecursion (Among ys) xs → AllByRecursion (Among (without x ys)) xs
each_still x [] ys new all = tt
each_still x (z ∷ xs) ys new all = (
  elim (kept x z ys all.0) [ inl at ↦ absurd (new (inl (sym at))) | inr still ↦ still ],
  each_still x xs ys (λ is. new (inr is)) all.1,
)

-- different members of a list are no more than it has
no_more_than : (xs ys : List NodeId) → AreDistinct xs → AllByRecursion (Among ys) xs → length xs ≤ length ys
no_more_than [] ys distinct all = omega arith
no_more_than (x ∷ xs) ys distinct all =
    let less = one_less x ys all.0 in
    let rest = no_more_than xs (without x ys) distinct.1 (each_still x xs ys distinct.0 all.1) in
    omega (arith, less, rest)

each_numbered : (g : Graph) (ns : List NodeId) → AllByRecursion (HasNode g) ns → AllByRecursion (Among (nodes_from 0 (length g.nodes))) ns
each_numbered g [] all = tt
each_numbered g (n ∷ ns) all = (all_left 0 (length g.nodes) n.number (omega arith) (omega (arith, all.0)), each_numbered g ns all.1)

module _ (g h : Graph) (order : List NodeId) (is : IsRestriction g order h) (P : Label → Type 0) (all : All (λ node. P node.label) g.nodes) where
  label_at : (i : ℕ) (node : Node) → slice_get h.nodes i ≡ Some node → P node.label
  label_at i node at = All-slice_get (λ (z : Node). P z.label) g.nodes (image order (numbered i)).number (renumbered (image order) node) all (is.within.renumbers.nodes (numbered i) node at)

  labels_kept : All (λ node. P node.label) h.nodes
  labels_kept i d below = label_at i _ (slice_get-get_or h.nodes i d below)

pub restriction_is_printable : RestrictionIsPrintable
restriction_is_printable p g h order fine printable is =
    let most : length order ≤ length (nodes_from 0 (length g.nodes)) = no_more_than order (nodes_from 0 (length g.nodes)) (visits_distinct is.is_order tt) (each_numbered g order (visits_in fine is.is_order (fine.root, tt) tt)) in
    record {
      symbols = labels_kept g h order is (λ l. IsLabelAmong (length p.symbols) l) printable.symbols;
      language = labels_kept g h order is (IsOfLanguage p.wide) printable.language;
      few = omega (arith, most, length-nodes_from 0 (length g.nodes), is.within.long, printable.few);
    }
