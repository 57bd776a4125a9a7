-- A notification by a node and one by its image lead to graphs that are renumbered alike.
use Rattle.std.proofs.Common.{◌≡◌, ◌+◌, ◌&&◌, cond, List, [], ◌∷◌, map, length, count_by, Some, refl, sym, ◌∙◌, ap, arith, if◌then◌else◌}
use Rattle.std.specs.List.{AllByRecursion}
use Rattle.dactl_model.specs.declared.graph.NodeId.{NodeId}
use Rattle.dactl_model.specs.declared.graph.Arc.{Arc}
use Rattle.dactl_model.specs.declared.graph.Mark.TheVariants.{Idle}
use Rattle.dactl_model.specs.declared.graph.Node.{Node}
use Rattle.dactl_model.specs.declared.graph.Graph.{Graph}
use Rattle.dactl_model.specs.Patterns.{same_node}
use Rattle.dactl_model.specs.Graphs.{node_at, HasNode, IsWellFormed}
use Rattle.dactl_model.specs.Firing.{redirected_arc}
use Rattle.dactl_model.specs.Noting.{waits_for, cleared, noted_mark, noted_node, noted}
use Rattle.dactl_model.proofs.Counting.{count_by-cons}
use Rattle.dactl_model.proofs.KeptNote.{length-noted_nodes}
use Rattle.dactl_model.proofs.Pairs.{has_node}
use Rattle.dactl_within.specs.Renumbering.{renumbered, Renumbers}
use Rattle.dactl_within.proofs.Places.{NodeThere, node_there, targets_in, same_kept}
use Rattle.dactl_within.proofs.After.{noted_after}
use Rattle.dactl_within.proofs.FireKept.{node_with}

pub has_noted : (g : Graph) (n x : NodeId) → HasNode (noted g n) x → HasNode g x
has_noted g n x has = let long : length (noted g n).nodes ≡ length g.nodes = length-noted_nodes n 0 g.nodes in omega (arith, long, has)

module _ (f : NodeId → NodeId) (h g : Graph) (fine : IsWellFormed h) (is : Renumbers f h g) (n : NodeId) (has : HasNode h n) where
  target_kept : (x : NodeId) → HasNode h x → same_node (f x) (f n) ≡ same_node x n
  target_kept x old = same_kept f x n (is.once x n old has)

  cleared_kept : (arcs : List Arc) → AllByRecursion (λ a. HasNode h a.target) arcs → map (cleared (f n)) (map (redirected_arc f) arcs) ≡ map (redirected_arc f) (map (cleared n) arcs)
  cleared_kept [] have = refl
  cleared_kept (a ∷ arcs) have = rw (target_kept a.target have.0, cleared_kept arcs have.1) refl

  count_kept : (arcs : List Arc) → AllByRecursion (λ a. HasNode h a.target) arcs → count_by (waits_for (f n)) (map (redirected_arc f) arcs) ≡ count_by (waits_for n) arcs
  count_kept [] have = refl
  count_kept (a ∷ arcs) have =
      count_by-cons (waits_for (f n)) (redirected_arc f a) (map (redirected_arc f) arcs)
      ∙ ap (λ c. cond (a.waits && c) 1 0 + count_by (waits_for (f n)) (map (redirected_arc f) arcs)) (target_kept a.target have.0)
      ∙ ap (λ c. cond (a.waits && same_node a.target n) 1 0 + c) (count_kept arcs have.1)
      ∙ sym (count_by-cons (waits_for n) a arcs)

  node_kept : (x : NodeId) (node : Node) → HasNode h x → AllByRecursion (λ a. HasNode h a.target) node.arcs → noted_node (f n) (f x).number (renumbered f node) ≡ renumbered f (noted_node n x.number node)
  node_kept x node old have =
      ap (λ arcs. node_with node.label arcs (if same_node (f x) (f n) then Idle else noted_mark (count_by (waits_for (f n)) (map (redirected_arc f) node.arcs)) node.mark)) (cleared_kept node.arcs have)
      ∙ ap (λ c. node_with node.label (map (redirected_arc f) (map (cleared n) node.arcs)) (if c then Idle else noted_mark (count_by (waits_for (f n)) (map (redirected_arc f) node.arcs)) node.mark)) (target_kept x old)
      ∙ ap (λ j. node_with node.label (map (redirected_arc f) (map (cleared n) node.arcs)) (if same_node x n then Idle else noted_mark j node.mark)) (count_kept node.arcs have)

  nodes_kept : (x : NodeId) (node : Node) → HasNode h x → node_at (noted h n) x ≡ Some node → node_at (noted g (f n)) (f x) ≡ Some (renumbered f node)
  nodes_kept x node old at =
      let there : NodeThere h x = node_there h x old in
      let was : Some (noted_node n x.number there.0) ≡ Some node = sym (noted_after h n x there.0 there.1) ∙ at in
      let same : noted_node n x.number there.0 ≡ node = cc in
      noted_after g (f n) (f x) (renumbered f there.0) (is.nodes x there.0 there.1)
      ∙ ap Some (node_kept x there.0 old (targets_in h x there.0 fine there.1) ∙ ap (renumbered f) same)

  pub noted_kept : Renumbers f (noted h n) (noted g (f n))
  noted_kept = record {
    once = λ x y one other e. is.once x y (has_noted h n x one) (has_noted h n y other) e;
    nodes = λ x node at. nodes_kept x node (has_noted h n x (has_node (noted h n) x node at)) at;
    root = is.root;
  }
