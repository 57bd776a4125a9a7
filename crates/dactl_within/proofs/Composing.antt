-- A part of a part is a part.
use Rattle.std.proofs.Common.{◌≡◌, List, [], ◌∷◌, map, Some, refl, sym, ◌∙◌, ap, arith}
use Rattle.std.specs.List.{AllByRecursion}
use Rattle.std.proofs.lemmas.List.{length-map}
use Rattle.dactl_model.specs.declared.graph.NodeId.{NodeId}
use Rattle.dactl_model.specs.declared.graph.Arc.{Arc}
use Rattle.dactl_model.specs.declared.graph.Graph.{Graph}
use Rattle.dactl_model.specs.Graphs.{node_at, HasNode, IsWellFormed}
use Rattle.dactl_model.specs.Firing.{redirected_arc}
use Rattle.dactl_model.proofs.Pairs.{has_node}
use Rattle.dactl_within.specs.Renumbering.{renumbered, image, IsWithin, IsIdleBeside}
use Rattle.dactl_within.specs.Statements.{PartOfPart}
use Rattle.dactl_within.proofs.FireKept.{node_with}
use Rattle.dactl_within.proofs.Places.{NodeThere, node_there, targets_in, bound-map, image_has}

module _ (f e : List NodeId) (k h g : Graph) (fine : IsWellFormed k) (outer : IsWithin f h g) (inner : IsWithin e k h) where
  two_images : (x : NodeId) → HasNode k x → image (map (image f) e) x ≡ image f (image e x)
  two_images x has = bound-map (image f) e x.number (omega (arith, inner.long, has))

  there : (x : NodeId) → HasNode k x → HasNode h (image e x)
  there x has = image_has (image e) k h inner.renumbers x has

  two_arcs : (arcs : List Arc) → AllByRecursion (λ a. HasNode k a.target) arcs → map (redirected_arc (image f)) (map (redirected_arc (image e)) arcs) ≡ map (redirected_arc (image (map (image f) e))) arcs
  two_arcs [] have = refl
  two_arcs (a ∷ arcs) have = rw (two_images a.target have.0, two_arcs arcs have.1) refl

  part : IsWithin (map (image f) e) k g
  part = record {
    long = length-map e (image f) ∙ inner.long;
    renumbers = record {
      once = λ x y has also same.
          inner.renumbers.once x y has also (outer.renumbers.once (image e x) (image e y) (there x has) (there y also) (sym (two_images x has) ∙ same ∙ two_images y also));
      nodes = λ x node at.
          ap (node_at g) (two_images x (has_node k x node at)) ∙ outer.renumbers.nodes (image e x) (renumbered (image e) node) (inner.renumbers.nodes x node at)
          ∙ ap (λ arcs. Some (node_with node.label arcs node.mark)) (two_arcs node.arcs (targets_in k x node fine at));
      root = outer.renumbers.root ∙ ap (image f) inner.renumbers.root ∙ sym (two_images k.root fine.root);
    };
  }

  both_beside : IsIdleBeside f h g → IsIdleBeside e k h → IsIdleBeside (map (image f) e) k g
  both_beside one other y node at busy =
      let from = one y node at busy in
      let was : NodeThere h from.origin = node_there h from.origin from.has in
      let both : Some (renumbered (image f) was.0) ≡ Some node = sym (outer.renumbers.nodes from.origin was.0 was.1) ∙ sym (ap (node_at g) from.is) ∙ at in
      let same : renumbered (image f) was.0 ≡ node = cc in
      let mark : was.0.mark ≡ node.mark = ap (λ z. z.mark) same in
      let first = other from.origin was.0 was.1 (λ idle. busy (sym mark ∙ idle)) in
      record { origin = first.origin; has = first.has; is = from.is ∙ ap (image f) first.is ∙ sym (two_images first.origin first.has) }

pub part_of_part : PartOfPart
part_of_part f e k h g fine outer inner = (part f e k h g fine outer inner, both_beside f e k h g fine outer inner)
