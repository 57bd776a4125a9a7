-- Nodes and their images.
use Rattle.std.proofs.Common.{◌≡◌, ℕ, zero, suc, ◌<◌, Bool, true, false, List, [], ◌∷◌, map, length, All, Some, slice_get, refl, sym, ◌∙◌, ap, subst, arith, inl, inr}
use Rattle.std.specs.List.{AllByRecursion}
use Rattle.std.proofs.lemmas.Bool.{eq-eqb}
use Rattle.std.proofs.lemmas.List.Elements.{recursion_from_All}
use Rattle.std.proofs.lemmas.Option.{slice_get_cases, slice_get-map, unwrap_or-slice_get}
use Rattle.dactl_model.specs.declared.graph.NodeId.{NodeId}
use Rattle.dactl_model.specs.declared.graph.Arc.{Arc}
use Rattle.dactl_model.specs.declared.graph.Node.{Node}
use Rattle.dactl_model.specs.declared.graph.Graph.{Graph}
use Rattle.dactl_model.specs.Patterns.{same_node}
use Rattle.dactl_model.specs.Graphs.{node_at, HasNode, IsFineNode, IsWellFormed}
use Rattle.dactl_model.specs.Matching.{bound_node}
use Rattle.dactl_model.specs.Firing.{redirected_arc}
use Rattle.dactl_model.proofs.Unique.{same_node_is}
use Rattle.dactl_model.proofs.Pairs.{All-slice_get, has_node}
use Rattle.dactl_within.specs.Renumbering.{renumbered, Renumbers}

pub alike : (a b : Bool) → (a ≡ true → b ≡ true) → (b ≡ true → a ≡ true) → a ≡ b
alike true true there back = refl
alike true false there back = sym (there refl)
alike false true there back = back refl
alike false false there back = refl

pub same_node_refl : (n : NodeId) → same_node n n ≡ true
same_node_refl n = eq-eqb n.number n.number refl

-- a map that keeps two nodes apart keeps the test
pub same_kept : (f : NodeId → NodeId) (x y : NodeId) → (f x ≡ f y → x ≡ y) → same_node (f x) (f y) ≡ same_node x y
same_kept f x y once =
    alike (same_node (f x) (f y)) (same_node x y)
    (λ e. subst (λ z. same_node x z ≡ true) (once (same_node_is (f x) (f y) e)) (same_node_refl x))
    (λ e. subst (λ z. same_node (f x) (f z) ≡ true) (same_node_is x y e) (same_node_refl (f x)))

-- the node with its number
abbrev pub NodeThere : Graph → NodeId → Type 0
NodeThere g n = (node : Node) × (node_at g n ≡ Some node)

pub node_there : (g : Graph) (n : NodeId) → HasNode g n → NodeThere g n
node_there g n has =
    elim (slice_get_cases g.nodes n.number).1 [
      | inl (node, below, at, same) ↦ (node, at)
      | inr (past, none) ↦ absurd (omega arith)
    ]

-- the targets of a node are nodes
pub targets_in : (g : Graph) (n : NodeId) (node : Node) → IsWellFormed g → node_at g n ≡ Some node → AllByRecursion (λ a. HasNode g a.target) node.arcs
targets_in g n node fine at =
    let here : IsFineNode (length g.nodes) node = All-slice_get (IsFineNode (length g.nodes)) g.nodes n.number node fine.each at in
    recursion_from_All (λ a. HasNode g a.target) node.arcs here.targets

pub bound_has : (g : Graph) (b : List NodeId) (v : ℕ) → All (HasNode g) b → v < length b → HasNode g (bound_node b v)
bound_has g b v all below = rw (unwrap_or-slice_get b v) (all v _ below)

pub bound-map_at : (f : NodeId → NodeId) (b : List NodeId) (v : ℕ) (x : NodeId) → slice_get b v ≡ Some x → bound_node (map f b) v ≡ f (bound_node b v)
bound-map_at f b v x at = rw (slice_get-map f b v, at) refl

pub bound-map : (f : NodeId → NodeId) (b : List NodeId) (v : ℕ) → v < length b → bound_node (map f b) v ≡ f (bound_node b v)
bound-map f b v below =
    elim (slice_get_cases b v).1 [
      | inl (x, within, at, same) ↦ bound-map_at f b v x at
      | inr (past, none) ↦ absurd (omega arith)
    ]

-- maps that agree on the targets of the arcs
pub same_arcs : (f f' : NodeId → NodeId) (P : NodeId → Type 0) → ((x : NodeId) → P x → f' x ≡ f x) → (arcs : List Arc) → AllByRecursion (λ a. P a.target) arcs → map (redirected_arc f) arcs ≡ map (redirected_arc f') arcs
same_arcs f f' P agree [] all = refl
same_arcs f f' P agree (a ∷ arcs) all = rw (agree a.target all.0, same_arcs f f' P agree arcs all.1) refl

-- the image of a node is a node
pub image_has : (f : NodeId → NodeId) (h g : Graph) → Renumbers f h g → (x : NodeId) → HasNode h x → HasNode g (f x)
image_has f h g is x has = let there = node_there h x has in has_node g (f x) (renumbered f there.0) (is.nodes x there.0 there.1)

-- another map that agrees on the nodes of the graph
pub agrees : (f f' : NodeId → NodeId) (h g : Graph) → IsWellFormed h → ((x : NodeId) → HasNode h x → f' x ≡ f x) → Renumbers f h g → Renumbers f' h g
agrees f f' h g fine agree is = record {
  once = λ x y has also e. is.once x y has also (sym (agree x has) ∙ e ∙ agree y also);
  nodes = λ x node at.
      ap (node_at g) (agree x (has_node h x node at)) ∙ is.nodes x node at
      ∙ ap (λ arcs. Some (record { label = node.label; arcs = arcs; mark = node.mark })) (same_arcs f f' (HasNode h) agree node.arcs (targets_in h x node fine at));
  root = is.root ∙ sym (agree h.root fine.root);
}

pub each_at : {A : Type 0} (P : A → Type 0) (xs : List A) (k : ℕ) (x : A) → AllByRecursion P xs → slice_get xs k ≡ Some x → P x
each_at P [] k x all at = absurd (cc at)
each_at P (y ∷ ys) zero x all at = let same : y ≡ x = cc in subst P same all.0
each_at P (y ∷ ys) (suc k) x all at = each_at P ys k x all.1 at
