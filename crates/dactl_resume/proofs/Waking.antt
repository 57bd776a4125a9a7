-- A waiting node beside the print becomes active.
use Rattle.std.proofs.Common.{◌≡◌, ℕ, zero, suc, ◌<◌, [], ◌∷◌, Some, IsSomeAnd, slice_get, refl, ap, arith}
use Rattle.std.proofs.lemmas.List.Elements.{All-from_recursion}
use Rattle.dactl_model.specs.declared.graph.NodeId.{NodeId}
use Rattle.dactl_model.specs.declared.graph.Mark.TheVariants.{Idle, Active, Waiting}
use Rattle.dactl_model.specs.declared.graph.Node.{Node}
use Rattle.dactl_model.specs.Graphs.{node_at, IsFineNode, IsWellFormed}
use Rattle.dactl_model.specs.Noting.{noted}
use Rattle.dactl_print.specs.Order.{ended, joined, IsOrder}
use Rattle.dactl_within.specs.Renumbering.{renumbered, image}
use Rattle.dactl_within.proofs.FireKept.{numbered}
use Rattle.dactl_resume.specs.Example.{first_id, quiet_node, both_nodes, first_alone, WakesBeside}
use Rattle.dactl_resume.proofs.Among.{among}

idle_active : Idle ≡ Active → ⊥
idle_active e = cc

waiting_active : Waiting 1 ≡ Active → ⊥
waiting_active e = cc

none_active : (k : ℕ) → IsSomeAnd (slice_get (noted first_alone first_id).nodes k) (λ node. node.mark ≡ Active) → ⊥
none_active zero is = idle_active is
none_active (suc k) is = is

first_only : (k : ℕ) → IsSomeAnd (slice_get both_nodes.nodes k) (λ node. node.mark ≡ Active) → k ≡ 0
first_only zero is = refl
first_only (suc zero) is = absurd (waiting_active is)
first_only (suc (suc k)) is = absurd is

alone_fine : IsWellFormed first_alone
alone_fine = record {
  some = omega arith;
  root = omega arith;
  each = All-from_recursion (IsFineNode 1) (quiet_node ∷ []) (record { targets = λ k d below. absurd (omega arith); few = omega arith; label = tt; mark = tt }, tt);
}

alone_order : IsOrder both_nodes (first_id ∷ [])
alone_order = joined (λ c. among [] first_id c) ended ended

node_first : (k : ℕ) (node : Node) → slice_get (quiet_node ∷ []) k ≡ Some node → node_at both_nodes (image (first_id ∷ []) (numbered k)) ≡ Some (renumbered (image (first_id ∷ [])) node)
node_first zero node at = let same : quiet_node ≡ node = cc in ap (λ z. Some (renumbered (image (first_id ∷ [])) z)) same
node_first (suc k) node at = absurd (cc at)

only_zero : (x y : NodeId) → x.number < 1 → y.number < 1 → x ≡ y
only_zero x y one other = let same : x.number ≡ y.number = omega arith in ap numbered same

pub wakes_beside : WakesBeside
wakes_beside = record {
  restriction = record {
    fine = alone_fine;
    is_order = alone_order;
    within = record {
      long = refl;
      renumbers = record { once = λ x y has also e. only_zero x y has also; nodes = λ x node at. node_first x.number node at; root = refl };
    };
  };
  reached = λ n active. ap numbered (first_only n.number active);
  wakes = refl;
  passive = λ n active. none_active n.number active;
}
