use Rattle.std.proofs.Common.{◌≡◌, ℕ, ◌+◌, ◌-◌, ◌^◌, List, length, min, vec_len}
use Rattle.dactl_model.specs.declared.graph.NodeId.{NodeId}
use Rattle.dactl_queue.specs.Accounts.{weigh}
use Rattle.dactl_steal.specs.Closing.{AllBack, all_stolen, slot_in, slot_out}
use Rattle.dactl_steal.specs.Others.{DequeId}
use Rattle.dactl_steal.specs.Sums.{added}
use Rattle.dactl_steal.proofs.closing.all_left.Given as goal

abbrev pub invariant-loop-slot : goal.invariant-loop-slot
invariant-loop-slot l = (left : List NodeId) × (min (length left) (2 ^ 64 - 1) ≡ l.left)
    × ((deques : List DequeId) → AllBack deques l.initial.owns.items l.initial.rows.items → AllBack deques l.owns.items l.rows.items
    × ((weight : NodeId → ℕ) → added (slot_in weight) l.initial.owns.items + added (slot_out weight) l.owns.items + all_stolen weight l.rows.items
    ≡ added (slot_in weight) l.owns.items + added (slot_out weight) l.initial.owns.items + all_stolen weight l.initial.rows.items + weigh weight left))

abbrev pub decreases-loop-slot : goal.decreases-loop-slot
decreases-loop-slot l = vec_len l.owns
