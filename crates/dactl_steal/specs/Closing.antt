-- What is counted when a board is closed.
use Rattle.std.specs.Prelude.{◌≡◌, ℕ, ◌+◌, ◌≤◌, List, [], ◌∷◌, ◌++◌, length, Option, Some, None, Vec}
use mathlib.Core.Option.{some}
use lib.ListN.{get_elem?}
use Rattle.crossbeam_deque.specs.Handles.{worker_deque}
use Rattle.dactl_model.specs.declared.graph.NodeId.{NodeId}
use Rattle.dactl_queue.specs.declared.rule.Account.{Account}
use Rattle.dactl_queue.specs.Accounts.{joined}
use Rattle.dactl_steal.specs.Sums.{added}
use Rattle.dactl_steal.specs.Others.{DequeId, SlotFits, deque_of, trail_of, stolen, IsUsable}
use Rattle.dactl_steal.specs.Owns.{account_of, weight_in, weight_out}
use Rattle.dactl_steal.specs.declared.other.Other.{Other}
use Rattle.dactl_steal.specs.declared.own.Own.{Own}
use Rattle.std.specs.declared.alloc.Global.{Global}

abbrev pub Row : Type 0
Row = Vec (Option Other) Global

-- the slot is none, or a part of this deque
abbrev pub IsOf : DequeId → Option Other → Type 0
IsOf deque None = Unit {0}
IsOf deque (Some o) = (deque_of o ≡ deque) × IsUsable o

-- the last slot of the row is one of this deque
abbrev pub EndsWith : DequeId → List (Option Other) → Type 0
EndsWith deque row = (front : List (Option Other)) (slot : Option Other) → row ≡ front ++ slot ∷ [] → IsOf deque slot

-- an account after a part was given back to it
abbrev pub having_back : Account → Option Other → Account
having_back v None = v
having_back v (Some o) = joined v (trail_of o)

-- the rows of all hands, of the first `count` deques
pub record RowsFit (deques : List DequeId) (count : ℕ) (rows : List Row) : Type 0 where
  pub long : (place : ℕ) (row : Row) → get_elem? rows place ≡ some row → length row.items ≡ count
  pub each : (place : ℕ) (row : Row) → get_elem? rows place ≡ some row → (j : ℕ) (slot : Option Other) → get_elem? row.items j ≡ some slot → SlotFits place deques j slot

-- the weight of what all hands took from the deques of others
abbrev pub all_stolen : (NodeId → ℕ) → List Row → ℕ
all_stolen weight rows = added (λ (r : Row). stolen weight r.items) rows

-- the weight of what came in to a hand's own, and of what was taken from its deque
abbrev pub slot_in : (NodeId → ℕ) → Option Own → ℕ
slot_in weight None = 0
slot_in weight (Some o) = weight_in weight o

abbrev pub slot_out : (NodeId → ℕ) → Option Own → ℕ
slot_out weight None = 0
slot_out weight (Some o) = weight_out weight o

-- the hands' own, and their rows, of the first deques: the parts of each deque are there
pub record AllBack (deques : List DequeId) (owns : List (Option Own)) (rows : List Row) : Type 0 where
  pub long : length owns ≤ length rows
  pub mine : (place : ℕ) (slot : Option Own) → get_elem? owns place ≡ some slot → (o : Own) × (slot ≡ Some o) × (get_elem? deques place ≡ some (worker_deque o.deque)) × ((account_of o).parts + length rows ≡ 257)
  pub fits : RowsFit deques (length owns) rows
