-- What a hand has of the deques of other hands, in the order of the hands. At its own place there is none.
use Rattle.std.specs.Prelude.{◌≡◌, ◌≢◌, ℕ, ◌<◌, List, [], length, Option, Some, None}
use mathlib.Core.Option.{some}
use lib.ListN.{get_elem?}
use Rattle.atomic_blocks.specs.Lent.{RowsId}
use Rattle.crossbeam_deque.specs.Handles.{view, IsPassOf, stealer_deque, stealer_flavor}
use Rattle.dactl_steal.specs.Sums.{added}
use Rattle.dactl_model.specs.declared.graph.NodeId.{NodeId}
use Rattle.dactl_queue.specs.declared.rule.Account.{Account}
use Rattle.dactl_queue.specs.Accounts.{weigh}
use Rattle.dactl_steal.specs.Deques.{WasEmpty}
use Rattle.dactl_steal.specs.declared.other.Other.{Other}
use Rattle.std.specs.declared.alloc.Global.{Global}

-- which deque it is
abbrev pub DequeId : Type 0
DequeId = RowsId × Global

abbrev pub deque_of : Other → DequeId
deque_of o = stealer_deque o.thief

-- what this hand did on that deque
abbrev pub trail_of : Other → Account
trail_of o = view o.pass

-- the hand may take from it, and has put nothing there
pub record IsUsable (o : Other) : Type 0 where
  pub pass : IsPassOf (deque_of o) o.pass
  pub first : stealer_flavor o.thief ≡ 0
  pub part : (trail_of o).parts ≡ 1
  pub put : (trail_of o).put ≡ []

abbrev pub IsUsableSlot : Option Other → Type 0
IsUsableSlot None = Unit {0}
IsUsableSlot (Some o) = IsUsable o

abbrev pub SlotWasEmpty : Option Other → Type 0
SlotWasEmpty None = Unit {0}
SlotWasEmpty (Some o) = WasEmpty (trail_of o)

-- the weight of what the hand took there
abbrev pub slot_stolen : (NodeId → ℕ) → Option Other → ℕ
slot_stolen weight None = 0
slot_stolen weight (Some o) = weigh weight (trail_of o).taken

abbrev pub stolen : (NodeId → ℕ) → List (Option Other) → ℕ
stolen weight others = added (slot_stolen weight) others

-- the deque at this place, or none at the hand's own
abbrev pub SlotFits : ℕ → List DequeId → ℕ → Option Other → Type 0
SlotFits me deques place None = place ≡ me
SlotFits me deques place (Some o) = (place ≢ me) × (get_elem? deques place ≡ some (deque_of o)) × IsUsable o

-- wherever the old one fits the new one does
abbrev pub SlotKept : Option Other → Option Other → Type 0
SlotKept old new = IsUsableSlot new × ((me : ℕ) (deques : List DequeId) (place : ℕ) → SlotFits me deques place old → SlotFits me deques place new)

module _ (others : List (Option Other)) where
  abbrev pub AreUsable : Type 0
  AreUsable = (place : ℕ) (slot : Option Other) → get_elem? others place ≡ some slot → IsUsableSlot slot

  abbrev pub WereEmpty : Type 0
  WereEmpty = (place : ℕ) (slot : Option Other) → get_elem? others place ≡ some slot → SlotWasEmpty slot

-- the others of the hand with this number
pub record OthersFit (me : ℕ) (deques : List DequeId) (others : List (Option Other)) : Type 0 where
  pub count : length others ≡ length deques
  pub each : (place : ℕ) (slot : Option Other) → get_elem? others place ≡ some slot → SlotFits me deques place slot

abbrev pub AreKept : List (Option Other) → List (Option Other) → Type 0
AreKept old new = (me : ℕ) (deques : List DequeId) → OthersFit me deques old → OthersFit me deques new
