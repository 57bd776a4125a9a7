-- What a hand and a board are to their holders.
use Rattle.std.specs.Prelude.{◌≡◌, ℕ, ◌+◌, ◌<◌, ◌≤◌, List, [], ◌∷◌, length, map, Option, Some, None, nat_eq, if◌then◌else◌}
use Rattle.dactl_steal.specs.Sums.{added}
use Rattle.dactl_steal.specs.declared.other.Other.{Other}
use mathlib.Core.Option.{some}
use lib.ListN.{get_elem?}
use Rattle.crossbeam_deque.specs.Handles.{stealer_deque, worker_deque}
use Rattle.crossbeam_queue.specs.Passes.{view, IsPassOf}
use Rattle.dactl_model.specs.declared.graph.NodeId.{NodeId}
use Rattle.dactl_queue.specs.Accounts.{weigh}
use Rattle.dactl_steal.specs.Closing.{Row, slot_in, slot_out, all_stolen}
use Rattle.dactl_steal.specs.Deques.{WasEmpty}
use Rattle.dactl_steal.specs.Others.{DequeId, OthersFit, AreKept, WereEmpty, stolen}
use Rattle.dactl_steal.specs.Owns.{account_of, reserve_of, room_of as own_room, weight_in, weight_out, IsUsable, SameOwn}
use Rattle.dactl_steal.specs.declared.board.StealBoard.{StealBoard}
use Rattle.dactl_steal.specs.declared.board.StealHand.{StealHand}
use Rattle.dactl_steal.specs.declared.own.Own.{Own}
use Rattle.dactl_steal.specs.declared.roll.Member.{Member}

-- the nodes that a hand put, in order
abbrev pub put_of : StealHand → List NodeId
put_of h = (view h.badge).put

-- the nodes that it took, in order
abbrev pub taken_of : StealHand → List NodeId
taken_of h = (view h.badge).taken

-- how many of its offers were handed back
abbrev pub back_of : StealHand → ℕ
back_of h = h.back

-- the nodes that its deque could not take, and that it has not taken again
abbrev pub kept_of : StealHand → List NodeId
kept_of h = reserve_of h.own

-- how many nodes the reserve of each hand has room for
abbrev pub room_of : StealBoard → ℕ
room_of b = b.room

-- the deques of all hands, in the order of the hands
abbrev pub deques_of : StealBoard → List DequeId
deques_of b = map stealer_deque b.thieves.items

-- how many hands the board was made for
abbrev pub hands_of : StealBoard → ℕ
hands_of b = length b.thieves.items

-- what a hand with this number has of its own on this board
pub record OwnFits (b : StealBoard) (number : ℕ) (o : Own) : Type 0 where
  pub deque : get_elem? (deques_of b) number ≡ some (worker_deque o.deque)
  pub usable : IsUsable o
  pub parts : (account_of o).parts + hands_of b ≡ 257
  pub room : own_room o ≡ room_of b
  pub few : length (reserve_of o) ≤ room_of b

-- the hand is one of this board
pub record HandFits (b : StealBoard) (h : StealHand) : Type 0 where
  pub badge : IsPassOf b.roll h.badge
  pub stands : (view h.badge).numbers ≡ h.number ∷ []
  pub number : h.number < hands_of b
  pub own : OwnFits b h.number h.own
  pub others : OthersFit h.number (deques_of b) h.others.items
  pub few : length (kept_of h) ≤ length (put_of h)
  pub even : (weight : NodeId → ℕ) → weigh weight (put_of h) + weight_out weight h.own + stolen weight h.others.items ≡ weigh weight (taken_of h) + weight_in weight h.own

-- a hand of this board that has done nothing
abbrev pub IsFresh : StealBoard → StealHand → Type 0
IsFresh b h = HandFits b h × (put_of h ≡ []) × (taken_of h ≡ []) × (back_of h ≡ 0)

-- each deque was empty at a moment, and the reserve is empty
abbrev pub FoundNone : StealHand → Type 0
FoundNone h = WasEmpty (account_of h.own) × WereEmpty h.others.items × (kept_of h ≡ [])

-- it has the same badge and deque, no more in reserve, and as much of the others' deques
pub record SameHand (old new : StealHand) : Type 0 where
  pub badge : new.badge ≡ old.badge
  pub number : new.number ≡ old.number
  pub back : new.back ≡ old.back
  pub own : SameOwn old.own new.own
  pub kept : length (kept_of new) ≤ length (kept_of old)
  pub others : AreKept old.others.items new.others.items

-- how often a number stands in a list
abbrev pub times : ℕ → List ℕ → ℕ
times number numbers = added (λ n. if nat_eq n number then 1 else 0) numbers

-- the numbers of 256 for which the board itself stands: all, where every hand was given back
abbrev pub parts_of : StealBoard → ℕ
parts_of b = length (view b.keeper).numbers

-- what the hands that were given back put, and what they took
abbrev pub puts_of : StealBoard → List NodeId
puts_of b = (view b.keeper).put

abbrev pub takes_of : StealBoard → List NodeId
takes_of b = (view b.keeper).taken

-- what the board has at a place: all that the hand had, or nothing where the hand is out
abbrev pub IsBack : StealBoard → ℕ → Option Own → List (Option Other) → Type 0
IsBack b place None row = (times place (view b.keeper).numbers ≡ 0) × (row ≡ [])
IsBack b place (Some o) row = (0 < times place (view b.keeper).numbers) × OwnFits b place o × OthersFit place (deques_of b) row

-- the board has what the hands had that were given back
pub record IsBoard (b : StealBoard) : Type 0 where
  pub keeper : IsPassOf b.roll b.keeper
  pub few : hands_of b ≤ 255
  pub owns : length b.owns.items ≡ hands_of b
  pub rows : length b.rows.items ≡ hands_of b
  pub back : (place : ℕ) (slot : Option Own) (row : Row) → get_elem? b.owns.items place ≡ some slot → get_elem? b.rows.items place ≡ some row → IsBack b place slot row.items
  pub even : (weight : NodeId → ℕ) → weigh weight (puts_of b) + added (slot_out weight) b.owns.items + all_stolen weight b.rows.items
      ≡ weigh weight (takes_of b) + added (slot_in weight) b.owns.items

-- the board has the same deques and as much room
abbrev pub IsSameBoard : StealBoard → StealBoard → Type 0
IsSameBoard b c = (c.roll ≡ b.roll) × (c.thieves ≡ b.thieves) × (c.room ≡ b.room)
