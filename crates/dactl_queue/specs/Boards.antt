-- What a hand and a board are to their holders.
use Rattle.std.specs.Prelude.{◌≡◌, ℕ, true, List, [], nat_eq, if◌then◌else◌}
use Rattle.std.specs.Prelude.{Option}
use Rattle.crossbeam_queue.specs.Passes.{view, IsPassOf, ruled_capacity}
use Rattle.crossbeam_queue.specs.declared.array_queue.Slotted.{Slotted}
use Rattle.crossbeam_queue.specs.declared.array_queue.Doing.{Doing}
use Rattle.dactl_model.specs.declared.graph.NodeId.{NodeId}
use Rattle.dactl_queue.specs.declared.rule.Account.{Account}
use Rattle.dactl_queue.specs.declared.ruled.RuledHand.{RuledHand}
use Rattle.dactl_queue.specs.declared.ruled.RuledBoard.{RuledBoard}

-- all that a hand knows
abbrev pub account_of : RuledHand → Account
account_of h = view h.pass

-- the nodes that a hand put, in order
abbrev pub put_of : RuledHand → List NodeId
put_of h = (account_of h).put

-- the nodes that it took, in order
abbrev pub taken_of : RuledHand → List NodeId
taken_of h = (account_of h).taken

-- how many of its offers were handed back
abbrev pub back_of : RuledHand → ℕ
back_of h = h.back

-- how many nodes the board has room for
abbrev pub room_of : RuledBoard → ℕ
room_of b = ruled_capacity b.queue

-- how many hands the board was made for
abbrev pub hands_of : RuledBoard → ℕ
hands_of b = b.hands

-- how many of the 256 parts of the whole each hand has: one, or all where it is the only hand
abbrev pub share_of : RuledBoard → ℕ
share_of b = (if nat_eq b.hands 1 then 256 else 1)

-- how many parts the board itself has: all, where every hand was given back
abbrev pub parts_of : RuledBoard → ℕ
parts_of b = (view b.maker).parts

-- what the hands that were given back put, and what they took
abbrev pub puts_of : RuledBoard → List NodeId
puts_of b = (view b.maker).put

abbrev pub takes_of : RuledBoard → List NodeId
takes_of b = (view b.maker).taken

-- the hand is one of this board
abbrev pub HandFits : RuledBoard → RuledHand → Type 0
HandFits b h = IsPassOf b.queue h.pass × ((account_of h).parts ≡ share_of b) × (b.hands ≡ 1 → (account_of h).solo ≡ true)

-- a hand of this board that has done nothing
abbrev pub IsFresh : RuledBoard → RuledHand → Type 0
IsFresh b h = HandFits b h × (put_of h ≡ []) × (taken_of h ≡ []) × (back_of h ≡ 0)

-- the board has the same queue and as many hands
abbrev pub IsSameBoard : RuledBoard → RuledBoard → Type 0
IsSameBoard b c = (c.queue ≡ b.queue) × (c.hands ≡ b.hands)

-- a hand with one part of the queue's whole, which has done nothing
abbrev pub IsOneOf : {Q A : Type 0} → Slotted (Option NodeId) (Doing NodeId Account) Q A → RuledHand → Type 0
IsOneOf q h = IsPassOf q h.pass × ((account_of h).parts ≡ 1) × (put_of h ≡ []) × (taken_of h ≡ []) × (back_of h ≡ 0)
