-- The hands of a board while it is made.
use Rattle.std.specs.Prelude.{◌≡◌, ◌≢◌, ℕ, ◌+◌, ◌-◌, ◌<◌, ◌≤◌, List, [], ◌∷◌, length, map}
use mathlib.Core.Option.{some}
use lib.ListN.{get_elem?}
use Rattle.crossbeam_deque.specs.Handles.{stealer_deque, worker_deque, worker_flavor}
use Rattle.crossbeam_queue.specs.Passes.{view, IsPassOf}
use Rattle.crossbeam_queue.specs.declared.array_queue.Slotted.{Slotted}
use Rattle.crossbeam_queue.specs.declared.array_queue.Doing.{Doing}
use Rattle.dactl_model.specs.declared.graph.NodeId.{NodeId}
use Rattle.dactl_steal.specs.Members.{member, numbers_from}
use Rattle.dactl_steal.specs.Others.{DequeId, OthersFit, stolen}
use Rattle.dactl_steal.specs.Owns.{account_of, reserve_of, room_of as own_room}
use Rattle.dactl_steal.specs.declared.board.StealHand.{StealHand}
use Rattle.dactl_steal.specs.declared.own.Own.{Own}
use Rattle.dactl_steal.specs.declared.roll.Member.{Member}
use Rattle.std.specs.Prelude.{Option}

-- what a hand has of its own, while `lent` parts of its deque are out
pub record IsNewOwn (room lent : ℕ) (o : Own) : Type 0 where
  pub first : worker_flavor o.deque ≡ 0
  pub parts : (account_of o).parts + lent ≡ 256
  pub put : (account_of o).put ≡ []
  pub taken : (account_of o).taken ≡ []
  pub reserve : reserve_of o ≡ []
  pub sized : own_room o ≡ room

abbrev pub own_deque : StealHand → DequeId
own_deque h = worker_deque h.own.deque

-- a hand at its place on the roll, which has done nothing
pub record IsSeated {Q A : Type 0} (roll : Slotted (Option NodeId) (Doing NodeId Member) Q A) (place : ℕ) (h : StealHand) : Type 0 where
  pub number : h.number ≡ place
  pub badge : IsPassOf roll h.badge
  pub stands : view h.badge ≡ member (place ∷ []) [] []
  pub back : h.back ≡ 0

-- the hands stand in the order of their numbers, and no part of a deque is out
abbrev pub AreSeated : {Q A : Type 0} → Slotted (Option NodeId) (Doing NodeId Member) Q A → ℕ → List StealHand → Type 0
AreSeated roll room hands = (place : ℕ) (h : StealHand) → get_elem? hands place ≡ some h → IsSeated roll place h × IsNewOwn room 0 h.own

-- a part of the deque can be lent
abbrev pub CanLend : Own → Type 0
CanLend o = (room : ℕ) × (lent : ℕ) × (lent < 256) × IsNewOwn room lent o

abbrev pub AreLenders : List StealHand → Type 0
AreLenders hands = (place : ℕ) (h : StealHand) → get_elem? hands place ≡ some h → CanLend h.own

-- a hand after it lent a part of its deque to the hand with this number, or to none where that is its own
pub record HasLent (number place : ℕ) (old new : StealHand) : Type 0 where
  pub same : new ≡ record old { own = new.own }
  pub deque : own_deque new ≡ own_deque old
  pub own : place ≡ number → new.own ≡ old.own
  pub lent : place ≢ number → (room lent : ℕ) → IsNewOwn room lent old.own → IsNewOwn room (lent + 1) new.own

abbrev pub HaveLent : ℕ → List StealHand → List StealHand → Type 0
HaveLent number olds news = (place : ℕ) (k : StealHand) → get_elem? news place ≡ some k → (h : StealHand) × (get_elem? olds place ≡ some h) × HasLent number place h k

abbrev pub AreUnshared : ℕ → List StealHand → Type 0
AreUnshared room hands = (place : ℕ) (h : StealHand) → get_elem? hands place ≡ some h → IsNewOwn room 0 h.own

-- a hand that has a part of each deque but its own, and lent as many
pub record IsShared (room : ℕ) (olds : List StealHand) (place : ℕ) (old new : StealHand) : Type 0 where
  pub same : new ≡ record old { own = new.own; others = new.others }
  pub deque : own_deque new ≡ own_deque old
  pub own : IsNewOwn room (length olds - 1) new.own
  pub others : OthersFit place (map own_deque olds) new.others.items
  pub none : (weight : NodeId → ℕ) → stolen weight new.others.items ≡ 0

abbrev pub AreShared : ℕ → List StealHand → List StealHand → Type 0
AreShared room olds news = (place : ℕ) (k : StealHand) → get_elem? news place ≡ some k → (h : StealHand) × (get_elem? olds place ≡ some h) × IsShared room olds place h k
