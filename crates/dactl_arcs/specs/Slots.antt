-- Where a pool keeps its arcs: in front there is a spare slot for each pair of a redirection, and behind these the two
-- slots of each target side by side, with the arcs along which nobody waits and with the others. No public clause
-- cites this module.
use Rattle.std.specs.Prelude.{◌≡◌, ℕ, ◌+◌, ◌-◌, ◌/◌, ◌<◌, ◌≤◌, ◌^◌, Bool, true, List, [], ◌∷◌, All, map, drop, if◌then◌else◌}
use Rattle.dactl_arcs.specs.declared.lists.ArcRecord.{ArcRecord}
use Rattle.dactl_arcs.specs.declared.pool.TheConstants.{MOST_MOVES}
use Rattle.dactl_arcs.specs.Pool.{Pool, targets}
use Rattle.dactl_arcs.specs.Moves.{sent_to}

-- the slot for the arcs into a target, by their flag
abbrev pub slot_of : ℕ → Bool → ℕ
slot_of target waits = if waits then target + target + MOST_MOVES + 1 else target + target + MOST_MOVES

-- the target of a slot
abbrev pub target_in : ℕ → ℕ
target_in slot = (slot - MOST_MOVES) / 2

-- the record of an arc that names its slot, by its target
abbrev pub seen : ArcRecord → ArcRecord
seen arc = sent_to (target_in arc.target) arc

-- the arc is in no spare slot
abbrev pub IsHoused : ArcRecord → Type 0
IsHoused arc = MOST_MOVES ≤ arc.target

-- the arc is in the slot of its target for its flag
pub record IsPlaced (number : ℕ) (arc : ArcRecord) : Type 0 where
  pub owner : arc.owner < number
  pub target : target_in arc.target < number
  pub slot : arc.target ≡ slot_of (target_in arc.target) arc.waits

-- the pairs, by the slots of their targets for a flag
abbrev pub raised : Bool → ℕ × ℕ → ℕ × ℕ
raised waits move = (slot_of move.0 waits, slot_of move.1 waits)

abbrev pub in_slots : Bool → List (ℕ × ℕ) → List (ℕ × ℕ)
in_slots waits moves = map (raised waits) moves

-- both slots of both targets of each pair are below the number
abbrev pub AreSlotsBelow : ℕ → List (ℕ × ℕ) → Type 0
AreSlotsBelow number = All (λ move. (slot_of move.0 true < number) × (slot_of move.1 true < number))

-- the second of each two
abbrev pub seconds : List (List ℕ) → List (List ℕ)
seconds [] = []
seconds (one ∷ []) = []
seconds (one ∷ other ∷ more) = other ∷ seconds more

-- what is seen of a pool
abbrev pub pool_seen : Pool → Pool
pool_seen lists = record lists { arcs = map seen lists.arcs; into = seconds (drop MOST_MOVES lists.into) }

-- the lists of a pool between so many nodes
pub record IsOver (lists : Pool) (number : ℕ) : Type 0 where
  pub slots : targets lists ≡ number + number + MOST_MOVES
  pub fits : number + number + MOST_MOVES < 2 ^ 32
  pub ends : All (IsPlaced number) lists.arcs
