-- When each arc last changed its target, without a visit to the arc.
use Rattle.std.specs.Prelude.{◌≡◌, ℕ, ◌<◌, ◌≤◌, ◌==◌, ◌||◌, Bool, List, All, map, length, nat_lt, slice_index_or, if◌then◌else◌}
use Rattle.std.specs.List.{zip}
use Rattle.dactl_arcs.specs.declared.lists.ArcRecord.{ArcRecord}
use Rattle.dactl_arcs.specs.declared.pool.TheConstants.{MOST_MOVES}
use Rattle.dactl_arcs.specs.declared.stamped.ArcStamp.{ArcStamp}
use Rattle.dactl_arcs.specs.Pool.{Pool}
use Rattle.dactl_arcs.specs.Linked.{Linked, IsValidLists, linked, slot_count}
use Rattle.dactl_arcs.specs.Moves.{moved_to}
use Rattle.dactl_arcs.specs.Slots.{target_in}

-- the last change of an arc: its list's, where that came after the arc had joined it, else its own
abbrev pub last_change : ℕ → ArcStamp → ℕ
last_change list arc = if nat_lt arc.joined list then list else arc.own

-- of an arc that leads to its slot
abbrev pub change_of : List ℕ → ArcRecord × ArcStamp → ℕ
change_of slots arc = last_change (slice_index_or slots arc.0.target 0) arc.1

abbrev pub changes : List ArcRecord → List ArcStamp → List ℕ → List ℕ
changes arcs stamps slots = map (change_of slots) (zip arcs stamps)

-- the last changes once the moves have happened: the stamp for each arc that they send elsewhere
abbrev pub changed_by : List (ℕ × ℕ) → ℕ → List ArcRecord → List ℕ → List ℕ
changed_by moves stamp arcs changed =
    map (λ p. if moved_to moves p.0.target == p.0.target then p.1 else stamp) (zip arcs changed)

-- whether the moves leave the arcs of a slot: those in a spare one, and those of a target that they send nowhere else
abbrev pub is_left : List (ℕ × ℕ) → ℕ → Bool
is_left moves slot = nat_lt slot MOST_MOVES || (moved_to moves (target_in slot) == target_in slot)

-- both slots of each target that the moves send elsewhere have the stamp, and each other keeps its own
pub record AreStamped (moves : List (ℕ × ℕ)) (stamp : ℕ) (old new : List ℕ) : Type 0 where
  pub long : length new ≡ length old
  pub each : (slot : ℕ) → slot < length old
      → slice_index_or new slot 0
      ≡ (if is_left moves slot then slice_index_or old slot 0 else stamp)

-- what holds of all lists with stamps
pub record IsValidStamped (pool : Pool) : Type 0 where
  pub lists : IsValidLists (linked pool)
  pub changed_long : length pool.changed ≡ length pool.arcs
  pub changed_old : All (λ stamp. stamp ≤ pool.newest) pool.changed

-- how the stamps lie beside the arcs and the slots
pub record IsStamped (lists : Linked) (stamps : List ArcStamp) (slots : List ℕ) (newest capacity : ℕ)
    : Type 0 where
  pub arcs_long : length stamps ≡ length lists.arcs
  pub slots_long : length slots ≡ slot_count lists
  pub taken : lists.room ≤ capacity
  pub few : length lists.arcs ≤ lists.room
  pub slots_old : All (λ stamp. stamp ≤ newest) slots
  pub arcs_old : All (λ arc. (arc.own ≤ newest) × (arc.joined ≤ newest)) stamps
