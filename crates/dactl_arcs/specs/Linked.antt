-- What the layers below the pool show: arcs in a list for each slot. No public clause cites this module.
use Rattle.std.specs.Prelude.{◌≡◌, ℕ, ◌<◌, ◌≤◌, ◌==◌, ◌&&◌, List, [], length, nat_eq, nat_lt, slice_index_or}
use Rattle.std.specs.List.{IsDistinct}
use Rattle.dactl_arcs.specs.declared.lists.ArcRecord.{ArcRecord}
use Rattle.dactl_arcs.specs.Pool.{Pool, has, target_of}

-- the arcs by number, for each slot the arcs in its list in the order of a walk, and how many arcs there
-- may be
pub record Linked : Type 0 where
  pub arcs : List ArcRecord
  pub into : List (List ℕ)
  pub room : ℕ

-- the lists of a pool
abbrev pub linked : Pool → Linked
linked pool = record { arcs = pool.arcs; into = pool.into; room = pool.room }

abbrev pub slot_count : Linked → ℕ
slot_count lists = length lists.into

-- the arcs in a slot's list
abbrev pub list_of : Linked → ℕ → List ℕ
list_of lists slot = slice_index_or lists.into slot []

-- the arc is in the slot's list
abbrev pub IsIn : Linked → ℕ → ℕ → Type 0
IsIn lists slot arc = (arc < length lists.arcs) × (target_of lists.arcs arc ≡ slot)

-- as many slots, and as much room
pub record IsSameSize (old new : Linked) : Type 0 where
  pub slots : slot_count new ≡ slot_count old
  pub room : new.room ≡ old.room

-- the list has each arc whose target is the slot once, and no other arc
pub record IsListed (arcs : List ArcRecord) (slot : ℕ) (walk : List ℕ) : Type 0 where
  pub distinct : IsDistinct nat_eq walk
  pub members : (arc : ℕ) → has walk arc ≡ (nat_lt arc (length arcs) && (target_of arcs arc == slot))

-- what holds of all lists
pub record IsValidLists (lists : Linked) : Type 0 where
  pub few : length lists.arcs ≤ lists.room
  pub within : (arc : ℕ) → arc < length lists.arcs → target_of lists.arcs arc < slot_count lists
  pub walks : (slot : ℕ) → slot < slot_count lists → IsListed lists.arcs slot (list_of lists slot)
