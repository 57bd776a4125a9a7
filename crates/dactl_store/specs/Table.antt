-- The table of nodes, as the store sees it.
use Rattle.std.specs.Prelude.{◌≡◌, ℕ, ◌+◌, ◌<◌, ◌≤◌, ◌^◌, Bool, List, slice_index_or, length}
use Rattle.dactl_active.specs.Ring.{Ring, has, inserted, without}
use Rattle.dactl_model.specs.declared.graph.Label.TheVariants.{Symbol}
use Rattle.dactl_model.specs.declared.graph.Mark.{Mark}
use Rattle.dactl_model.specs.declared.graph.Mark.TheVariants.{Idle, Active, Waiting}
use Rattle.dactl_model.specs.Acts.{marks_active}
use Rattle.dactl_store.specs.declared.table.NodeRecord.{NodeRecord}

-- the records by number, the active nodes, and how many nodes there may be
pub record Table : Type 0 where
  pub records : List NodeRecord
  pub active : List ℕ
  pub room : ℕ

-- what stands for a node that is not there
abbrev pub no_node : NodeRecord
no_node = record { label = Symbol 0; mark = Idle; version = 0; span = record { first = 0; count = 0 } }

-- the record of a node
abbrev pub record_of : List NodeRecord → ℕ → NodeRecord
record_of records n = slice_index_or records n no_node

-- the node is there, and it is active
abbrev pub is_active : List NodeRecord → ℕ → Bool
is_active records n = marks_active (record_of records n).mark

-- the ring once the node has this mark
abbrev pub ring_with : Mark → List ℕ → ℕ → List ℕ
ring_with Idle ring n = without ring n
ring_with Active ring n = inserted ring n
ring_with (Waiting k) ring n = without ring n

-- the record with another mark
abbrev pub marked : Mark → NodeRecord → NodeRecord
marked mark r = record r { mark = mark }

-- the record with a further arc
abbrev pub longer : NodeRecord → NodeRecord
longer r = record r { span = record { first = r.span.first; count = r.span.count + 1 } }

-- what holds of every table: the ring has the active nodes and no others
pub record IsValidTable (table : Table) : Type 0 where
  pub fits : table.room < 2 ^ 32
  pub few : length table.records ≤ table.room
  pub active : (n : ℕ) → has table.active n ≡ is_active table.records n

-- how a table lies in a vector, of which there is memory for the whole room, and a ring
pub record IsTable (records : List NodeRecord) (ring : Ring) (room capacity : ℕ) : Type 0 where
  pub fits : room < 2 ^ 32
  pub taken : room ≤ capacity
  pub few : length records ≤ room
  pub ring_room : ring.room ≡ room
  pub active : (n : ℕ) → has ring.numbers n ≡ is_active records n
