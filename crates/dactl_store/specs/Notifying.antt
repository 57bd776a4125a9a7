-- What a notification does to the table of nodes.
use Rattle.std.specs.Prelude.{◌≡◌, ℕ, ◌<◌, ◌==◌, ◌&&◌, Bool, not, All, List, [], ◌∷◌, ◌++◌, length, map, nat_eq, count_by, slice_set, if◌then◌else◌}
use Rattle.std.specs.List.{IsDistinct}
use Rattle.dactl_active.specs.Ring.{has}
use Rattle.dactl_arcs.specs.declared.lists.ArcRecord.{ArcRecord}
use Rattle.dactl_model.specs.declared.graph.NodeId.{NodeId}
use Rattle.dactl_model.specs.Acts.{marks_active}
use Rattle.dactl_model.specs.Noting.{noted_mark}
use Rattle.dactl_model.specs.Rooms.{NodeList}
use Rattle.dactl_store.specs.declared.table.NodeRecord.{NodeRecord}
use Rattle.dactl_store.specs.Table.{Table, record_of, is_active}

-- each arc is a node's
abbrev pub HasOwners : List NodeRecord → List ArcRecord → Type 0
HasOwners records arcs = All (λ a. a.owner < length records) arcs

-- the record after so many notifications
abbrev pub notified : ℕ → NodeRecord → NodeRecord
notified count r = record r { mark = noted_mark count r.mark }

-- the records after the owner of an arc is notified
abbrev pub notified_at : ℕ → List NodeRecord → List NodeRecord
notified_at owner records = slice_set records owner (notified 1 (record_of records owner))

-- whether the notification makes the owner active
abbrev pub wakes_owner : ℕ → List NodeRecord → Bool
wakes_owner owner records = marks_active (noted_mark 1 (record_of records owner).mark) && not (marks_active (record_of records owner).mark)

-- the owner is notified, and it is in the list where that makes it active
pub record HasNotified (owner : ℕ) (old : Table) (before : NodeList) (new : Table) (after : NodeList) : Type 0 where
  pub records : new.records ≡ notified_at owner old.records
  pub room : new.room ≡ old.room
  pub list : after.list ≡ (if wakes_owner owner old.records then before.list ++ record { number = owner } ∷ [] else before.list)
  pub list_room : after.room ≡ before.room

-- along how many of its arcs the node of this number waits for the target
abbrev pub waiting : List ArcRecord → ℕ → ℕ → ℕ
waiting arcs target owner = count_by (λ a. (a.target == target) && (a.waits && (a.owner == owner))) arcs

-- each node is notified along each of its arcs that waits for the target
pub record AreNotified (arcs : List ArcRecord) (target : ℕ) (old new : List NodeRecord) : Type 0 where
  pub long : length new ≡ length old
  pub each : (m : ℕ) → record_of new m ≡ notified (waiting arcs target m) (record_of old m)

abbrev pub numbers : List NodeId → List ℕ
numbers nodes = map (λ n. n.number) nodes

-- the list has each node once that is active and was not so
pub record IsWokenList (old new : List NodeRecord) (list : List NodeId) : Type 0 where
  pub distinct : IsDistinct nat_eq (numbers list)
  pub members : (m : ℕ) → has (numbers list) m ≡ (is_active new m && not (is_active old m))
