-- Which slot each list stands for: each slot has one list, its home, and each list one slot, its name.
use Rattle.std.specs.Prelude.{◌≡◌, ℕ, ◌<◌, ◌==◌, List, map, length, slice_index_or, if◌then◌else◌}
use Rattle.dactl_arcs.specs.declared.lists.ArcRecord.{ArcRecord}
use Rattle.dactl_arcs.specs.Linked.{Linked, list_of}
use Rattle.dactl_arcs.specs.Moves.{sent_to}

-- what a table has at a number: the name of a list, or the home of a slot
abbrev pub number_at : List ℕ → ℕ → ℕ
number_at table n = slice_index_or table n 0

-- the record of an arc that names its list, by the slot that the list stands for
abbrev pub named : List ℕ → ArcRecord → ArcRecord
named names arc = sent_to (number_at names arc.target) arc

-- the lists by the slots that they stand for
abbrev pub named_pool : Linked → List ℕ → List ℕ → Linked
named_pool lists names homes = record {
  arcs = map (named names) lists.arcs;
  into = map (list_of lists) homes;
  room = lists.room;
}

-- names and homes are each other's inverse
pub record IsNaming (count : ℕ) (names homes : List ℕ) : Type 0 where
  pub names_long : length names ≡ count
  pub homes_long : length homes ≡ count
  pub home : (slot : ℕ) → slot < count
      → (number_at homes slot < count) × (number_at names (number_at homes slot) ≡ slot)
  pub name : (list : ℕ) → list < count
      → (number_at names list < count) × (number_at homes (number_at names list) ≡ list)

-- two slots in each other's place
abbrev pub swapped_slot : ℕ → ℕ → ℕ → ℕ
swapped_slot from to slot = if slot == from then to else if slot == to then from else slot

abbrev pub swapped : ℕ → ℕ → ArcRecord → ArcRecord
swapped from to arc = sent_to (swapped_slot from to arc.target) arc

-- each number stands at its own place
pub record IsCounting (count : ℕ) (numbers : List ℕ) : Type 0 where
  pub long : length numbers ≡ count
  pub each : (n : ℕ) → n < count → number_at numbers n ≡ n
