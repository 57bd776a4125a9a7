-- Readings whose nodes have greater versions now, and entries.
use Rattle.std.specs.Prelude.{◌≡◌, ℕ, ◌<◌, List, All, take, slice_get, Some}
use Rattle.dactl_model.specs.declared.graph.Entry.{Entry}
use Rattle.dactl_model.specs.declared.graph.Event.{Event}
use Rattle.dactl_model.specs.declared.reading.Reading.{Reading}
use Rattle.dactl_store.specs.Held.{Held, IsVersionAt}

-- the node of the reading has this version now, and it is greater than the one that was read
abbrev pub IsGrown : Held → Reading → ℕ → Type 0
IsGrown held r now = IsVersionAt held r.node now × (r.version < now)

-- the node of the reading has a version that is not greater than the one that was read
abbrev pub HasNotGrown : Held → Reading → Type 0
HasNotGrown held r = (now : ℕ) × IsVersionAt held r.node now × (r.version < now → ⊥)

-- of these readings it is the first whose node has a greater version, which is this one
pub record IsFirstGrown (held : Held) (rs : List Reading) (r : Reading) (now : ℕ) : Type 0 where
  pub place : ℕ
  pub at : slice_get rs place ≡ Some r
  pub before : All (HasNotGrown held) (take place rs)
  pub grown : IsGrown held r now

-- the entry of a worker's event
abbrev pub entry_of : ℕ → Event → Entry
entry_of worker event = record { worker = worker; event = event }
