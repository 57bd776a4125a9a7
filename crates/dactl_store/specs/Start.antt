-- How a store begins.
use Rattle.std.specs.Prelude.{◌≡◌, ℕ, ◌<◌, ◌≤◌, ◌⊎◌, length, map}
use Rattle.dactl_model.specs.declared.graph.Room.{Room}
use Rattle.dactl_model.specs.declared.program.Start.{Start}
use Rattle.dactl_model.specs.Firing.{start_of}
use Rattle.dactl_model.specs.Programs.{fresh_arcs}
use Rattle.dactl_model.specs.Validity.{IsSoundStart}
use Rattle.dactl_store.specs.declared.start.BeginCause.{BeginCause}
use Rattle.dactl_store.specs.declared.start.BeginCause.TheVariants.{Small, Memory}
use Rattle.dactl_store.specs.Held.{Held}

-- the start of a valid program, with any number of symbols
abbrev pub IsStart : Start → Type 0
IsStart start = (symbols : ℕ) × IsSoundStart symbols start

-- what the first graph takes
abbrev pub room_of : Start → Room
room_of start = record { nodes = length start.fresh; arcs = fresh_arcs start.fresh }

-- the first room is within the second
pub record Fits (needed room : Room) : Type 0 where
  pub nodes : needed.nodes ≤ room.nodes
  pub arcs : needed.arcs ≤ room.arcs

-- the store has the first graph, in which each node has the version 0
pub record IsBegun (start : Start) (limit : Room) (held : Held) : Type 0 where
  pub fits : Fits (room_of start) limit
  pub graph : held.graph ≡ start_of start
  pub versions : held.versions ≡ map (λ _. 0) start.fresh
  pub room : held.room ≡ limit
  pub newest : held.newest ≡ 0

-- the start is too large, as both rooms tell, or it isn't, and memory was wanting
abbrev pub IsCause : Start → Room → BeginCause → Type 0
IsCause start room (Small needed left) = (needed ≡ room_of start) × (left ≡ room) × ((room.nodes < needed.nodes) ⊎ (room.arcs < needed.arcs))
IsCause start room Memory = Fits (room_of start) room
