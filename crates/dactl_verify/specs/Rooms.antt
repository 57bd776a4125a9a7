-- How many nodes and arcs there are, and how many are needed.
use Rattle.std.specs.Prelude.{◌^◌, ◌<◌, ◌≤◌, ◌⊎◌, List, length}
use Rattle.dactl_model.specs.declared.graph.Graph.{Graph}
use Rattle.dactl_model.specs.declared.graph.Room.{Room}
use Rattle.dactl_model.specs.declared.graph.Limits.{Limits}
use Rattle.dactl_model.specs.declared.program.FreshNode.{FreshNode}
use Rattle.dactl_model.specs.declared.program.Body.{Body}
use Rattle.dactl_model.specs.declared.program.Body.TheVariants.{Written, Delta}
use Rattle.dactl_model.specs.Programs.{fresh_arcs}
use Rattle.dactl_model.specs.Ending.{arcs_of}

-- what new nodes need
abbrev pub room_of : List FreshNode → Room
room_of fresh = record { nodes = length fresh; arcs = fresh_arcs fresh }

-- more nodes or more arcs are needed than are left
abbrev pub Exceeds : Room → Room → Type 0
Exceeds needed left = (left.nodes < needed.nodes) ⊎ (left.arcs < needed.arcs)

-- the graph has no more nodes and no more arcs than the room
pub record FitsRoom (room : Room) (g : Graph) : Type 0 where
  pub nodes : length g.nodes ≤ room.nodes
  pub arcs : arcs_of g ≤ room.arcs

-- the room as the limits of a run; a journal that is checked has no budget
abbrev pub limits_of : Room → Limits
limits_of room = record { nodes = room.nodes; arcs = room.arcs; budget = 0 }

-- so few new nodes and arcs that their numbers have 31 bits
abbrev pub AreFew : List FreshNode → Type 0
AreFew fresh = (length fresh < 2 ^ 31) × (fresh_arcs fresh < 2 ^ 31)

-- the body makes so few
abbrev pub MakesFew : Body → Type 0
MakesFew (Written fresh moves wakes suspend) = AreFew fresh
MakesFew (Delta o) = Unit {0}
