-- The new nodes of a contractum in a store.
use Rattle.std.specs.Prelude.{◌≡◌, ℕ, ◌+◌, ◌<◌, ◌≤◌, ◌^◌, List, ◌++◌, length, map, All, IsSomeAnd}
use Rattle.dactl_model.specs.declared.graph.NodeId.{NodeId}
use Rattle.dactl_model.specs.declared.graph.Graph.{Graph}
use Rattle.dactl_model.specs.declared.program.Mention.{Mention}
use Rattle.dactl_model.specs.declared.program.Mention.TheVariants.{Old, Fresh}
use Rattle.dactl_model.specs.declared.program.FreshNode.{FreshNode}
use Rattle.dactl_model.specs.Graphs.{node_at}
use Rattle.dactl_model.specs.Matching.{bound_node}
use Rattle.dactl_model.specs.Firing.{fresh_node}
use Rattle.dactl_model.specs.Programs.{IsMention, fresh_arcs}
use Rattle.dactl_model.specs.Ending.{arcs_of}
use Rattle.dactl_store.specs.Held.{Held}

-- the mention denotes a node with a number of 32 bits
abbrev pub IsNamed : ℕ → List NodeId → Mention → Type 0
IsNamed first h (Old v) = v < length h
IsNamed first h (Fresh i) = first + i < 2 ^ 32

-- the mention denotes a node below the room
abbrev pub IsTarget : ℕ → ℕ → List NodeId → Mention → Type 0
IsTarget room first h (Old v) = (v < length h) × ((bound_node h v).number < room)
IsTarget room first h (Fresh i) = first + i < room

-- n is the last node, and it may have so many further arcs
pub record TakesArcs (held : Held) (n : NodeId) (count : ℕ) : Type 0 where
  pub last : n.number + 1 ≡ length held.graph.nodes
  pub few : IsSomeAnd (node_at held.graph n) (λ node. length node.arcs + count ≤ 16)
  pub free : arcs_of held.graph + count ≤ held.room.arcs

-- there is room for the new nodes and their arcs, and what they mention is there: nodes of variables, or new ones
pub record CanAppend (held : Held) (h : List NodeId) (fresh : List FreshNode) : Type 0 where
  pub bound : All (λ n. n.number < held.room.nodes) h
  pub few : All (λ node. length node.arcs ≤ 16) fresh
  pub mentions : All (λ node. All (λ a. IsMention (length h) (length fresh) a.to) node.arcs) fresh
  pub nodes : length held.graph.nodes + length fresh ≤ held.room.nodes
  pub arcs : arcs_of held.graph + fresh_arcs fresh ≤ held.room.arcs

-- the graph with the new nodes at its end
abbrev pub with_fresh : Graph → List NodeId → List FreshNode → Graph
with_fresh g h fresh = record g { nodes = g.nodes ++ map (fresh_node (length g.nodes) h (λ x. x)) fresh }
