-- The table of numbers that is kept beside the order.
use Rattle.std.specs.Prelude.{◌≡◌, ℕ, ◌<◌, List, length, slice_index, All}
use Rattle.dactl_model.specs.declared.graph.NodeId.{NodeId}
use Rattle.dactl_model.specs.declared.graph.Graph.{Graph}
use Rattle.dactl_model.specs.Graphs.{HasNode}
use Rattle.dactl_print.specs.Order.{number_in}

-- room for so many nodes, and the nodes that were visited, in order
pub record Visited : Type 0 where
  pub room : ℕ
  pub order : List NodeId

-- the table has the number of each node
abbrev pub HasNumbers : List ℕ → List NodeId → Type 0
HasNumbers table order = (n : NodeId) → n.number < length table → slice_index table n.number ≡ number_in order n

-- all are nodes of the graph
abbrev pub AreNodesOf : Graph → List NodeId → Type 0
AreNodesOf g order = All (HasNode g) order

-- all have a place in a table of this length
abbrev pub AreBelow : ℕ → List NodeId → Type 0
AreBelow room order = All (λ n. n.number < room) order
