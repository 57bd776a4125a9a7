-- The order in which nodes are printed, depth first from the root, and the numbers that it gives them.
use Rattle.std.specs.Prelude.{ℕ, ◌+◌, ◌==◌, cond, List, [], ◌∷◌, ◌++◌, map}
use Rattle.std.specs.List.{Contains}
use Rattle.std.specs.Prelude.{Option, Some, None}
use Rattle.dactl_model.specs.declared.graph.NodeId.{NodeId}
use Rattle.dactl_model.specs.declared.graph.Node.{Node}
use Rattle.dactl_model.specs.declared.graph.Graph.{Graph}
use Rattle.dactl_model.specs.Graphs.{node_at}

-- where the arcs of a node lead, from left to right
abbrev pub targets_of : Option Node → List NodeId
targets_of (Some node) = map (λ a. a.target) node.arcs
targets_of None = []

abbrev pub targets : Graph → NodeId → List NodeId
targets g n = targets_of (node_at g n)

-- to visit the nodes of the first list in turn, where those of the second have been visited, makes that list the third one: a node that has been visited is passed over, and any other one joins the list before its targets are visited from left to right
pub data Visits (g : Graph) : List NodeId → List NodeId → List NodeId → Type 0 where
  ended : {before : List NodeId} → Visits g [] before before
  passed : {n : NodeId} {rest before after : List NodeId} → Contains before n → Visits g rest before after → Visits g (n ∷ rest) before after
  joined : {n : NodeId} {rest before between after : List NodeId} → (Contains before n → ⊥) → Visits g (targets g n) (before ++ n ∷ []) between → Visits g rest between after → Visits g (n ∷ rest) before after

-- the nodes that can be reached from the root, in the order of their visits
abbrev pub IsOrder : Graph → List NodeId → Type 0
IsOrder g order = Visits g (g.root ∷ []) [] order

-- the number of a node where the first of the list has this one; 0 where the node isn't in the list
abbrev pub number_from : ℕ → List NodeId → NodeId → ℕ
number_from first [] n = 0
number_from first (m ∷ rest) n = cond (m.number == n.number) first (number_from (first + 1) rest n)

-- the number of a node: its place in the order, from 1
abbrev pub number_in : List NodeId → NodeId → ℕ
number_in order n = number_from 1 order n
