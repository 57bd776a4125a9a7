-- What a contract sees of a store, and what its calls do.
use Rattle.std.specs.Prelude.{◌≡◌, ℕ, zero, suc, ◌+◌, ◌-◌, ◌<◌, ◌≤◌, ◌^◌, ◌↔◌, Bool, List, [], ◌∷◌, ◌++◌, length, All, IsTrue, slice_get, Some, IsSomeAnd}
use Rattle.dactl_active.specs.Ring.{has}
use Rattle.dactl_model.specs.declared.graph.NodeId.{NodeId}
use Rattle.dactl_model.specs.declared.graph.Label.{Label}
use Rattle.dactl_model.specs.declared.graph.Arc.{Arc}
use Rattle.dactl_model.specs.declared.graph.Mark.{Mark}
use Rattle.dactl_model.specs.declared.graph.Node.{Node}
use Rattle.dactl_model.specs.declared.graph.Graph.{Graph}
use Rattle.dactl_model.specs.declared.graph.Room.{Room}
use Rattle.dactl_model.specs.declared.reading.Reading.{Reading}
use Rattle.dactl_model.specs.Graphs.{node_at}
use Rattle.dactl_model.specs.Matching.{IsActive}
use Rattle.dactl_model.specs.Ending.{arcs_of}
use Rattle.dactl_model.specs.Versions.{content, content_read}

-- a graph, the version of each of its nodes, the active nodes in the order of the ring, and the most nodes
-- and arcs that there may be
pub record Held : Type 0 where
  pub graph : Graph
  pub versions : List ℕ
  pub active : List ℕ
  pub room : Room
  -- the version that the last redirection gave, 0 before the first
  pub newest : ℕ

-- what holds of every store: the ring has the active nodes and no others
pub record IsValid (held : Held) : Type 0 where
  pub fits : held.room.nodes < 2 ^ 32
  pub nodes : length held.graph.nodes ≤ held.room.nodes
  pub arcs : arcs_of held.graph ≤ held.room.arcs
  pub few : All (λ node. length node.arcs ≤ 16) held.graph.nodes
  pub versions : length held.versions ≡ length held.graph.nodes
  pub active : (n : NodeId) → IsTrue (has held.active n.number) ↔ IsActive held.graph n

-- how many more nodes and arcs there may be
abbrev pub left_in : Held → Room
left_in held = record { nodes = held.room.nodes - length held.graph.nodes; arcs = held.room.arcs - arcs_of held.graph }

-- the version of a node
abbrev pub IsVersionAt : Held → NodeId → ℕ → Type 0
IsVersionAt held n version = slice_get held.versions n.number ≡ Some version

-- what is to be read of a node
pub record IsReadingOf (held : Held) (n : NodeId) (reading : Reading) : Type 0 where
  pub node : reading.node ≡ n
  pub content : content held.graph n ≡ Some (content_read reading)
  pub version : IsVersionAt held n reading.version

-- a node is active
abbrev pub HasActive : Graph → Type 0
HasActive g = (n : NodeId) × IsActive g n

-- there is room for a further node
abbrev pub HasFreeNode : Held → Type 0
HasFreeNode held = length held.graph.nodes < held.room.nodes

-- there is room for a further arc
abbrev pub HasFreeArc : Held → Type 0
HasFreeArc held = arcs_of held.graph < held.room.arcs

-- n is the last node, and it may have a further arc
pub record IsLast (g : Graph) (n : NodeId) : Type 0 where
  pub last : n.number + 1 ≡ length g.nodes
  pub few : IsSomeAnd (node_at g n) (λ node. length node.arcs < 16)

-- the nodes, of which the one at the place is changed
abbrev pub changed_at : ℕ → (Node → Node) → List Node → List Node
changed_at n f [] = []
changed_at zero f (node ∷ nodes) = f node ∷ nodes
changed_at (suc n) f (node ∷ nodes) = node ∷ changed_at n f nodes

-- a node without arcs
abbrev pub node_with : Label → Mark → Node
node_with label mark = record { label = label; arcs = []; mark = mark }

-- an arc to a node
abbrev pub arc_to : NodeId → Bool → Arc
arc_to target waits = record { target = target; waits = waits }

-- the graph with a further node at the end
abbrev pub with_node : Graph → Node → Graph
with_node g node = record g { nodes = g.nodes ++ node ∷ [] }

-- the graph in which n has the mark
abbrev pub with_mark : Graph → NodeId → Mark → Graph
with_mark g n mark = record g { nodes = changed_at n.number (λ node. record node { mark = mark }) g.nodes }

-- the graph in which n has further arcs
abbrev pub with_arcs : Graph → NodeId → List Arc → Graph
with_arcs g n arcs = record g { nodes = changed_at n.number (λ node. record node { arcs = node.arcs ++ arcs }) g.nodes }
