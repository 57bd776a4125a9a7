-- What a redirection does.
use Rattle.std.specs.Prelude.{◌≡◌, ◌≢◌, ℕ, ◌<◌, ◌≤◌, List, [], ◌∷◌, length, map, All, slice_get, if◌then◌else◌}
use Rattle.dactl_model.specs.declared.graph.NodeId.{NodeId}
use Rattle.dactl_model.specs.declared.graph.Node.{Node}
use Rattle.dactl_model.specs.declared.graph.Graph.{Graph}
use Rattle.dactl_model.specs.Graphs.{HasNode}
use Rattle.dactl_model.specs.Patterns.{same_node}
use Rattle.dactl_model.specs.Firing.{redirected_arc}
use Rattle.dactl_model.specs.Versions.{content}
use Rattle.dactl_store.specs.Held.{Held, IsVersionAt}

-- both nodes of each pair are below the number
abbrev pub AreNodes : ℕ → List (NodeId × NodeId) → Type 0
AreNodes room moves = All (λ move. (move.0.number < room) × (move.1.number < room)) moves

-- where the pairs send a node: the first one that begins with it says so
abbrev pub sent : List (NodeId × NodeId) → NodeId → NodeId
sent [] n = n
sent (move ∷ moves) n = if same_node move.0 n then move.1 else sent moves n

-- the node with its targets sent through a map
abbrev pub redirected_node : (NodeId → NodeId) → Node → Node
redirected_node f node = record node { arcs = map (redirected_arc f) node.arcs }

-- the graph with all targets and the root sent through a map
abbrev pub redirected : (NodeId → NodeId) → Graph → Graph
redirected f g = record { nodes = map (redirected_node f) g.nodes; root = f g.root }

-- a node that has the label and targets that it had keeps its version, and each other node, a new one too, has the given one
pub record IsVersioned (version : ℕ) (before after : Held) : Type 0 where
  pub long : length after.versions ≡ length after.graph.nodes
  pub kept : (n : NodeId) → HasNode after.graph n → content after.graph n ≡ content before.graph n → slice_get after.versions n.number ≡ slice_get before.versions n.number
  pub given : (n : NodeId) → HasNode after.graph n → content after.graph n ≢ content before.graph n → IsVersionAt after n version

-- the version is greater than that of each redirection before, and no node has a greater one
pub record IsLatest (version : ℕ) (held : Held) : Type 0 where
  pub newer : held.newest < version
  pub most : All (λ v. v ≤ version) held.versions

-- the pairs by the numbers of their nodes
abbrev pub number_pairs : List (NodeId × NodeId) → List (ℕ × ℕ)
number_pairs moves = map (λ move. (move.0.number, move.1.number)) moves
