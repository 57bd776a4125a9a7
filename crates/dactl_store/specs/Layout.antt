-- How a store keeps a graph. No public clause cites this module.
use Rattle.std.specs.Prelude.{◌≡◌, ℕ, ◌+◌, ◌<◌, ◌≤◌, ◌^◌, max, List, [], ◌∷◌, length, map, take, drop, All}
use Rattle.dactl_arcs.specs.declared.lists.ArcRecord.{ArcRecord}
use Rattle.dactl_arcs.specs.Pool.{Pool, targets}
use Rattle.dactl_model.specs.declared.graph.NodeId.{NodeId}
use Rattle.dactl_model.specs.declared.graph.Arc.{Arc}
use Rattle.dactl_model.specs.declared.graph.Node.{Node}
use Rattle.dactl_model.specs.declared.graph.Graph.{Graph}
use Rattle.dactl_model.specs.declared.graph.Room.{Room}
use Rattle.dactl_store.specs.declared.table.Span.{Span}
use Rattle.dactl_store.specs.declared.table.NodeRecord.{NodeRecord}
use Rattle.dactl_store.specs.Table.{Table}
use Rattle.dactl_store.specs.Held.{Held}

-- the arc of a record
abbrev pub arc_of : ArcRecord → Arc
arc_of a = record { target = record { number = a.target }; waits = a.waits }

-- of a list by arcs, the part for a node's own
abbrev pub own_part : {X : Type 0} → List X → Span → List X
own_part xs span = take span.count (drop span.first xs)

-- the arcs of the span are there
abbrev pub IsWithin : List ArcRecord → Span → Type 0
IsWithin arcs span = span.first + span.count ≤ length arcs

-- the node of a record
abbrev pub node_of : List ArcRecord → NodeRecord → Node
node_of arcs node = record { label = node.label; arcs = map arc_of (own_part arcs node.span); mark = node.mark }

-- the graph of the records
abbrev pub graph_of : List NodeRecord → List ArcRecord → NodeId → Graph
graph_of nodes arcs root = record { nodes = map (node_of arcs) nodes; root = root }

-- the greatest of a version and of changes
abbrev pub greatest : ℕ → List ℕ → ℕ
greatest version [] = version
greatest version (change ∷ changes) = greatest (max version change) changes

-- the version of a node: the greatest of that with which it was added and of the last changes of its arcs
abbrev pub version_of : List ℕ → NodeRecord → ℕ
version_of changed node = greatest node.version (own_part changed node.span)

-- what a contract sees of the parts of a store
abbrev pub held_of : Table → Pool → NodeId → Room → Held
held_of nodes arcs root room = record {
  graph = graph_of nodes.records arcs.arcs root;
  versions = map (version_of arcs.changed) nodes.records;
  active = nodes.active;
  room = room;
  newest = arcs.newest;
}

-- the arcs, of which the first has the number `at`, are those of the spans in their order, which are those of the nodes from
-- number k on
abbrev pub AreLaid : ℕ → ℕ → List Span → List ArcRecord → Type 0
AreLaid k at [] arcs = arcs ≡ []
AreLaid k at (span ∷ spans) arcs =
    (span.first ≡ at) × (span.count ≤ 16) × (span.count ≤ length arcs) × All (λ a. a.owner ≡ k) (take span.count arcs) × AreLaid (k + 1) (at + span.count) spans (drop span.count arcs)

abbrev pub spans_of : List NodeRecord → List Span
spans_of = map (λ node. node.span)

-- how the parts of a store go together
pub record IsStore (nodes : Table) (arcs : Pool) (room : Room) : Type 0 where
  pub nodes_room : nodes.room ≡ room.nodes
  pub nodes_few : length nodes.records ≤ nodes.room
  pub targets : targets arcs ≡ room.nodes
  pub arcs_room : arcs.room ≡ room.arcs
  pub fits : room.arcs < 2 ^ 32
  pub few : length arcs.arcs ≤ arcs.room
  pub changes : length arcs.changed ≡ length arcs.arcs
  pub laid : AreLaid 0 0 (spans_of nodes.records) arcs.arcs
