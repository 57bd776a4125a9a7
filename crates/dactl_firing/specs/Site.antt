-- Where a rule fires. No public clause cites this module.
use Rattle.std.specs.Prelude.{◌≡◌, ℕ, ◌<◌, ◌≤◌, List, length, map, All}
use Rattle.dactl_model.specs.declared.graph.NodeId.{NodeId}
use Rattle.dactl_model.specs.declared.graph.Graph.{Graph}
use Rattle.dactl_model.specs.declared.program.Left.{Left}
use Rattle.dactl_model.specs.declared.program.Left.TheVariants.{Root, Variable}
use Rattle.dactl_model.specs.declared.program.Move.{Move}
use Rattle.dactl_model.specs.declared.program.FreshNode.{FreshNode}
use Rattle.dactl_model.specs.Graphs.{HasNode}
use Rattle.dactl_model.specs.Programs.{IsWritten}
use Rattle.dactl_model.specs.Firing.{left_node, mentioned, old_nodes}
use Rattle.dactl_model.specs.Acts.{acts_from}
use Rattle.dactl_model.specs.Rooms.{NodeList}
use Rattle.dactl_store.specs.Contractum.{IsNamed}
use Rattle.dactl_store.specs.Held.{Held}
use Rattle.dactl_store.specs.Redirecting.{IsVersioned}
use Rattle.dactl_firing.specs.declared.site.Site.{Site}
use Rattle.dactl_firing.specs.Waking.{with_nodes}

-- the left side of a redirection denotes a node
abbrev pub IsNamedLeft : List NodeId → Left → Type 0
IsNamedLeft h Root = Unit {0}
IsNamedLeft h (Variable v) = v < length h

-- both ends of a redirection do, where the new nodes are numbered from `first`
abbrev pub IsNamedMove : ℕ → List NodeId → Move → Type 0
IsNamedMove first h move = IsNamedLeft h move.from × IsNamed first h move.to

-- the nodes that they denote
abbrev pub pair_of : ℕ → NodeId → List NodeId → Move → NodeId × NodeId
pair_of first n h move = (left_node n h move.from, mentioned first h move.to)

-- those of the redirections
abbrev pub pairs_of : ℕ → NodeId → List NodeId → List Move → List (NodeId × NodeId)
pairs_of first n h moves = map (pair_of first n h) moves

-- the site's nodes are in the graph
pub record IsSiteIn (site : Site) (g : Graph) : Type 0 where
  pub node : HasNode g site.node
  pub bindings : All (HasNode g) site.bindings.now
  pub few : length site.bindings.now ≤ 64

-- the store has the nodes as they are before the redirections, and the list has those that are active anew
pub record IsSettled (n : NodeId) (h : List NodeId) (wakes : List ℕ) (suspend : ℕ) (old : Held) (before : NodeList) (new : Held) (after : NodeList) : Type 0 where
  pub graph : new.graph ≡ with_nodes old.graph (old_nodes (λ x. x) n h wakes suspend 0 old.graph.nodes)
  pub versions : new.versions ≡ old.versions
  pub room : new.room ≡ old.room
  pub newest : new.newest ≡ old.newest
  pub list : after.list ≡ acts_from old.graph n 0 new.graph.nodes
  pub list_room : after.room ≡ before.room

-- a written body with variables below the number
abbrev pub IsWrittenFor : ℕ → List FreshNode → List Move → List ℕ → Type 0
IsWrittenFor variables fresh moves wakes = (symbols : ℕ) × IsWritten symbols variables fresh moves wakes

-- the graph of the store becomes the given one
pub record IsMade (n : NodeId) (version : ℕ) (after : Graph) (old : Held) (before : NodeList) (new : Held) (listed : NodeList) : Type 0 where
  pub graph : new.graph ≡ after
  pub versions : IsVersioned version old new
  pub room : new.room ≡ old.room
  pub newest : new.newest ≡ version
  pub list : listed.list ≡ acts_from old.graph n 0 after.nodes
  pub list_room : listed.room ≡ before.room
