-- What wakes do to the nodes of a graph. No public clause cites this module.
use Rattle.std.specs.Prelude.{◌≡◌, ℕ, ◌+◌, Bool, true, false, not, ◌&&◌, List, [], ◌∷◌, ◌++◌, slice_get, nat_eq, Option, Some, None, if◌then◌else◌}
use Rattle.std.specs.List.{IsDistinct}
use Rattle.dactl_active.specs.Ring.{has}
use Rattle.dactl_model.specs.declared.graph.NodeId.{NodeId}
use Rattle.dactl_model.specs.declared.graph.Mark.{Mark}
use Rattle.dactl_model.specs.declared.graph.Mark.TheVariants.{Idle, Active, Waiting}
use Rattle.dactl_model.specs.declared.graph.Node.{Node}
use Rattle.dactl_model.specs.declared.graph.Graph.{Graph}
use Rattle.dactl_model.specs.declared.program.FreshNode.{FreshNode}
use Rattle.dactl_model.specs.Rooms.{NodeList}
use Rattle.dactl_model.specs.Acts.{marks_active, active_in}
use Rattle.dactl_model.specs.Firing.{is_woken, woken_mark}
use Rattle.dactl_store.specs.Held.{Held, changed_at}
use Rattle.dactl_store.specs.Notifying.{numbers}

-- the mark is Idle
abbrev pub marks_idle : Mark → Bool
marks_idle Idle = true
marks_idle Active = false
marks_idle (Waiting k) = false

-- a node is there, and it is idle
abbrev pub idle_in : Option Node → Bool
idle_in None = false
idle_in (Some node) = marks_idle node.mark

-- the node of this number is active
abbrev pub active_at : List Node → ℕ → Bool
active_at nodes m = active_in (slice_get nodes m)

-- the node, woken if the test says so
abbrev pub woken_node : Bool → Node → Node
woken_node woken node = record node { mark = woken_mark woken node.mark }

-- the nodes from number k on, those of the variables woken
abbrev pub woken_nodes : List NodeId → List ℕ → ℕ → List Node → List Node
woken_nodes h wakes k [] = []
woken_nodes h wakes k (node ∷ nodes) = woken_node (is_woken h wakes k) node ∷ woken_nodes h wakes (k + 1) nodes

-- the graph with these nodes
abbrev pub with_nodes : Graph → List Node → Graph
with_nodes g nodes = record g { nodes = nodes }

-- the node is woken, and it is in the list where that makes it active
pub record Wakes (n : NodeId) (old : Held) (before : NodeList) (new : Held) (after : NodeList) : Type 0 where
  pub graph : new.graph ≡ with_nodes old.graph (changed_at n.number (woken_node true) old.graph.nodes)
  pub versions : new.versions ≡ old.versions
  pub room : new.room ≡ old.room
  pub newest : new.newest ≡ old.newest
  pub list : after.list ≡ (if idle_in (slice_get old.graph.nodes n.number) then before.list ++ n ∷ [] else before.list)
  pub list_room : after.room ≡ before.room

-- the list has each node once that is active and was not so
pub record IsWokenList (old new : List Node) (list : List NodeId) : Type 0 where
  pub distinct : IsDistinct nat_eq (numbers list)
  pub members : (m : ℕ) → has (numbers list) m ≡ (active_at new m && not (active_at old m))

-- the active ones among new nodes, of which the first has number k
abbrev pub new_acts : ℕ → List FreshNode → List NodeId
new_acts k [] = []
new_acts k (node ∷ fresh) = if marks_active node.mark then record { number = k } ∷ new_acts (k + 1) fresh else new_acts (k + 1) fresh
