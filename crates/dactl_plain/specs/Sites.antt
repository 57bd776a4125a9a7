-- Where a rule fires.
use Rattle.std.specs.Prelude.{ℕ, ◌<◌, Bool, List, length, All}
use Rattle.dactl_model.specs.declared.graph.NodeId.{NodeId}
use Rattle.dactl_model.specs.declared.graph.Arc.{Arc}
use Rattle.dactl_model.specs.declared.graph.Node.{Node}
use Rattle.dactl_model.specs.declared.graph.Graph.{Graph}
use Rattle.dactl_model.specs.declared.program.FreshNode.{FreshNode}
use Rattle.dactl_model.specs.Patterns.{same_node}
use Rattle.dactl_model.specs.Firing.{redirection, old_node, old_nodes, rewritten}
use Rattle.dactl_plain.specs.declared.firing.Site.{Site}
use Rattle.dactl_plain.specs.Denoting.{AreNamedMoves}

-- the redirection map
abbrev pub map_of : Site → NodeId → NodeId
map_of site = redirection site.first site.root site.bound.now site.moves.now

-- the map leaves the arc as it is
abbrev pub stays : (NodeId → NodeId) → Arc → Bool
stays f a = same_node (f a.target) a.target

-- what becomes of an old node, by its number
abbrev pub old_node_of : Site → ℕ → Node → Node
old_node_of site = old_node (map_of site) site.root site.bound.now site.wakes.now site.suspend

-- and of the old nodes from this number on
abbrev pub old_nodes_of : Site → ℕ → List Node → List Node
old_nodes_of site = old_nodes (map_of site) site.root site.bound.now site.wakes.now site.suspend

-- the graph after the firing there, with these new nodes
abbrev pub rewritten_at : Site → Graph → List FreshNode → Graph
rewritten_at site g fresh = rewritten g site.root site.bound.now fresh site.moves.now site.wakes.now site.suspend

-- each redirection's ends denote nodes
abbrev pub AreNamed : Site → Type 0
AreNamed site = AreNamedMoves site.first site.bound.now site.moves.now

-- and each wake does
abbrev pub AreWoken : Site → Type 0
AreWoken site = All (λ v. v < length site.bound.now) site.wakes.now
