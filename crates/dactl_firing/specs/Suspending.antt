-- How the node at which a rule fires waits again. No public clause cites this module.
use Rattle.std.specs.Prelude.{ℕ, false, List, [], Option, Some, None}
use Rattle.dactl_model.specs.declared.graph.NodeId.{NodeId}
use Rattle.dactl_model.specs.declared.graph.Arc.{Arc}
use Rattle.dactl_model.specs.declared.graph.Mark.{Mark}
use Rattle.dactl_model.specs.declared.graph.Node.{Node}
use Rattle.dactl_model.specs.declared.graph.Graph.{Graph}
use Rattle.dactl_model.specs.Graphs.{node_at, flags}
use Rattle.dactl_model.specs.Firing.{root_mark}

-- the arcs of a node, none where it is not there
abbrev pub arcs_in : Option Node → List Arc
arcs_in None = []
arcs_in (Some node) = node.arcs

-- the mark of the node before the wakes
abbrev pub settled_mark : Graph → NodeId → ℕ → Mark
settled_mark g n suspend = root_mark suspend (flags (arcs_in (node_at g n))) false
