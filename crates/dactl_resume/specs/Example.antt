-- Two nodes, of which the second one can't be reached and waits for the first: the print doesn't show it, but it becomes active.
use Rattle.std.specs.Prelude.{◌≡◌, [], ◌∷◌, true}
use Rattle.dactl_model.specs.declared.graph.NodeId.{NodeId}
use Rattle.dactl_model.specs.declared.graph.Label.TheVariants.{Symbol}
use Rattle.dactl_model.specs.declared.graph.Mark.TheVariants.{Active, Waiting}
use Rattle.dactl_model.specs.declared.graph.Node.{Node}
use Rattle.dactl_model.specs.declared.graph.Graph.{Graph}
use Rattle.dactl_model.specs.Matching.{IsActive}
use Rattle.dactl_model.specs.Ending.{IsPassive}
use Rattle.dactl_model.specs.Noting.{noted}
use Rattle.dactl_resume.specs.Restriction.{IsRestriction}

abbrev pub first_id : NodeId
first_id = record { number = 0 }

abbrev pub second_id : NodeId
second_id = record { number = 1 }

abbrev pub quiet_node : Node
quiet_node = record { label = Symbol 7; arcs = []; mark = Active }

abbrev pub waiting_node : Node
waiting_node = record { label = Symbol 7; arcs = record { target = first_id; waits = true } ∷ []; mark = Waiting 1 }

abbrev pub both_nodes : Graph
both_nodes = record { nodes = quiet_node ∷ waiting_node ∷ []; root = first_id }

abbrev pub first_alone : Graph
first_alone = record { nodes = quiet_node ∷ []; root = first_id }

-- the first node alone is what is printed, all active nodes are in it, and after its notification the one graph has an active node and the other has none
pub record WakesBeside : Type 0 where
  pub restriction : IsRestriction both_nodes (first_id ∷ []) first_alone
  pub reached : (n : NodeId) → IsActive both_nodes n → n ≡ first_id
  pub wakes : IsActive (noted both_nodes first_id) second_id
  pub passive : IsPassive (noted first_alone first_id)
