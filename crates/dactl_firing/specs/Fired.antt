-- What the firing of a rule does to a store.
use Rattle.std.specs.Prelude.{◌≡◌, ℕ, ◌<◌, ◌⊎◌, List, [], slice_get, Some}
use Rattle.dactl_model.specs.declared.graph.NodeId.{NodeId}
use Rattle.dactl_model.specs.declared.graph.Event.TheVariants.{Fire}
use Rattle.dactl_model.specs.declared.program.Rule.{Rule}
use Rattle.dactl_model.specs.declared.program.Program.{Program}
use Rattle.dactl_model.specs.Acts.{acts_of_step}
use Rattle.dactl_model.specs.Ending.{needed_by}
use Rattle.dactl_model.specs.Firing.{IsFired}
use Rattle.dactl_store.specs.Held.{Held, left_in}
use Rattle.dactl_store.specs.Redirecting.{IsVersioned}
use Rattle.dactl_store.specs.Start.{Fits}
use Rattle.dactl_firing.specs.declared.firing.Full.{Full}

-- there is room for what the rule makes
abbrev pub HasRoomFor : Program → ℕ → Held → Type 0
HasRoomFor p r held = (rule : Rule) → slice_get p.rules r ≡ Some rule → Fits (needed_by rule.body) (left_in held)

-- there was room for what rule r makes, and it has fired at n: the new nodes and those whose targets are others have the
-- version, and the list has the nodes that the step made active, ascending
pub record HasFired (p : Program) (n : NodeId) (r version : ℕ) (old new : Held) (list : List NodeId) : Type 0 where
  pub fits : HasRoomFor p r old
  pub graph : IsFired p old.graph n r new.graph
  pub versions : IsVersioned version old new
  pub room : new.room ≡ old.room
  pub newest : new.newest ≡ version
  pub woken : list ≡ acts_of_step old.graph (Fire n r) new.graph

-- rule r makes more nodes or more arcs than there is room for, as both counts tell; the store is as it was, and the list is empty
pub record IsFull (p : Program) (r : ℕ) (old new : Held) (list : List NodeId) (full : Full) : Type 0 where
  pub rule : Rule
  pub is_rule : slice_get p.rules r ≡ Some rule
  pub needed : full.needed ≡ needed_by rule.body
  pub left : full.left ≡ left_in old
  pub above : (full.left.nodes < full.needed.nodes) ⊎ (full.left.arcs < full.needed.arcs)
  pub same : new ≡ old
  pub empty : list ≡ []
