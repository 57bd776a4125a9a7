-- What a run is, and how it keeps within its limits.
use Rattle.std.specs.Prelude.{◌≡◌, ℕ, ◌+◌, ◌*◌, ◌<◌, ◌≤◌, ◌⊎◌, List, length}
use Rattle.dactl_model.specs.declared.graph.Graph.{Graph}
use Rattle.dactl_model.specs.declared.graph.Room.{Room}
use Rattle.dactl_model.specs.declared.graph.Limits.{Limits}
use Rattle.dactl_model.specs.declared.graph.Entry.{Entry}
use Rattle.dactl_model.specs.declared.graph.End.{End}
use Rattle.dactl_model.specs.declared.graph.End.TheVariants.{Normal, Budget, Full}
use Rattle.dactl_model.specs.declared.program.Program.{Program}
use Rattle.dactl_model.specs.Programs.{fresh_arcs}
use Rattle.dactl_model.specs.Firing.{start_of}
use Rattle.dactl_model.specs.Steps.{Reduction}
use Rattle.dactl_model.specs.Ending.{arcs_of, Ends}
use Rattle.dactl_settings.specs.Limits.{IsUpTo}
use Rattle.dactl_workers.specs.declared.report.WorkerReport.{WorkerReport}
use Rattle.dactl_crew.specs.Reports.{AreReports}

-- the limits that a run may have: up to 2,000,000 nodes, four arcs for each, and up to 4,000,000 entries
pub record AreLimits (limits : Limits) : Type 0 where
  pub nodes : IsUpTo 2000000 limits.nodes
  pub arcs : limits.arcs ≡ 4 * limits.nodes
  pub budget : IsUpTo 4000000 limits.budget

-- what the first graph takes
abbrev pub start_room : Program → Room
start_room p = record { nodes = length p.start.fresh; arcs = fresh_arcs p.start.fresh }

-- the first graph is within the limits
pub record IsFitting (limits : Limits) (p : Program) : Type 0 where
  pub nodes : (start_room p).nodes ≤ limits.nodes
  pub arcs : (start_room p).arcs ≤ limits.arcs

-- the first graph has more nodes or more arcs than the limits allow
abbrev pub IsTooSmall : Limits → Program → Type 0
IsTooSmall limits p = (limits.nodes < (start_room p).nodes) ⊎ (limits.arcs < (start_room p).arcs)

-- the graph is within the limits
pub record IsWithin (limits : Limits) (g : Graph) : Type 0 where
  pub nodes : length g.nodes ≤ limits.nodes
  pub arcs : arcs_of g ≤ limits.arcs

-- what an end says is left is the whole difference between the limits and the graph
abbrev pub LeavesRest : Limits → Graph → End → Type 0
LeavesRest limits g Normal = Unit {0}
LeavesRest limits g Budget = Unit {0}
LeavesRest limits g (Full n r needed left) = (length g.nodes + left.nodes ≡ limits.nodes) × (arcs_of g + left.arcs ≡ limits.arcs)

-- a run of a program by so many workers within limits: its journal, its last graph and how it ended, its workers' reports and the number of nodes left on the board
pub record IsRun (limits : Limits) (workers : ℕ) (p : Program) (journal : List Entry) (g : Graph) (ended : End) (told : List WorkerReport) (left : ℕ) : Type 0 where
  -- the entries lead, one after another, from the first graph to the last: each is one firing that the order of rules allows, or the
  -- notification of an active node that no rule matches
  pub reduction : Reduction p (start_of p.start) journal g
  -- the end holds after them
  pub ends : Ends p limits journal g ended
  pub rest : LeavesRest limits g ended
  -- first graph, last graph and journal are within the limits
  pub fits : IsFitting limits p
  pub within : IsWithin limits g
  pub few : length journal ≤ limits.budget
  -- and this is what the workers tell of it
  pub reports : AreReports p journal workers told left
