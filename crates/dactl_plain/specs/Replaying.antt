-- What the replay of a journal answers.
use Rattle.std.specs.Prelude.{List, Option, Some, None}
use Rattle.dactl_model.specs.declared.graph.Graph.{Graph}
use Rattle.dactl_model.specs.declared.graph.Event.{Event}
use Rattle.dactl_model.specs.declared.graph.Entry.{Entry}
use Rattle.dactl_model.specs.declared.program.Program.{Program}
use Rattle.dactl_model.specs.Firing.{start_of}
use Rattle.dactl_model.specs.Steps.{Step, Reduction}

-- the graph after one step with this event, or none where there is no such step
abbrev pub IsStepped : Program → Graph → Event → Option Graph → Type 0
IsStepped p g e (Some after) = Step p g e after
IsStepped p g e None = (after : Graph) → Step p g e after → ⊥

-- the graph to which the journal leads from the program's first one, or none where it leads to no graph
abbrev pub IsReplayed : Program → List Entry → Option Graph → Type 0
IsReplayed p journal (Some after) = Reduction p (start_of p.start) journal after
IsReplayed p journal None = (after : Graph) → Reduction p (start_of p.start) journal after → ⊥
