-- A program that goes on from a printed graph.
use Rattle.std.specs.Prelude.{◌≡◌, ℕ, ◌+◌, List, map}
use Rattle.dactl_model.specs.declared.graph.Graph.{Graph}
use Rattle.dactl_model.specs.declared.graph.Arc.{Arc}
use Rattle.dactl_model.specs.declared.graph.Node.{Node}
use Rattle.dactl_model.specs.declared.program.FreshArc.{FreshArc}
use Rattle.dactl_model.specs.declared.program.FreshNode.{FreshNode}
use Rattle.dactl_model.specs.declared.program.Mention.TheVariants.{Fresh}
use Rattle.dactl_model.specs.declared.program.Start.{Start}
use Rattle.dactl_model.specs.declared.program.Program.{Program}
use Rattle.dactl_model.specs.Firing.{start_of}
use Rattle.dactl_model.specs.Programs.{IsValid}
use Rattle.dactl_resume.specs.declared.fault.GraphFault.{GraphFault}
use Rattle.dactl_resume.specs.declared.fault.GraphFault.TheVariants as graph_fault
use Rattle.dactl_resume.specs.declared.fault.NotResumed.{NotResumed}
use Rattle.dactl_resume.specs.declared.fault.NotResumed.TheVariants as not_resumed
use Rattle.dactl_resume.specs.Answers.{IsMalformed, IsBadAt, IsRead}

-- an arc of a graph, and a node of one, as a contractum has them
abbrev pub fresh_arc_of : Arc → FreshArc
fresh_arc_of a = record { to = Fresh a.target.number; waits = a.waits }

abbrev pub fresh_of : Node → FreshNode
fresh_of node = record { label = node.label; arcs = map fresh_arc_of node.arcs; mark = node.mark }

-- the contractum of the whole graph
abbrev pub as_start : Graph → Start
as_start g = record { fresh = map fresh_of g.nodes; root = g.root.number }

-- the program with another start
abbrev pub with_start : Program → Start → Program
with_start p start = record { symbols = p.symbols; rules = p.rules; start = start; wide = p.wide }

-- the graph that is read from the text has taken the place of the start, and nothing else has changed
pub record IsResumed (p : Program) (text : List ℕ) (q : Program) : Type 0 where
  pub start : Start
  pub graph : Graph
  pub read : IsRead p text graph
  pub begins : start_of start ≡ graph
  pub is : q ≡ with_start p start
  pub valid : IsValid q

-- why the lines have no graph: one of them has no good form
abbrev pub IsLineFault : Program → List (List ℕ) → GraphFault → Type 0
IsLineFault p lines (graph_fault.Bad line) = (i : ℕ) × (line ≡ i + 1) × IsMalformed p lines i
IsLineFault p lines graph_fault.Memory = Unit {0}

-- why no graph was read
abbrev pub IsGraphFault : Program → List ℕ → GraphFault → Type 0
IsGraphFault p text (graph_fault.Bad line) = IsBadAt p text line
IsGraphFault p text graph_fault.Memory = Unit {0}

-- why the program does not go on: it is handed back as it was where the text is bad
abbrev pub IsNotResumed : Program → List ℕ → NotResumed → Type 0
IsNotResumed p text (not_resumed.Bad program line) = (program ≡ p) × IsBadAt p text line
IsNotResumed p text not_resumed.Memory = Unit {0}
