-- Statements about the definitions alone.
use Rattle.std.specs.Prelude.{◌≡◌, ℕ, List}
use Rattle.dactl_model.specs.declared.graph.NodeId.{NodeId}
use Rattle.dactl_model.specs.declared.graph.Graph.{Graph}
use Rattle.dactl_model.specs.declared.program.Program.{Program}
use Rattle.dactl_print.specs.Order.{Visits}
use Rattle.dactl_print.specs.Lines.{IsGraphText}

-- what is to be visited and what has been visited determine what has been visited in the end
abbrev pub HasOneOrder : Type 0
HasOneOrder = (g : Graph) (nodes before after other : List NodeId) → Visits g nodes before after → Visits g nodes before other → after ≡ other

-- a program and a graph have one text
abbrev pub HasOneText : Type 0
HasOneText = (p : Program) (g : Graph) (text other : List ℕ) → IsGraphText p g text → IsGraphText p g other → text ≡ other
