-- What holds of the definitions.
use Rattle.std.specs.Prelude.{ℕ, List}
use Rattle.dactl_model.specs.declared.graph.Graph.{Graph}
use Rattle.dactl_model.specs.declared.program.Program.{Program}
use Rattle.dactl_model.specs.Graphs.{IsWellFormed}
use Rattle.dactl_print.specs.Lines.{IsGraphText}

-- a well-formed graph has a text: the visit from its root comes to an end
abbrev pub EachHasText : Type 0
EachHasText = (p : Program) (g : Graph) → IsWellFormed g → (text : List ℕ) × IsGraphText p g text
