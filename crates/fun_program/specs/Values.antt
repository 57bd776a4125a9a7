-- What runs of a text of equations give.
use Rattle.std.specs.Prelude.{◌≤◌, ℕ, List, length}
use Rattle.dactl_model.specs.declared.graph.Graph.{Graph}
use Rattle.dactl_model.specs.declared.graph.Entry.{Entry}
use Rattle.dactl_model.specs.declared.program.Program.{Program}
use Rattle.dactl_model.specs.Firing.{start_of}
use Rattle.dactl_model.specs.Steps.{Reduction}
use Rattle.fun_meaning.specs.declared.tree.Expr.{Expr}
use Rattle.fun_meaning.specs.declared.tree.Fun.{Fun}
use Rattle.fun_meaning.specs.Values.{HasValue}
use Rattle.fun_meaning.specs.Meaning.{symbol_names, Unfolds}
use Rattle.fun_syntax.specs.Reads.{IsFunOf}
use Rattle.fun_program.specs.Compiling.{MeansProgram}

-- Whatever the graph's root unfolds to is the value that the equations of the text give to the expression of `MAIN`.
abbrev pub ShowsValues : List ℕ → Program → Graph → Type 0
ShowsValues bytes p g = (e : Fun) (v : Expr) → IsFunOf bytes e → Unfolds e (symbol_names p) g g.root v → HasValue e e.main v

-- so it is for each graph of a run of the text's program, however its steps interleave
abbrev pub RunsShowValues : Type 0
RunsShowValues =
    (bytes : List ℕ) (p : Program) (journal : List Entry) (g : Graph) → length bytes ≤ 1048576 → MeansProgram bytes p
    → Reduction p (start_of p.start) journal g → ShowsValues bytes p g
