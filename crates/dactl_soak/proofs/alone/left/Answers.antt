use Rattle.std.proofs.Common.{sym, subst}
use Rattle.dactl_model.specs.Graphs.{IsWellFormed}
use Rattle.dactl_model.specs.declared.program.Program.{Program}
use Rattle.dactl_print.specs.Lines.{HasSymbolsOf}
use Rattle.dactl_store.specs.Held.{Held}
use Rattle.dactl_crew.proofs.Runs.{course_formed, course_symbols}
use Rattle.dactl_soak.proofs.alone.left.Goals as goal

pub returns-clause-formed : goal.returns-clause-formed
returns-clause-formed c =
    let f = c.finish.ensures in
    subst (λ (h : Held). IsWellFormed h.graph) (sym f.store) (course_formed c.args.state f.course)

pub returns-clause-symbols : goal.returns-clause-symbols
returns-clause-symbols c =
    let f = c.finish.ensures in
    subst (λ (z : Program × Held). HasSymbolsOf z.0 z.1.graph) (λ i. (sym f.program i, sym f.store i)) (course_symbols c.args.state f.course)
