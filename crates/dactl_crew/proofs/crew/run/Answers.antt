use Rattle.std.proofs.Common.{List, sym, ◌∙◌, subst}
use Rattle.dactl_model.specs.declared.graph.Entry.{Entry}
use Rattle.dactl_model.specs.declared.graph.Limits.{Limits}
use Rattle.dactl_model.specs.declared.program.Program.{Program}
use Rattle.dactl_model.specs.Graphs.{IsWellFormed}
use Rattle.dactl_model.specs.Ending.{Ends}
use Rattle.dactl_print.specs.Lines.{HasSymbolsOf}
use Rattle.dactl_shared.specs.Stores.{workers_of}
use Rattle.dactl_store.specs.Held.{Held}
use Rattle.dactl_crew.specs.Running.{IsFitting, IsRun}
use Rattle.dactl_crew.proofs.Runs.{ran, course_formed, course_symbols}
use Rattle.dactl_crew.proofs.crew.run.Goals as goal

pub returns : goal.returns
returns g c =
    let crew = c.args.crew in
    let left = c.work-state.result in
    let state = left.state in
    let work = c.work-state.ensures in
    let f = c.finish-program.ensures in
    let ended = c.in-Some.ended in
    let ends : Ends state.program state.limits state.journal state.held.graph ended = (rw c.in-Some.is at f.ends) in
    let fits : IsFitting state.limits state.program = subst (λ (z : Limits × Program). IsFitting z.0 z.1) (λ i. (sym work.limits i, sym work.program i)) c.requires.fits in
    let run = ran (workers_of crew.store) state ended left.reports.items left.left work.course ends work.reports fits in
    record {
      program = f.program ∙ work.program;
      run = subst (λ (z : Limits × Program × List Entry × Held). IsRun z.0 (workers_of crew.store) z.1 z.2 z.3.graph ended left.reports.items left.left) (λ i. (work.limits i, sym f.program i, sym f.journal i, sym f.store i)) run;
      formed = subst (λ (h : Held). IsWellFormed h.graph) (sym f.store) (course_formed state work.course);
      symbols = subst (λ (z : Program × Held). HasSymbolsOf z.0 z.1.graph) (λ i. (sym f.program i, sym f.store i)) (course_symbols state work.course);
    }
