-- A state that has ended, as a run.
use Rattle.std.proofs.Common.{◌≡◌, ℕ, ◌-◌, List, length, ap, arith}
use Rattle.dactl_model.specs.declared.graph.Graph.{Graph}
use Rattle.dactl_model.specs.declared.graph.Limits.{Limits}
use Rattle.dactl_model.specs.declared.graph.End.{End}
use Rattle.dactl_model.specs.declared.graph.End.TheVariants.{Normal, Budget, Full}
use Rattle.dactl_model.specs.declared.graph.Entry.{Entry}
use Rattle.dactl_model.specs.declared.program.Program.{Program}
use Rattle.dactl_model.specs.Firing.{start_of}
use Rattle.dactl_model.specs.Ending.{Ends, arcs_of}
use Rattle.dactl_model.specs.Graphs.{IsWellFormed}
use Rattle.dactl_model.proofs.KeptFire.{begins_well_formed}
use Rattle.dactl_model.proofs.Reductions.{reduction_keeps}
use Rattle.dactl_print.specs.Lines.{HasSymbolsOf}
use Rattle.dactl_state.specs.Runs.{Run, IsCourse}
use Rattle.dactl_workers.specs.declared.report.WorkerReport.{WorkerReport}
use Rattle.dactl_crew.specs.Reports.{AreReports}
use Rattle.dactl_crew.specs.Running.{IsFitting, IsWithin, LeavesRest, IsRun}
use Rattle.dactl_crew.proofs.Symbols.{begins_symbols, reduction_symbols}

-- the graph is within the limits
course_within : (state : Run) → IsCourse state → IsWithin state.limits state.held.graph
course_within state course =
    let nodes = course.store.nodes in
    let arcs = course.store.arcs in
    let most : state.held.room.nodes ≡ state.limits.nodes = ap (λ r. r.nodes) course.room in
    let most_arcs : state.held.room.arcs ≡ state.limits.arcs = ap (λ r. r.arcs) course.room in
    record { nodes = omega arith; arcs = omega arith }

-- what a full end says is left is a whole difference
leaves_rest : (p : Program) (limits : Limits) (journal : List Entry) (g : Graph) (ended : End) → IsWithin limits g → Ends p limits journal g ended → LeavesRest limits g ended
leaves_rest p limits journal g Normal within ends = tt
leaves_rest p limits journal g Budget within ends = tt
leaves_rest p limits journal g (Full n r needed left) within ends =
    let nodes = within.nodes in
    let arcs = within.arcs in
    let left_nodes : left.nodes ≡ limits.nodes - length g.nodes = ap (λ r. r.nodes) ends.1.has in
    let left_arcs : left.arcs ≡ limits.arcs - arcs_of g = ap (λ r. r.arcs) ends.1.has in
    (omega arith, omega arith)

pub ran : (workers : ℕ) (state : Run) (ended : End) (reports : List WorkerReport) (left : ℕ) → IsCourse state → Ends state.program state.limits state.journal state.held.graph ended → AreReports state.program state.journal workers reports left
    → IsFitting state.limits state.program → IsRun state.limits workers state.program state.journal state.held.graph ended reports left
ran workers state ended reports left course ends told fits = record {
  reduction = course.run.reduced;
  ends = ends;
  rest = leaves_rest state.program state.limits state.journal state.held.graph ended (course_within state course) ends;
  fits = fits;
  within = course_within state course;
  few = course.few;
  reports = told;
}

-- the graph of a state is well formed
pub course_formed : (state : Run) → IsCourse state → IsWellFormed state.held.graph
course_formed state course = reduction_keeps state.program (start_of state.program.start) state.held.graph state.journal course.valid (begins_well_formed state.program course.valid) course.run.reduced

-- and has the program's symbols
pub course_symbols : (state : Run) → IsCourse state → HasSymbolsOf state.program state.held.graph
course_symbols state course = reduction_symbols state.program (start_of state.program.start) state.held.graph state.journal course.valid (begins_symbols state.program course.valid) course.run.reduced
