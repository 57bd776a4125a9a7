-- Runs from a graph and from its restriction.
use Rattle.std.proofs.Common.{List}
use Rattle.dactl_model.specs.declared.graph.NodeId.{NodeId}
use Rattle.dactl_model.specs.declared.graph.Graph.{Graph}
use Rattle.dactl_model.specs.declared.program.Program.{Program}
use Rattle.dactl_model.specs.Graphs.{IsWellFormed}
use Rattle.dactl_model.proofs.Reductions.{reduction_keeps}
use Rattle.dactl_within.specs.Renumbering.{IsWithin, IsIdleBeside}
use Rattle.dactl_within.proofs.Runs.{run_both, run_comes_back, ends_alike}
use Rattle.dactl_resume.specs.Statements.{EndAlike, RunGoesOn, RunCameFrom}
use Rattle.dactl_resume.proofs.Texts.{text_is_kept, text_comes_back}
use Rattle.dactl_resume.proofs.Canonical.{restriction_is_idle_beside}

end_alike : (p : Program) (f : List NodeId) (h g : Graph) → IsWellFormed h → IsWithin f h g → IsIdleBeside f h g → EndAlike p h g
end_alike p f h g fine is beside = record {
  texts = λ text. (text_is_kept p f h g text fine is, text_comes_back p f h g text fine is);
  active = ends_alike f h g is beside;
}

pub run_goes_on : RunGoesOn
run_goes_on p g h h' order journal valid is reached run =
    let beside = restriction_is_idle_beside g h order is reached in
    let both = run_both p order h g h' journal valid is.fine is.within run in
    (both.0, both.1, end_alike p _ h' both.0 (reduction_keeps p h h' journal valid is.fine run) both.2.0.within (both.2.1 beside))

pub run_came_from : RunCameFrom
run_came_from p g h g' order journal valid is reached run =
    let back = run_comes_back p order h g g' journal valid is.fine is.within (restriction_is_idle_beside g h order is reached) run in
    (back.0, back.1, back.2, back.3, end_alike p _ back.0 g' (reduction_keeps p h back.0 back.1 valid is.fine back.3) back.4.within back.5)
