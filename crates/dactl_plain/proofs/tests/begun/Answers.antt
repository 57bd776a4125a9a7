use Rattle.std.proofs.Common.{subst, sym}
use Rattle.std.proofs.lemmas.Result.{IfOk-weaker}
use Rattle.dactl_model.specs.Graphs.{IsWellFormed}
use Rattle.dactl_model.proofs.KeptFire.{begins_well_formed}
use Rattle.dactl_plain.proofs.tests.begun.Goals as goal

pub returns : goal.returns
returns c = IfOk-weaker _ _ _ (λ graph is. subst IsWellFormed (sym is) (begins_well_formed c.args.program.now c.requires)) c.start_graph.ensures
