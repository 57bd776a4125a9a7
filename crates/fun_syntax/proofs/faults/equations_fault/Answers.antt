use Rattle.std.proofs.Common.{◌∙◌}
use Rattle.fun_syntax.specs.Faults.{equation_faults}
use Rattle.fun_syntax.specs.Words.{found_in}
use Rattle.fun_syntax.proofs.Sooner.{parts-more}
use Rattle.fun_syntax.proofs.faults.equations_fault.Goals as goal

pub loop-equation-preserved : goal.loop-equation-preserved
loop-equation-preserved c = c.lesser-told.ensures ∙ parts-more (equation_faults (found_in c.args.roles.now)) c.args.equations.now c.loop-equation.equation-index c.equation-item.result c.loop-equation.told c.in_ok-fault.fault c.loop-equation-test.true c.equation-item.is c.loop-equation.invariant c.in_ok-fault.ensures
