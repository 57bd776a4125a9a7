use Rattle.std.proofs.Common.{sym, arith}
use Rattle.dactl_contractum.proofs.Meanings.{variable_some}
use Rattle.dactl_contractum.proofs.variables.Variables.small_number.Goals as goal

pub overflow_cast-result : goal.overflow_cast-result
overflow_cast-result c = let f = variable_some c.args.self.now c.args.name.now c.in-Some.number (sym c.in-Some.ensures) in omega (arith, f.2)
