use Rattle.std.proofs.Common.{arith}
use Rattle.dactl_tokens.proofs.Values.{decimal_more}
use Rattle.dactl_tokens.proofs.integers.magnitude.Goals as goal

pub loop-digit-preserved : goal.loop-digit-preserved
loop-digit-preserved c =
    omega (arith, decimal_more 0 c.args.digits.now c.loop-digit.digit-index c.loop-digit-test.true, c.loop-digit.invariant, c.saturating_sub.ensures, c.from-units.ensures, c.saturating_mul.ensures, c.saturating_add.ensures, c.min-value.ensures)
