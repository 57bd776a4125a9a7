use Rattle.std.proofs.Common.{true, false, sym, ◌∙◌, arith}
use Rattle.dactl_patterns.proofs.Distinct.{number_step}
use Rattle.dactl_patterns.proofs.names.number.Goals as goal

pub returns-then-is_named-clause-number : goal.returns-then-is_named-clause-number
returns-then-is_named-clause-number c =
    omega (arith, number_step c.args.names.now c.args.name.now c.loop-i.i c.index-names-i.result true c.loop-i-test.true c.index-names-i.is (sym c.if-is_named.true ∙ c.is_named.ensures) c.loop-i.invariant)

pub loop-i-preserved : goal.loop-i-preserved
loop-i-preserved c =
    omega (arith, number_step c.args.names.now c.args.name.now c.loop-i.i c.index-names-i.result false c.loop-i-test.true c.index-names-i.is (sym c.if-is_named.false ∙ c.is_named.ensures) c.loop-i.invariant)
