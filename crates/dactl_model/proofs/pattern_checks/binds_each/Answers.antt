use Rattle.std.proofs.Common.{IsTrue, below_more, sym, ◌∙◌}
use Rattle.dactl_model.specs.Binders as spec
use Rattle.dactl_model.proofs.pattern_checks.binds_each.Goals as goal

pub returns-then-not-binds : goal.returns-then-not-binds
returns-then-not-binds c = (λ e. cc, λ all. sym c.if-not-binds.true ∙ (c.binds.ensures ∙ all c.loop-variable.variable c.loop-variable-test.true))

pub loop-variable-preserved : goal.loop-variable-preserved
loop-variable-preserved c = below_more (λ v. IsTrue (spec.binds v c.args.pattern.now)) c.loop-variable.variable c.loop-variable.invariant (sym c.binds.ensures ∙ c.if-not-binds.false)
