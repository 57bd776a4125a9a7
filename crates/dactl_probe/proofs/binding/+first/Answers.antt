use Rattle.std.proofs.Common.{sym, ◌∙◌}
use Rattle.dactl_model.specs.Readings.{told}
use Rattle.dactl_probe.proofs.Pairs.{first_found, first_goes_on}
use Rattle.dactl_probe.proofs.binding.+first.Goals as goal

pub first_bound_each-returns-in-Some : goal.first_bound_each-returns-in-Some
first_bound_each-returns-in-Some t c =
    sym (c.loop-place.invariant ∙ first_found (told c.args.readings.now) _ _ _ _ _ _ _ c.loop-place-test.true c.if-place-targets.false c.index-patterns-place.is (sym c.first_bound.ensures ∙ c.in-Some.is))

pub first_bound_each-loop-place-preserved : goal.first_bound_each-loop-place-preserved
first_bound_each-loop-place-preserved t c =
    c.loop-place.invariant ∙ first_goes_on (told c.args.readings.now) _ _ _ _ _ _ c.loop-place-test.true c.if-place-targets.false c.index-patterns-place.is (sym c.first_bound.ensures ∙ c.in_default.is)
