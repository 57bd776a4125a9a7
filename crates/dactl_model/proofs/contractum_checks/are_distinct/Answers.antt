use Rattle.std.proofs.Common.{refl, sym, ◌∙◌}
use Rattle.dactl_model.proofs.Distinct.{distinct_more, new_of_distinct, distinct_end}
use Rattle.dactl_model.proofs.contractum_checks.are_distinct.Goals as goal

pub returns-then-not-is_new_left : goal.returns-then-not-is_new_left
returns-then-not-is_new_left c =
    (λ e. cc, λ distinct. sym c.if-not-is_new_left.true ∙ c.is_new_left.ensures.1 (new_of_distinct (λ m. m.from) c.args.moves.now c.loop-place.place _ _ c.loop-place-test.true refl distinct))

pub loop-place-preserved : goal.loop-place-preserved
loop-place-preserved c =
    distinct_more (λ m. m.from) c.args.moves.now c.loop-place.place _ _ c.loop-place-test.true refl c.loop-place.invariant (c.is_new_left.ensures.0 c.if-not-is_new_left.false)

pub returns : goal.returns
returns c = (λ e. distinct_end (λ m. m.from) c.args.moves.now c.loop-place.place c.loop-place-test.false c.loop-place.invariant, λ distinct. refl)
