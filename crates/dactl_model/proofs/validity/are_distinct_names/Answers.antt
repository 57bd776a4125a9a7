use Rattle.std.proofs.Common.{refl, sym, ◌∙◌, ap}
use Rattle.dactl_model.proofs.Distinct.{distinct_more, new_of_distinct, distinct_end}
use Rattle.dactl_model.proofs.validity.are_distinct_names.Goals as goal

pub returns-then-not-is_new_name : goal.returns-then-not-is_new_name
returns-then-not-is_new_name c =
    (λ e. cc, λ distinct. sym c.if-not-is_new_name.true ∙ c.is_new_name.ensures.1 (new_of_distinct (λ s. s.name) c.args.symbols.now c.loop-place.place _ _ c.loop-place-test.true (c.as_slice.ensures ∙ ap (λ s. s.name) c.index-symbols-place.is) distinct))

pub loop-place-preserved : goal.loop-place-preserved
loop-place-preserved c =
    distinct_more (λ s. s.name) c.args.symbols.now c.loop-place.place _ _ c.loop-place-test.true (c.as_slice.ensures ∙ ap (λ s. s.name) c.index-symbols-place.is) c.loop-place.invariant (c.is_new_name.ensures.0 c.if-not-is_new_name.false)

pub returns : goal.returns
returns c = (λ e. distinct_end (λ s. s.name) c.args.symbols.now c.loop-place.place c.loop-place-test.false c.loop-place.invariant, λ distinct. refl)
