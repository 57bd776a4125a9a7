use Rattle.std.proofs.Common.{◌≡◌, ℕ, ◌+◌, ap, ◌∙◌, subst, slice_index_or, arith}
use Rattle.std.proofs.lemmas.List.{length-set}
use mathlib.Core.Option.{some}
use lib.ListN.{get_elem?}
use Rattle.crossbeam_queue.proofs.Lists.{at_index}
use Rattle.dactl_steal.specs.Others.{IsUsableSlot}
use Rattle.dactl_steal.proofs.Others.{kept_at, usable_at, empty_at, stolen_at, all_empty}
use Rattle.dactl_steal.proofs.stealing.steal.Goals as goal

pub rob_at-requires : goal.rob_at-requires
rob_at-requires g c = let i = c.loop-place.invariant in let slot = c.index-others-place.result in let is = c.index-others-place.is in
    subst IsUsableSlot is (i.usable c.loop-place.place slot (at_index c.loop-place.others c.loop-place.place slot (let b = c.loop-place-test.true in let l = i.long in omega arith) is))

pub returns-in-Some-clause-kept : goal.returns-in-Some-clause-kept
returns-in-Some-clause-kept g c = λ me deques fits. let i = c.loop-place.invariant in let others = c.loop-place.others in let place = c.loop-place.place in let slot = c.index-others-place.result in
    let is = c.index-others-place.is in let at = at_index others place slot (let b = c.loop-place-test.true in let l = i.long in omega arith) is ∙ ap some is in
    kept_at others place _ _ at c.rob_at.ensures.kept me deques (i.kept me deques fits)

pub returns-in-Some-clause-taken : goal.returns-in-Some-clause-taken
returns-in-Some-clause-taken g c = λ h. let i = c.loop-place.invariant in let others = c.loop-place.others in let place = c.loop-place.place in let slot = c.index-others-place.result in
    let is = c.index-others-place.is in let at = at_index others place slot (let b = c.loop-place-test.true in let l = i.long in omega arith) is ∙ ap some is in
    let s = stolen_at others place _ c.rob_at.new.place h at in let e = i.even h in let t = c.in-Some.ensures.taken h in omega arith

pub loop-place-preserved : goal.loop-place-preserved
loop-place-preserved g c = let i = c.loop-place.invariant in let others = c.loop-place.others in let place = c.loop-place.place in let slot = c.index-others-place.result in
    let is = c.index-others-place.is in let at = at_index others place slot (let b = c.loop-place-test.true in let l = i.long in omega arith) is ∙ ap some is in record {
      long = length-set others place c.rob_at.new.place ∙ i.long;
      kept = λ me deques fits. kept_at others place _ _ at c.rob_at.ensures.kept me deques (i.kept me deques fits);
      usable = usable_at others place c.rob_at.new.place c.rob_at.new.place i.usable c.rob_at.ensures.kept.0;
      empty = empty_at others place c.rob_at.new.place c.rob_at.new.place i.empty c.in_default.ensures.taken.0;
      even = λ h. let s = stolen_at others place _ c.rob_at.new.place h at in let e = i.even h in let t = c.in_default.ensures.taken.1 h in omega arith;
    }

pub returns-clause-taken : goal.returns-clause-taken
returns-clause-taken g c = let i = c.loop-place.invariant in (all_empty c.loop-place.others c.loop-place.place (let f = c.loop-place-test.false in let l = i.long in omega arith) i.empty, i.even)
