use Rattle.std.proofs.Common.{◌≡◌, ℕ, ◌<◌, length, refl, sym, ap, ◌∙◌, arith}
use Rattle.std.proofs.lemmas.List.{length-set}
use mathlib.Core.Option.{some}
use Rattle.crossbeam_queue.proofs.Lists.{at_index}
use Rattle.dactl_steal.proofs.Gathers.{gathering_starts, gathering_goes_on, all_gathered, still_ends}
use Rattle.dactl_steal.proofs.closing.gather.Goals as goal

pub loop-place-init : goal.loop-place-init
loop-place-init c = record {
  same = (refl, refl, refl, omega arith);
  long = refl;
  end = omega arith;
  gathered = λ deques count less fits at. gathering_starts deques count _ _;
}

pub give_back-requires : goal.give_back-requires
give_back-requires c = let r = c.requires in let i = c.loop-place.invariant in let rows = c.loop-place.rows in let place = c.loop-place.place in let row = c.index-rows-place.result in let is = c.index-rows-place.is in
    still_ends r.0 r.1 place _ _ _ _ rows _ r.3 (i.gathered r.0 r.1 r.2 r.3 r.4) (r.4 ∙ ap some (sym i.same.0))
    (at_index rows place row (let b = c.loop-place-test.true in let l = i.long in omega arith) is ∙ ap some is)

pub loop-place-preserved : goal.loop-place-preserved
loop-place-preserved c = let i = c.loop-place.invariant in let rows = c.loop-place.rows in let place = c.loop-place.place in let row = c.index-rows-place.result in let is = c.index-rows-place.is in let s = c.give_back.ensures.same in record {
  same = (s.0 ∙ i.same.0, s.1 ∙ i.same.1, s.2 ∙ i.same.2, let a = s.3 in let b = i.same.3 in omega arith);
  long = length-set rows place c.give_back.new.row ∙ i.long;
  end = let b = c.loop-place-test.true in omega arith;
  gathered = λ deques count less fits at. gathering_goes_on deques count place _ _ _ _ rows _ c.give_back.new.row fits (i.gathered deques count less fits at)
      (at_index rows place row (let b = c.loop-place-test.true in let l = i.long in omega arith) is ∙ ap some is) c.give_back.ensures.row c.give_back.ensures.account;
}

pub returns-clause-gathered : goal.returns-clause-gathered
returns-clause-gathered c = λ deques count less fits at. let i = c.loop-place.invariant in
    all_gathered deques count c.loop-place.place _ _ _ _ less i.long (let b = c.loop-place-test.false in omega arith) i.end fits (i.gathered deques count less fits at)
