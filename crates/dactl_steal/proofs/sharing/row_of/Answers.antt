use Rattle.std.proofs.Common.{◌≡◌, ◌<◌, length, refl, sym, ap, ◌∙◌, subst, arith}
use mathlib.Core.Option.{some}
use Rattle.crossbeam_queue.proofs.Lists.{at_index}
use Rattle.dactl_steal.specs.Making.{CanLend}
use Rattle.dactl_steal.specs.declared.board.StealHand.{StealHand}
use Rattle.dactl_steal.proofs.Shares.{state_starts, state_own, state_other, state_lends, lending_ends}
use Rattle.dactl_steal.proofs.sharing.row_of.Goals as goal

pub loop-place-init : goal.loop-place-init
loop-place-init c = record { end = omega arith; so = state_starts _ _ _ c.in_ok-row.ensures.items }

pub loop-place-preserved-then-place-number : goal.loop-place-preserved-then-place-number
loop-place-preserved-then-place-number c = let i = c.loop-place.invariant in record {
  end = let b = c.loop-place-test.true in omega arith;
  so = state_own _ _ _ _ _ _ c.if-place-number.true i.so c.in_ok-push.ensures.items;
}

pub other_of-requires : goal.other_of-requires
other_of-requires c = let i = c.loop-place.invariant in let hands = c.loop-place.hands in let place = c.loop-place.place in let hand = c.index-hands-place.result in let is = c.index-hands-place.is in
    subst (λ (h : StealHand). CanLend h.own) is (state_lends _ place _ hands _ hand c.requires i.so (at_index hands place hand (let b = c.loop-place-test.true in let l = i.so.long in omega arith) is))

pub loop-place-preserved : goal.loop-place-preserved
loop-place-preserved c = let i = c.loop-place.invariant in let hands = c.loop-place.hands in let place = c.loop-place.place in let hand = c.index-hands-place.result in let is = c.index-hands-place.is in
    let at = at_index hands place hand (let b = c.loop-place-test.true in let l = i.so.long in omega arith) is ∙ ap some is in let lent = c.in_ok-other_of.ensures in record {
      end = let b = c.loop-place-test.true in omega arith;
      so = state_other _ place _ hands _ _ _ _ c.in_ok-other_of.field-0 i.so at c.if-place-number.false refl c.other_of.ensures.deque lent.own lent.usable lent.other.0 lent.other.1 c.in_ok-push-2.ensures.items;
    }

pub returns-clause-lent : goal.returns-clause-lent
returns-clause-lent c = let i = c.loop-place.invariant in lending_ends _ _ _ _ (let f = c.loop-place-test.false in let l = i.so.long in omega arith) i.so.lent
