use Rattle.std.proofs.Common.{◌≡◌, ℕ, ◌<◌, ◌≤◌, length, refl, sym, ap, ◌∙◌, subst, arith}
use Rattle.std.proofs.lemmas.List.{length-set}
use mathlib.Core.Option.{some}
use Rattle.crossbeam_queue.proofs.Lists.{at_index}
use Rattle.dactl_steal.proofs.Shares.{Sharing, sharing_starts, sharing_goes_on, sharing_ends, lenders}
use Rattle.dactl_steal.proofs.sharing.share_out.Goals as goal

pub loop-number-init : goal.loop-number-init
loop-number-init c = record { end = omega arith; long = refl; shared = sharing_starts _ }

pub row_of-requires : goal.row_of-requires
row_of-requires c = let i = c.loop-number.invariant in let u = c.requires.unshared in
    lenders u.0 c.loop-number.number _ _ (let f = c.requires.few in let b = c.loop-number-test.true in let l = i.long in omega arith) u.1 i.shared

pub loop-number-preserved : goal.loop-number-preserved
loop-number-preserved c = let i = c.loop-number.invariant in let mids = c.loop-number.hands in let number = c.loop-number.number in let hand = c.index-hands-number.result in let is = c.index-hands-number.is in
    let made = c.in_ok-hands.ensures in let news = c.row_of.new.hands in
    let at = at_index news number hand (let b = c.loop-number-test.true in let l = i.long in let m = c.row_of.ensures.long in omega arith) is ∙ ap some is in record {
      end = let b = c.loop-number-test.true in omega arith;
      long = length-set news number _ ∙ (c.row_of.ensures.long ∙ i.long);
      shared = sharing_goes_on number _ mids news _ _ i.long i.shared made.lent at refl made.row made.none;
    }

pub returns-clause-shared : goal.returns-clause-shared
returns-clause-shared c room fresh = let i = c.loop-number.invariant in let hands = c.args.hands.now in
    let all : c.loop-number.number ≡ length hands = (let f = c.loop-number-test.false in let e = i.end in omega arith) in
    sharing_ends room hands c.loop-number.hands i.long (subst (λ (n : ℕ). Sharing n hands c.loop-number.hands) all i.shared) fresh
