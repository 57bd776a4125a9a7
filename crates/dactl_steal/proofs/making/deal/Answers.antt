use Rattle.std.proofs.Common.{◌≡◌, ℕ, ◌+◌, ◌-◌, [], sym, ap, ◌∙◌, arith}
use Rattle.dactl_steal.specs.Members.{member, numbers_from}
use Rattle.dactl_steal.proofs.Starts.{none_seated, one_seated}
use Rattle.dactl_steal.proofs.making.deal.Goals as goal

pub loop-number-init : goal.loop-number-init
loop-number-init c = record {
  keeper = c.requires.keeper;
  numbers = c.requires.numbers;
  count = c.in_ok-made.ensures.len;
  seated = none_seated _ _ _ c.in_ok-made.ensures.items;
}

pub loop-number-preserved : goal.loop-number-preserved
loop-number-preserved c = let i = c.loop-number.invariant in let number = c.loop-number.number in record {
  keeper = c.hand_of.ensures.keeper;
  numbers = c.in_ok-hand_of.ensures.numbers ∙ ap (λ (n : ℕ). member (numbers_from (number + 1) n) [] []) (let q : 255 - number ≡ 256 - (number + 1) = omega arith in q);
  count = let l = c.in_ok-push.ensures.len in let n = i.count in omega arith;
  seated = one_seated _ _ number c.loop-number.made.items _ c.in_ok-hand_of.field-0 i.seated (sym c.loop-number.made.ok.0 ∙ i.count) c.in_ok-hand_of.ensures.seated c.in_ok-hand_of.ensures.own c.in_ok-push.ensures.items;
}
