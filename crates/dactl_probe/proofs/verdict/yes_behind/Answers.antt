use Rattle.std.proofs.Common.{All, subst, sym, ap, arith}
use Rattle.std.proofs.lemmas.List.{take_all}
use Rattle.std.proofs.lemmas.List.Elements.{All-more}
use Rattle.dactl_probe.proofs.Decided.{IsNotYes, not_yes_until, none_beside, open_number, same_rule}
use Rattle.dactl_probe.specs.Lost.{AreLost}
use Rattle.dactl_probe.proofs.Passing.{taken_not_yes, no_more, same_group, lost_added, lost_not_yes, open_not_yes}
use Rattle.dactl_probe.proofs.verdict.yes_behind.Goals.{in-Lost, in-No}
use Rattle.dactl_probe.proofs.verdict.yes_behind.Goals as goal

pub loop-place-init : goal.loop-place-init
loop-place-init c = record {
  lost = c.requires.lost;
  none = taken_not_yes c.args.deciders.now.program c.args.readings.now c.args.node c.args.lost.now c.requires.lost c.rules-numbers.result.now c.rule.result.now.group _ c.among-place.ensures.lost;
}

pub loop-place-preserved-then-number-first : goal.loop-place-preserved-then-number-first
loop-place-preserved-then-number-first c =
    let p = c.args.deciders.now.program in
    let numbers = c.rules-numbers.result.now in
    record {
      lost = c.loop-place.invariant.lost;
      none = All-more (IsNotYes p c.rule.result.now.group c.args.readings.now c.args.node) numbers c.loop-place.place 0 c.loop-place-test.true c.loop-place.invariant.none
          (not_yes_until p c.args.symbol c.args.readings.now c.args.node numbers c.rules-numbers.ensures c.rule.result.now.group c.args.first c.loop-place.place 0 c.requires.first c.loop-place-test.true c.if-number-first.true);
    }

pub loop-place-preserved : goal.loop-place-preserved
loop-place-preserved c =
    let p = c.args.deciders.now.program in
    let numbers = c.rules-numbers.result.now in
    let group = c.rule.result.now.group in
    let IsNot = IsNotYes p group c.args.readings.now c.args.node in
    elim c.match-find.branch [
      | in-Lost w ↦ record {
        lost = subst (AreLost p.rules c.args.readings.now c.args.node) (sym w.lost-is) (lost_added p c.args.readings.now c.args.node c.loop-place.lost w.mark.new.self _ c.loop-place.invariant.lost w.mark.ensures w.in-Lost.ensures);
        none = All-more IsNot numbers c.loop-place.place 0 c.loop-place-test.true c.loop-place.invariant.none (lost_not_yes p group c.args.readings.now c.args.node _ w.in-Lost.ensures);
      }
      | in-No w ↦ record {
        lost = subst (AreLost p.rules c.args.readings.now c.args.node) (sym w.lost-is) c.loop-place.invariant.lost;
        none = All-more IsNot numbers c.loop-place.place 0 c.loop-place-test.true c.loop-place.invariant.none (open_not_yes p group c.args.readings.now c.args.node _ c.find.result w.in-No.is c.find.ensures);
      }
    ]

pub returns-then-rule-group-clause-yes : goal.returns-then-rule-group-clause-yes
returns-then-rule-group-clause-yes c =
    let p = c.args.deciders.now.program in
    let numbers = c.rules-numbers.result.now in
    let first_is = rw c.program-program.ensures.same at c.rule.ensures in
    let is = rw c.program-program.ensures.same at c.rule-in-loop-place.ensures in
    none_beside p c.args.symbol _ _ numbers c.rules-numbers.ensures c.args.first c.rule.result.now first_is
    (no_more p c.program-program.ensures.decisions.valid c.args.readings.now c.args.node c.args.symbol numbers c.rules-numbers.ensures c.rule.result.now.group _ 0 c.rule-in-loop-place.result.now c.loop-place-test.true is c.if-rule-group.true c.loop-place.invariant.none)

pub returns-in-Yes-clause-yes : goal.returns-in-Yes-clause-yes
returns-in-Yes-clause-yes c = λ rule is.
    let p = c.args.deciders.now.program in
    let numbers = c.rules-numbers.result.now in
    let first_is = rw c.program-program.ensures.same at c.rule.ensures in
    let number_is = rw c.program-program.ensures.same at c.rule-in-loop-place.ensures in
    open_number p c.args.symbol c.args.readings.now c.args.node numbers c.rules-numbers.ensures c.loop-place.place 0 _ c.loop-place-test.true (λ other at.
    let first_same = ap (λ x. x.group) (same_rule p.rules c.args.first _ _ first_is is) in
    let other_same = ap (λ x. x.group) (same_rule p.rules _ _ _ number_is at) in
    (same_group p c.program-program.ensures.decisions.valid c.args.readings.now c.args.node c.args.symbol numbers c.rules-numbers.ensures c.args.first _ rule other is at c.if-number-first.false (omega (arith, first_same, other_same, c.if-rule-group.false)), c.in-Yes.ensures other at))

pub returns-clause-yes : goal.returns-clause-yes
returns-clause-yes c =
    let p = c.args.deciders.now.program in
    let numbers = c.rules-numbers.result.now in
    let first_is = rw c.program-program.ensures.same at c.rule.ensures in
    none_beside p c.args.symbol _ _ numbers c.rules-numbers.ensures c.args.first c.rule.result.now first_is
    (subst (λ xs. All (IsNotYes p c.rule.result.now.group c.args.readings.now c.args.node) xs) (take_all _ numbers c.loop-place-test.false) c.loop-place.invariant.none)
