use Rattle.std.proofs.Common.{All, subst}
use Rattle.std.proofs.lemmas.List.{take_all}
use Rattle.dactl_probe.proofs.Decided.{IsNumberNo, all_no, no_before, open_number}
use Rattle.dactl_probe.proofs.Passing.{taken_no, swept_passed, swept_lost, swept_no}
use Rattle.dactl_probe.proofs.verdict.first_open.Goals.{in-Lost+then-passing, in-Lost+else-passing, in-No}
use Rattle.dactl_probe.proofs.verdict.first_open.Goals as goal

pub loop-place-init : goal.loop-place-init
loop-place-init c = record {
  lost = c.requires.lost;
  none = taken_no c.args.deciders.now.program c.args.readings.now c.args.node c.args.lost.now c.requires.lost c.rules-numbers.result.now _ c.among-place.ensures.lost;
  passed = λ e. c.among-place.ensures.lost;
}

pub loop-place-preserved : goal.loop-place-preserved
loop-place-preserved c =
    let p = c.args.deciders.now.program in
    let numbers = c.rules-numbers.result.now in
    let so = c.loop-place.invariant in
    elim c.match-find.branch [
      | in-Lost+then-passing w ↦ rw (w.lost-is, w.passing-is) (swept_passed p c.program-program.ensures.decisions.valid _ _ c.args.symbol numbers c.rules-numbers.ensures c.loop-place.lost w.pass.new.self c.loop-place.passing _ 0 _ c.requires.symbol so w.if-passing.true c.loop-place-test.true w.in-Lost.ensures w.pass.ensures)
      | in-Lost+else-passing w ↦ rw (w.lost-is, w.passing-is) (swept_lost p c.program-program.ensures.decisions.valid _ _ c.args.symbol numbers c.rules-numbers.ensures c.loop-place.lost c.loop-place.passing _ 0 so w.if-passing.false c.loop-place-test.true w.in-Lost.ensures)
      | in-No w ↦ rw (w.lost-is, w.passing-is) (swept_no p c.program-program.ensures.decisions.valid _ _ c.args.symbol numbers c.rules-numbers.ensures c.loop-place.lost c.loop-place.passing _ 0 so c.loop-place-test.true w.in-No.ensures)
    ]

pub returns-in-Unknown-clause-open : goal.returns-in-Unknown-clause-open
returns-in-Unknown-clause-open c =
    let numbers = c.rules-numbers.result.now in (
      no_before c.args.deciders.now.program _ _ _ numbers c.rules-numbers.ensures _ 0 c.loop-place-test.true c.loop-place.invariant.none,
      open_number c.args.deciders.now.program _ c.args.readings.now c.args.node numbers c.rules-numbers.ensures _ 0 _ c.loop-place-test.true c.in-Unknown.ensures,
    )

pub returns-in-Yes-clause-open : goal.returns-in-Yes-clause-open
returns-in-Yes-clause-open c =
    let numbers = c.rules-numbers.result.now in (
      no_before c.args.deciders.now.program _ _ _ numbers c.rules-numbers.ensures _ 0 c.loop-place-test.true c.loop-place.invariant.none,
      open_number c.args.deciders.now.program _ c.args.readings.now c.args.node numbers c.rules-numbers.ensures _ 0 _ c.loop-place-test.true c.in-Yes.ensures,
    )

pub returns-clause-open : goal.returns-clause-open
returns-clause-open c =
    let numbers = c.rules-numbers.result.now in
    let p = c.args.deciders.now.program in
    all_no p _ _ _ numbers c.rules-numbers.ensures (subst (λ xs. All (IsNumberNo p c.args.readings.now c.args.node) xs) (take_all _ numbers c.loop-place-test.false) c.loop-place.invariant.none)
