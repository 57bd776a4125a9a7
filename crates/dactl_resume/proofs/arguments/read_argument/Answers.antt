use Rattle.std.proofs.Common.{arith, inl, inr}
use Rattle.dactl_base.proofs.NumberParts.{number_behind}
use Rattle.dactl_resume.proofs.ArgumentParts.{argument_number}
use Rattle.dactl_resume.proofs.arguments.read_argument.Goals as goal

pub returns-in_err-number : goal.returns-in_err-number
returns-in_err-number c =
    let none = c.in_err-number.ensures in
    let flag = c.split_flag-waits.ensures in
    rw c.from_residual-in_err-number.ensures (λ arc rest is.
    none _ _ (argument_number c.args.lead.now c.args.bytes.now _ _ _ c.args.count c.ranges.count.fits c.in_ok-behind.ensures flag.joined flag.none arc rest is))

pub returns-then-number-lt1 : goal.returns-then-number-lt1
returns-then-number-lt1 c =
    λ arc rest is.
    let flag = c.split_flag-waits.ensures in
    let same = (number_behind c.in_ok-number.ensures (argument_number c.args.lead.now c.args.bytes.now _ _ _ c.args.count c.ranges.count.fits c.in_ok-behind.ensures flag.joined flag.none arc rest is)).0 in
    let below = is.target in
    elim c.then-number-lt1.either [
      | inl low ↦ absurd (omega (arith, same, below, low))
      | inr high ↦ absurd (omega (arith, same, below, high.1))
    ]
