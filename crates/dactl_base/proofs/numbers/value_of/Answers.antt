use Rattle.std.proofs.Common.{◌∙◌, sym, pos, arith}
use Rattle.std.proofs.lemmas.Int.{ints}
use Rattle.dactl_base.proofs.Decimals.{integer_injective, fits_number}
use Rattle.dactl_base.proofs.numbers.value_of.Goals as goal
use Rattle.dactl_base.proofs.numbers.value_of.Goals.{else-value-ge0-via-then-value-ge0+else-value-lt4294967296, else-value-ge0-via-else-value-ge0}

pub returns-in_err-value : goal.returns-in_err-value
returns-in_err-value c = rw c.from_residual.ensures (λ n small is. c.in_err-value.ensures (pos n) (fits_number n small) is)

pub returns-else-value-ge0 : goal.returns-else-value-ge0
returns-else-value-ge0 c =
    λ n small is.
    let same = integer_injective c.in_ok-value.value (pos n) c.in_ok-value.ensures.0 (fits_number n small) (sym c.in_ok-value.ensures.1 ∙ is) in
    elim c.else-value-ge0.branch [
      | else-value-ge0-via-then-value-ge0+else-value-lt4294967296 w ↦ absurd (omega (arith, ints, same, small, w.if-value-lt4294967296.false))
      | else-value-ge0-via-else-value-ge0 w ↦ absurd (omega (arith, ints, same, w.if-value-ge0.false))
    ]
