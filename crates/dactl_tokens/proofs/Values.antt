-- Values of digits, one after another.
use Rattle.std.proofs.Common.{◌≡◌, ℕ, zero, suc, ◌+◌, ◌-◌, ◌*◌, ◌<◌, List, [], ◌∷◌, length, take, get_or, refl, arith}
use Rattle.dactl_tokens.specs.Spelling.{decimal}

-- one digit more
pub decimal_more : (n : ℕ) (digits : List ℕ) (i : ℕ) → i < length digits → decimal n (take (i + 1) digits) ≡ 10 * decimal n (take i digits) + (get_or digits i 0 - 48)
decimal_more n [] i h = absurd (omega arith)
decimal_more n (d ∷ ds) zero h = refl
decimal_more n (d ∷ ds) (suc i) h =
    let e : suc i + 1 ≡ suc (i + 1) = omega arith in
    rw e (decimal_more (10 * n + (d - 48)) ds i (omega arith))
