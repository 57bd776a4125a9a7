-- The value that is seen of an integer is within the bound of its language.
use Rattle.std.proofs.Common.{◌≡◌, ℕ, zero, suc, ◌-◌, ◌<◌, Bool, true, false, cond, List, [], ◌∷◌, refl, ap, ◌∙◌, arith}
use Rattle.std.specs.Prelude.{◌==◌, nat_le, nat_lt, ℤ, pos, negsuc, ◌-ℤ◌}
use Rattle.std.specs.Int.Signed.{mag}
use Rattle.std.proofs.lemmas.Bool.{ltb-false, leb-false, lt-ltb}
use Rattle.dactl_tokens.specs.Spelling.{decimal, bound, is_too_wide, value_of}
use Rattle.dactl_terminals.specs.Parts.{value_at}

-- the number after 0 - n
pub minus_is : (n : ℕ) → pos 0 -ℤ pos (suc n) ≡ negsuc n
minus_is n =
    let less : suc n - suc 0 ≡ n = omega arith in
    ap (λ (b : Bool). cond b (negsuc (suc n - suc 0)) (pos (0 - suc n))) (lt-ltb 0 (suc n) (omega arith)) ∙ ap negsuc less

some_bound : (wide : Bool) → 0 < bound wide
some_bound true = omega arith
some_bound false = omega arith

negative_within : (most n : ℕ) → 0 < most → n < suc most → mag (pos 0 -ℤ pos n) < most
negative_within most zero some h = some
negative_within most (suc n) some h = let e = ap mag (minus_is n) in omega arith

signed_within : (minus : Bool) (most m n : ℕ) → 0 < most → cond minus (nat_lt most m) (nat_le most n) ≡ false → mag (cond minus (pos 0 -ℤ pos m) (pos n)) < most
signed_within true most m n some h = let low = ltb-false most m h in negative_within most m some (omega arith)
signed_within false most m n some h = leb-false most n h

value_of_within : (wide : Bool) (w : List ℕ) → is_too_wide wide w ≡ false → mag (value_of w) < bound wide
unfolding is_too_wide
value_of_within wide [] h = some_bound wide
value_of_within wide (b ∷ w) h = signed_within (b == 45) (bound wide) (decimal 0 w) (decimal 0 (b ∷ w)) (some_bound wide) h

none_or_within : (b : Bool) (most : ℕ) (z : ℤ) → 0 < most → mag z < most → mag (cond b (pos 0) z) < most
none_or_within true most z some h = some
none_or_within false most z some h = h

-- of bytes that fit a language, seen as an integer of either
pub value_within : (other wide : Bool) (w : List ℕ) → is_too_wide wide w ≡ false → mag (value_at other w) < bound wide
value_within other wide w h = none_or_within (is_too_wide other w) (bound wide) (value_of w) (some_bound wide) (value_of_within wide w h)

-- of any bytes
pub value_small : (wide : Bool) (w : List ℕ) → mag (value_at wide w) < bound wide
value_small wide w = at (is_too_wide wide w) refl
  where
    at : (b : Bool) → is_too_wide wide w ≡ b → mag (cond b (pos 0) (value_of w)) < bound wide
    at true h = some_bound wide
    at false h = value_of_within wide w h
