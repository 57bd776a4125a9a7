-- The decimal text of an integer spells it.
use Rattle.std.proofs.Common.{◌≡◌, ℕ, suc, ◌+◌, ◌-◌, ◌*◌, ◌/◌, ◌%◌, ◌^◌, ◌<◌, ◌≤◌, Bool, true, false, cond, List, [], ◌∷◌, ◌++◌, Some, refl, sym, ap, subst, ◌∙◌, arith}
use Rattle.std.specs.Prelude.{◌==◌, nat_le, nat_lt, ℤ, pos, negsuc, ◌-ℤ◌}
use Rattle.std.specs.Int.Signed.{mag}
use Rattle.std.specs.Fmt.{decimal as text_of, signed_decimal}
use Rattle.std.proofs.Math.Nat.{div-add-mod, mod-lt}
use Rattle.std.proofs.lemmas.Bool.{leb-true, le-leb, lt-leb, le-ltb, ne_eqb}
use Rattle.std.proofs.lemmas.Fmt.{decimal_by_steps_wide}
use Rattle.dactl_model.proofs.Unique.{left_true, right_true}
use Rattle.dactl_tokens.specs.declared.token.TokenKind.TheVariants.{Integer}
use Rattle.dactl_tokens.specs.Spelling.{is_upper, is_lower, is_digit, all, is_long_sign, kind_of, decimal, bound, is_too_wide, value_of}
use Rattle.dactl_terminals.specs.Parts.{value_at}
use Rattle.dactl_terminals.proofs.Values.{minus_is}

most_bound : (wide : Bool) → bound wide ≤ 2 ^ 127
most_bound true = omega arith
most_bound false = omega arith

-- ---- digits

-- bytes that are the digits of a number, and there are some
pub record AreDigits (n : ℕ) (ds : List ℕ) : Type 0 where
  pub first : ℕ
  pub more : List ℕ
  pub parts : ds ≡ first ∷ more
  pub digits : all is_digit ds ≡ true
  pub value : decimal 0 ds ≡ n

-- one digit more
decimal_push : (n : ℕ) (ds : List ℕ) (d : ℕ) → decimal n (ds ++ d ∷ []) ≡ 10 * decimal n ds + (d - 48)
decimal_push n [] d = refl
decimal_push n (b ∷ ds) d = decimal_push (10 * n + (b - 48)) ds d

all_push : (ds : List ℕ) (d : ℕ) → all is_digit ds ≡ true → is_digit d ≡ true → all is_digit (ds ++ d ∷ []) ≡ true
all_push [] d h k = rw k refl
all_push (b ∷ ds) d h k = rw (left_true (is_digit b) (all is_digit ds) h, all_push ds d (right_true (is_digit b) (all is_digit ds) h) k) refl

digit_is : (n : ℕ) → n < 10 → is_digit (48 + n) ≡ true
digit_is n h = rw (le-leb 48 (48 + n) (omega arith), le-leb (48 + n) 57 (omega arith)) refl

one_digit : (n : ℕ) → n < 10 → AreDigits n ((48 + n) ∷ [])
one_digit n h = record { first = 48 + n; more = []; parts = refl; digits = rw (digit_is n h) refl; value = omega arith }

more_digits : (n : ℕ) (ds : List ℕ) → 10 ≤ n → AreDigits (n / 10) ds → AreDigits n (ds ++ ((48 + n % 10) ∷ []))
more_digits n ds h d =
    let small : n % 10 < 10 = mod-lt n (omega arith) in
    let value = d.value in
    record {
      first = d.first;
      more = d.more ++ ((48 + n % 10) ∷ []);
      parts = ap (λ (z : List ℕ). z ++ ((48 + n % 10) ∷ [])) d.parts;
      digits = all_push ds (48 + n % 10) d.digits (digit_is (n % 10) small);
      value = omega (arith, decimal_push 0 ds (48 + n % 10), div-add-mod n 10);
    }

text_digits : (n : ℕ) → n < 10 ^ 64 → AreDigits n (text_of n)
text_digits n h = decimal_by_steps_wide AreDigits one_digit more_digits n h

-- ---- a token

-- the bytes are an integer token of a language, and of this value
pub record SpellsInteger (wide : Bool) (z : ℤ) (w : List ℕ) : Type 0 where
  pub kind : kind_of wide w ≡ Some Integer
  pub fits : is_too_wide wide w ≡ false
  pub value : value_at true w ≡ z

digit_low : (b : ℕ) → is_digit b ≡ true → 48 ≤ b
digit_low b h = leb-true 48 b (left_true (nat_le 48 b) (nat_le b 57) h)

digit_high : (b : ℕ) → is_digit b ≡ true → b ≤ 57
digit_high b h = leb-true b 57 (right_true (nat_le 48 b) (nat_le b 57) h)

digit_not_upper : (b : ℕ) → is_digit b ≡ true → is_upper b ≡ false
digit_not_upper b h = let high = digit_high b h in rw (lt-leb 65 b (omega arith)) refl

digit_not_lower : (b : ℕ) → is_digit b ≡ true → is_lower b ≡ false
digit_not_lower b h = let high = digit_high b h in rw (lt-leb 97 b (omega arith)) refl

digit_not_minus : (b : ℕ) → is_digit b ≡ true → (b == 45) ≡ false
digit_not_minus b h = let low = digit_low b h in ne_eqb b 45 (λ e. omega arith)

positive_kind : (wide : Bool) (b : ℕ) (ds : List ℕ) → is_digit b ≡ true → all is_digit ds ≡ true → kind_of wide (b ∷ ds) ≡ Some Integer
unfolding kind_of
positive_kind wide b ds h k = rw (digit_not_upper b h, digit_not_lower b h, h, k) refl

negative_kind : (wide : Bool) (b : ℕ) (ds : List ℕ) → is_digit b ≡ true → all is_digit ds ≡ true → kind_of wide (45 ∷ (b ∷ ds)) ≡ Some Integer
unfolding kind_of is_long_sign
negative_kind wide b [] h k = let high = digit_high b h in rw (ne_eqb b 62 (λ e. omega arith), h) refl
negative_kind wide b (d ∷ ds) h k = rw (h, left_true (is_digit d) (all is_digit ds) k, right_true (is_digit d) (all is_digit ds) k) refl

-- bytes that fit both a language and 128 bits have their value
spelled_by : (wide : Bool) (z : ℤ) (w : List ℕ) → kind_of wide w ≡ Some Integer → is_too_wide wide w ≡ false → is_too_wide true w ≡ false → value_of w ≡ z → SpellsInteger wide z w
spelled_by wide z w kind fits fits_most value = record { kind = kind; fits = fits; value = ap (λ (b : Bool). cond b (pos 0) (value_of w)) fits_most ∙ value }

positive_fits : (wide : Bool) (n b : ℕ) (ds : List ℕ) → n < bound wide → (b == 45) ≡ false → decimal 0 (b ∷ ds) ≡ n → is_too_wide wide (b ∷ ds) ≡ false
unfolding is_too_wide
positive_fits wide n b ds h not_minus e = ap (λ (m : Bool). cond m (nat_lt (bound wide) (decimal 0 ds)) (nat_le (bound wide) (decimal 0 (b ∷ ds)))) not_minus ∙ lt-leb (bound wide) (decimal 0 (b ∷ ds)) (omega (arith, e))

positive_spelled : (wide : Bool) (n b : ℕ) (ds : List ℕ) → n < bound wide → all is_digit (b ∷ ds) ≡ true → decimal 0 (b ∷ ds) ≡ n → SpellsInteger wide (pos n) (b ∷ ds)
positive_spelled wide n b ds h k e =
    let digit : is_digit b ≡ true = left_true (is_digit b) (all is_digit ds) k in
    let not_minus = digit_not_minus b digit in
    let most : bound wide ≤ 2 ^ 127 = most_bound wide in
    spelled_by wide (pos n) (b ∷ ds) (positive_kind wide b ds digit (right_true (is_digit b) (all is_digit ds) k)) (positive_fits wide n b ds h not_minus e) (positive_fits true n b ds (omega arith) not_minus e)
    (ap (λ (m : Bool). cond m (pos 0 -ℤ pos (decimal 0 ds)) (pos (decimal 0 (b ∷ ds)))) not_minus ∙ ap pos e)

negative_fits : (wide : Bool) (n : ℕ) (ds : List ℕ) → n < bound wide → decimal 0 ds ≡ suc n → is_too_wide wide (45 ∷ ds) ≡ false
unfolding is_too_wide
negative_fits wide n ds h e = le-ltb (bound wide) (decimal 0 ds) (omega (arith, e))

negative_spelled : (wide : Bool) (n b : ℕ) (ds : List ℕ) → n < bound wide → all is_digit (b ∷ ds) ≡ true → decimal 0 (b ∷ ds) ≡ suc n → SpellsInteger wide (negsuc n) (45 ∷ (b ∷ ds))
negative_spelled wide n b ds h k e =
    let most : bound wide ≤ 2 ^ 127 = most_bound wide in
    spelled_by wide (negsuc n) (45 ∷ (b ∷ ds)) (negative_kind wide b ds (left_true (is_digit b) (all is_digit ds) k) (right_true (is_digit b) (all is_digit ds) k)) (negative_fits wide n (b ∷ ds) h e) (negative_fits true n (b ∷ ds) (omega arith) e)
    (ap (λ (m : ℕ). pos 0 -ℤ pos m) e ∙ minus_is n)

positive_at : (wide : Bool) (n : ℕ) (ds : List ℕ) → n < bound wide → AreDigits n ds → SpellsInteger wide (pos n) ds
positive_at wide n ds h d = subst (SpellsInteger wide (pos n)) (sym d.parts) (positive_spelled wide n d.first d.more h (subst (λ (z : List ℕ). all is_digit z ≡ true) d.parts d.digits) (subst (λ (z : List ℕ). decimal 0 z ≡ n) d.parts d.value))

negative_at : (wide : Bool) (n : ℕ) (ds : List ℕ) → n < bound wide → AreDigits (suc n) ds → SpellsInteger wide (negsuc n) (45 ∷ ds)
negative_at wide n ds h d = subst (λ (z : List ℕ). SpellsInteger wide (negsuc n) (45 ∷ z)) (sym d.parts) (negative_spelled wide n d.first d.more h (subst (λ (z : List ℕ). all is_digit z ≡ true) d.parts d.digits) (subst (λ (z : List ℕ). decimal 0 z ≡ suc n) d.parts d.value))

-- the text of an integer of a language spells it
pub decimal_spelled : (wide : Bool) (z : ℤ) → mag z < bound wide → SpellsInteger wide z (signed_decimal z)
decimal_spelled wide (pos n) h = let most = most_bound wide in positive_at wide n (text_of n) h (text_digits n (omega arith))
decimal_spelled wide (negsuc n) h = let most = most_bound wide in negative_at wide n (text_of (suc n)) h (text_digits (suc n) (omega arith))
