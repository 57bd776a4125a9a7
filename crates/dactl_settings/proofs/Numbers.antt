-- Numbers of decimal texts.
use Rattle.std.proofs.Common.{◌≡◌, ◌<◌, ◌^◌, ◌∷◌, [], ℕ, Bool, List, Result, Ok, Err, is_ok, length, not, nat_le, true, false, refl, arith, rules}
use Rattle.std.specs.Char.{is_ascii_digit}
use Rattle.std.specs.List.{list_all}
use Rattle.std.specs.Str.Parse.{ParsesUnsigned, digits_value}
use Rattle.std.proofs.lemmas.Bool.{leb-true}
use Rattle.std.proofs.lemmas.Str.Parse.{IsNumeralModel, numerals_by_value, parse_digits}
use Rattle.clap.specs.Walk.{is_empty}
use Rattle.clap.proofs.WalkLemmas.{both}
use Rattle.dactl_settings.specs.Reading.{is_number}

-- std's words on texts of digits
pub numerals : IsNumeralModel (λ text. list_all is_ascii_digit text ≡ true) (digits_value 10)
numerals = numerals_by_value _ (search rules)

-- a text that `parse` does not read is no number up to a limit of 32 bits
pub unread : (E : Type 0) (greatest : ℕ) (text : List ℕ) (r : Result ℕ E) → ParsesUnsigned 32 10 text r → list_all is_ascii_digit text ≡ true
    → is_ok r ≡ false → greatest < 2 ^ 32 → is_number greatest text ≡ true → ⊥
unread E greatest text (Ok n) read digits failed small fits = cc
unread E greatest text (Err e) read digits failed small fits =
    let r : Result ℕ E = Err e in
    let fails = parse_digits numerals 32 text r read digits in
    let parts = both (not (is_empty text)) _ fits in
    let limits = both (nat_le 1 (digits_value 10 text)) _ (both (list_all is_ascii_digit text) _ parts.1).1 in
    fails (some text parts.0, omega (arith, leb-true _ _ limits.1))
  where
    some : (xs : List ℕ) → not (is_empty xs) ≡ true → 0 < length xs
    some [] e = cc
    some (x ∷ xs) e = omega arith

-- a test that does not hold is false
pub untrue : (b : Bool) → (b ≡ true → ⊥) → b ≡ false
untrue true h = absurd (h refl)
untrue false h = refl
