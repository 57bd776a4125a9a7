-- Numbers in decimal, of up to 64 digits.
use Rattle.std.proofs.Common.{◌≡◌, ℕ, ℤ, zero, suc, ◌<◌, ◌≤◌, ◌^◌, true, List, [], ◌∷◌, length, Result, Ok, FitsSigned, pos, negsuc, neg_ℤ, refl, sym, ◌∙◌, ap, subst, arith}
use Rattle.std.specs.List.{list_all}
use Rattle.std.specs.Char.{is_ascii_digit}
use Rattle.std.specs.Fmt.{decimal, signed_decimal}
use Rattle.std.specs.Int.{IsInRange, w128}
use Rattle.std.specs.Str.{IsAscii, IsUtf8, all_ascii_digits}
use Rattle.std.specs.Str.Parse.{digits_value, ParsesSigned}
use Rattle.std.proofs.lemmas.Fmt.{decimal_is_IsNumeral_wide, IsAscii-decimal_wide}
use Rattle.std.proofs.lemmas.Result.{Ok-from_Ok_iff}
use Rattle.std.proofs.lemmas.Str.{IsUtf8-from_ascii}
use Rattle.std.proofs.lemmas.Str.Parse.{IsNumeralModel, numerals_by_value, tells_all_ascii_digits, tells_digits, parse_signed_digits, parse_signed_minus}
use Rattle.std.specs.Cmp.{first_so, second_so}
use Rattle.dactl_base.proofs.Passing.{all_more, Begins, begins_apart, begins_step}

own : IsNumeralModel (λ ds. all_ascii_digits ds ≡ true) (digits_value 10)
own = numerals_by_value (λ ds. all_ascii_digits ds ≡ true) tells_all_ascii_digits

pub decimal_injective : (m n : ℕ) → m < 10 ^ 64 → n < 10 ^ 64 → decimal m ≡ decimal n → m ≡ n
decimal_injective m n one other e = sym (decimal_is_IsNumeral_wide m one).1 ∙ ap (digits_value 10) e ∙ (decimal_is_IsNumeral_wide n other).1

each_digit : (ds : List ℕ) → all_ascii_digits ds ≡ true → list_all is_ascii_digit ds ≡ true
each_digit [] all = refl
each_digit (d ∷ ds) all = all_more is_ascii_digit d ds (first_so (is_ascii_digit d) (all_ascii_digits ds) all) (each_digit ds (second_so (is_ascii_digit d) (all_ascii_digits ds) all))

pub decimal_digits : (n : ℕ) → n < 10 ^ 64 → list_all is_ascii_digit (decimal n) ≡ true
decimal_digits n small = each_digit (decimal n) (own.from (decimal n) (decimal_is_IsNumeral_wide n small).0.1)

pub decimal_some : (n : ℕ) → n < 10 ^ 64 → 0 < length (decimal n)
decimal_some n small = (decimal_is_IsNumeral_wide n small).0.0

-- an integer of 128 bits
abbrev pub IsSmallInteger : ℤ → Type 0
IsSmallInteger (pos n) = n < 2 ^ 127
IsSmallInteger (negsuc n) = n < 2 ^ 127

pub small_integer : (z : ℤ) → FitsSigned w128 z → IsSmallInteger z
small_integer (pos n) fits = omega (arith, fits.sfits)
small_integer (negsuc n) fits = omega (arith, fits.sfits)

-- what `parse` makes of an integer's text
pub parse_integer : {E : Type 0} (z : ℤ) (bs : List ℕ) (r : Result ℤ E) → FitsSigned w128 z → bs ≡ signed_decimal z → ParsesSigned w128 10 bs r → r ≡ Ok z
parse_integer (pos n) bs r fits is h =
    let k = decimal_is_IsNumeral_wide n (omega (arith, small_integer (pos n) fits)) in
    let read = parse_signed_digits (numerals_by_value _ tells_digits) w128 (decimal n) r (subst (λ l. ParsesSigned w128 10 l r) is h) k.0.1 in
    Ok-from_Ok_iff r _ _ read (k.0.0, omega (arith, k.1, fits.sfits)) ∙ ap (λ m. Ok (pos m)) k.1
parse_integer (negsuc n) bs r fits is h =
    let k = decimal_is_IsNumeral_wide (suc n) (omega (arith, small_integer (negsuc n) fits)) in
    let read = parse_signed_minus (numerals_by_value _ tells_digits) w128 (45 ∷ decimal (suc n)) r (subst (λ l. ParsesSigned w128 10 l r) is h) refl in
    Ok-from_Ok_iff r _ _ read (k.0.1, k.0.0, omega (arith, k.1, fits.sfits)) ∙ ap (λ m. Ok (neg_ℤ (pos m))) k.1

ascii_integer : (z : ℤ) → FitsSigned w128 z → IsAscii (signed_decimal z)
ascii_integer (pos n) fits i = IsAscii-decimal_wide n (omega (arith, small_integer (pos n) fits)) i
ascii_integer (negsuc n) fits zero = omega arith
ascii_integer (negsuc n) fits (suc i) = IsAscii-decimal_wide (suc n) (omega (arith, small_integer (negsuc n) fits)) i

pub utf8_integer : (z : ℤ) → FitsSigned w128 z → IsUtf8 (signed_decimal z)
utf8_integer z fits = IsUtf8-from_ascii (signed_decimal z) (ascii_integer z fits)

-- ---- what an integer's text begins with

-- a digit or a minus sign
abbrev pub Low : ℕ → Type 0
Low c = (45 ≤ c) × (c ≤ 57)

pub digit_range : (c : ℕ) → is_ascii_digit c ≡ true → IsInRange 48 57 c
digit_range c e = (tells_all_ascii_digits.parts c [] (rw e refl)).0

first_digit : (ds : List ℕ) → 0 < length ds → list_all is_ascii_digit ds ≡ true → Begins (IsInRange 48 57) ds
first_digit [] some all = absurd (omega arith)
first_digit (d ∷ ds) some all = digit_range d (first_so (is_ascii_digit d) (list_all is_ascii_digit ds) all)

decimal_begins : (n : ℕ) → n < 10 ^ 64 → Begins (IsInRange 48 57) (decimal n)
decimal_begins n small = first_digit (decimal n) (decimal_some n small) (decimal_digits n small)

pub integer_begins : (z : ℤ) → FitsSigned w128 z → Begins Low (signed_decimal z)
integer_begins (pos n) fits = begins_step (IsInRange 48 57) Low (λ c range. (omega (arith, range.0), range.1)) (decimal n) (decimal_begins n (omega (arith, small_integer (pos n) fits)))
integer_begins (negsuc n) fits = (omega arith, omega arith)

dash_no_digit : (ds ms : List ℕ) → Begins (IsInRange 48 57) ds → ds ≡ 45 ∷ ms → ⊥
dash_no_digit ds ms digit e = begins_apart (IsInRange 48 57) (λ c. c ≡ 45) (λ c d at. absurd (omega (arith, d.0, at))) ds (45 ∷ ms) digit refl e

pub integer_injective : (y z : ℤ) → FitsSigned w128 y → FitsSigned w128 z → signed_decimal y ≡ signed_decimal z → y ≡ z
integer_injective (pos m) (pos n) one other e = ap pos (decimal_injective m n (omega (arith, small_integer (pos m) one)) (omega (arith, small_integer (pos n) other)) e)
integer_injective (pos m) (negsuc n) one other e = absurd (dash_no_digit (decimal m) (decimal (suc n)) (decimal_begins m (omega (arith, small_integer (pos m) one))) e)
integer_injective (negsuc m) (pos n) one other e = absurd (dash_no_digit (decimal n) (decimal (suc m)) (decimal_begins n (omega (arith, small_integer (pos n) other))) (sym e))
integer_injective (negsuc m) (negsuc n) one other e =
    let more : decimal (suc m) ≡ decimal (suc n) = cc in
    let same : suc m ≡ suc n = decimal_injective (suc m) (suc n) (omega (arith, small_integer (negsuc m) one)) (omega (arith, small_integer (negsuc n) other)) more in
    let number : m ≡ n = omega arith in
    ap negsuc number

-- a number of 32 bits is one
pub fits_number : (n : ℕ) → n < 2 ^ 32 → FitsSigned w128 (pos n)
fits_number n small = record { sfits = omega arith }
