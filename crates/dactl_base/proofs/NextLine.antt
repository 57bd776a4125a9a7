-- The next line of a text.
use Rattle.std.proofs.Common.{◌≡◌, ℕ, suc, ◌+◌, ◌<◌, ◌^◌, ◌==◌, min, Bool, true, false, not, cond, if◌then◌else◌, List, [], ◌∷◌, ◌++◌, length, take, refl, ap, ◌∙◌, arith}
use Rattle.std.specs.Char.{is_ascii_digit}
use Rattle.std.specs.Cmp.{first_so, second_so}
use Rattle.std.specs.Fmt.{decimal}
use Rattle.std.specs.List.{prefix_len, list_all}
use Rattle.std.proofs.lemmas.Bool.{ne_eqb}
use Rattle.std.proofs.lemmas.List.Folds.{list_all-append}
use Rattle.dactl_base.specs.Readers.{next_line}
use Rattle.dactl_base.proofs.Passing.{each_step}
use Rattle.dactl_base.proofs.Decimals.{decimal_digits, digit_range}

-- it is what stands before the first LF, and the LF, if there is one
pub line_front : (bs : List ℕ) → take (min (prefix_len (λ b. not (b == 10)) bs + 1) (length bs)) bs ≡ next_line bs
line_front [] = refl
line_front (b ∷ bs) =
    let rest = line_front bs in
    elim (b == 10) as (λ t. take (min (cond (not t) (1 + prefix_len (λ b. not (b == 10)) bs) 0 + 1) (length (b ∷ bs))) (b ∷ bs) ≡ (if t then b ∷ [] else b ∷ next_line bs)) [
      | true ↦
          let one : min (0 + 1) (length (b ∷ bs)) ≡ 1 = omega arith in
          ap (λ (k : ℕ). take k (b ∷ bs)) one
      | false ↦
          let more : min (1 + prefix_len (λ b. not (b == 10)) bs + 1) (length (b ∷ bs)) ≡ suc (min (prefix_len (λ b. not (b == 10)) bs + 1) (length bs)) = omega arith in
          ap (λ (k : ℕ). take k (b ∷ bs)) more ∙ ap (λ (t : List ℕ). b ∷ t) rest
    ]

-- ---- bytes without an LF

abbrev pub is_pure : List ℕ → Bool
is_pure cs = list_all (λ c. not (c == 10)) cs

pub not_feed : (c : ℕ) → (c ≡ 10 → ⊥) → not (c == 10) ≡ true
not_feed c other = let no : (c == 10) ≡ false = ne_eqb c 10 other in rw no refl

pub pure_append : (xs ys : List ℕ) → is_pure xs ≡ true → is_pure ys ≡ true → is_pure (xs ++ ys) ≡ true
pure_append xs ys front back = list_all-append (λ c. not (c == 10)) xs ys ∙ rw (front, back) refl

pub pure_decimal : (n : ℕ) → n < 10 ^ 64 → is_pure (decimal n) ≡ true
pure_decimal n small = each_step is_ascii_digit (λ c. not (c == 10)) (λ c digit. not_feed c (λ e. absurd (omega (arith, e, (digit_range c digit).0)))) (decimal n) (decimal_digits n small)

-- a line ends with its first LF
pub line_ends : (xs more : List ℕ) → is_pure xs ≡ true → next_line (xs ++ 10 ∷ more) ≡ xs ++ 10 ∷ []
line_ends [] more pure = refl
line_ends (b ∷ xs) more pure =
    let rest = line_ends xs more (second_so (not (b == 10)) (is_pure xs) pure) in
    (elim (b == 10) as (λ t. not t ≡ true → (if t then b ∷ [] else b ∷ next_line (xs ++ 10 ∷ more)) ≡ b ∷ (xs ++ 10 ∷ [])) [
      | true ↦ λ e. absurd (cc)
      | false ↦ λ e. ap (λ (t : List ℕ). b ∷ t) rest
    ]) (first_so (not (b == 10)) (is_pure xs) pure)
