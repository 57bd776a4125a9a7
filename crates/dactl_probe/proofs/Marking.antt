-- The bits of marks.
use Rattle.std.proofs.Common.{◌≡◌, ◌≢◌, ◌≤◌, ℕ, ◌-◌, ◌*◌, ◌/◌, ◌%◌, ◌^◌, ◌<◌, List, length, get_or, replicate, sym, ◌∙◌, ap, refl, arith, inl, inr, ◌⊎◌, true, false, ◌==◌}
use Rattle.std.specs.Prelude.{bit_or, slice_set}
use Rattle.std.specs.Int.{bit_at, w64}
use Rattle.std.proofs.lemmas.Bool.{cases_lt, eqb-true, eq-eqb}
use Rattle.std.proofs.lemmas.List.{get_or-set_other, get_or-set_same, get_or-replicate, get_or_past, length-replicate}
use Rattle.std.proofs.lemmas.Nat.Bits.{bit_at_set_other, bit_at-zero}
use Rattle.dactl_probe.specs.Marks.{IsMarked}

-- no number is in the empty set
pub unmarked : (from rule : ℕ) → IsMarked (record { from = from; words = replicate 4 0 }) rule → ⊥
unmarked from rule is =
    let place = (rule - from) / 64 in
    let empty : get_or {A = ℕ} (replicate 4 0) place 0 ≡ 0 = elim (cases_lt place 4) [
      | inl inside ↦ get_or-replicate {A = ℕ} 4 place 0 0 inside
      | inr outside ↦ get_or_past (replicate 4 0) place 0 (omega (arith, length-replicate {A = ℕ} 4 0, outside))
    ] in
    omega (arith, sym is.1 ∙ (ap (λ x. bit_at x ((rule - from) % 64)) empty ∙ bit_at-zero ((rule - from) % 64)))

-- the bit of a distance is 1
abbrev IsBit : List ℕ → ℕ → Type 0
IsBit words d = bit_at (get_or words (d / 64) 0) (d % 64) ≡ 1

-- a word with one more bit
abbrev with_bit : ℕ → ℕ → ℕ
with_bit n k = bit_or n (1 * 2 ^ k % 18446744073709551616)

-- the words with the bit of a distance
abbrev pub with_distance : List ℕ → ℕ → List ℕ
with_distance words d = slice_set words (d / 64) (with_bit (get_or words (d / 64) 0) (d % 64))

module _ (words : List ℕ) (d : ℕ) (inside : d / 64 < length words) where
  abbrev more : List ℕ
  more = with_distance words d

  same_word : (other : ℕ) → other / 64 ≡ d / 64 → IsBit more other → (other ≡ d) ⊎ IsBit words other
  same_word other place is =
      (elim (other % 64 == d % 64) as (λ b. (other % 64 == d % 64) ≡ b → (other ≡ d) ⊎ IsBit words other) [
        | true ↦ λ e. inl (omega (arith, place, eqb-true (other % 64) (d % 64) e))
        | false ↦ λ e. (
            let apart : other % 64 ≢ d % 64 = λ same. (let clash = sym (eq-eqb (other % 64) (d % 64) same) ∙ e in cc) in
            let word = ap (λ j. get_or more j 0) place ∙ get_or-set_same words (d / 64) (with_bit (get_or words (d / 64) 0) (d % 64)) 0 inside in
            let bit = bit_at_set_other w64 (get_or words (d / 64) 0) (d % 64) (omega arith) (other % 64) apart in
            inr (ap (λ j. bit_at (get_or words j 0) (other % 64)) place ∙ sym bit ∙ sym (ap (λ x. bit_at x (other % 64)) word) ∙ is))
      ]) refl

  other_word : (other : ℕ) → other / 64 ≢ d / 64 → IsBit more other → IsBit words other
  other_word other apart is = ap (λ x. bit_at x (other % 64)) (sym (get_or-set_other words (d / 64) (other / 64) (with_bit (get_or words (d / 64) 0) (d % 64)) 0 apart)) ∙ is

  pub bit_more : (other : ℕ) → IsBit more other → (other ≡ d) ⊎ IsBit words other
  bit_more other is =
      (elim (other / 64 == d / 64) as (λ b. (other / 64 == d / 64) ≡ b → (other ≡ d) ⊎ IsBit words other) [
        | true ↦ λ e. same_word other (eqb-true (other / 64) (d / 64) e) is
        | false ↦ λ e. inr (other_word other (λ same. (let clash = sym (eq-eqb (other / 64) (d / 64) same) ∙ e in cc)) is)
      ]) refl

-- and for the numbers from one on
pub marked_more : (from : ℕ) (words : List ℕ) (rule other : ℕ) → from ≤ rule → (rule - from) / 64 < length words → IsMarked (record { from = from; words = with_distance words (rule - from) }) other → (other ≡ rule) ⊎ IsMarked (record { from = from; words = words }) other
marked_more from words rule other above inside is =
    elim (bit_more words (rule - from) inside (other - from) is.1) [
      | inl same ↦ inl (omega (arith, same, is.0, above))
      | inr kept ↦ inr (is.0, kept)
    ]
