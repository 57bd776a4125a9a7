-- The first line of bytes, and where lines begin.
use Rattle.std.proofs.Common.{◌≡◌, ℕ, zero, suc, pred, ◌+◌, ◌-◌, ◌<◌, ◌≤◌, true, false, ◌==◌, if◌then◌else◌, ◌⊎◌, inl, inr, List, [], ◌∷◌, length, drop, slice_get, Some, ap, sym, subst, ◌∙◌, refl, arith}
use Rattle.std.proofs.lemmas.Bool.{eqb-true, eq-eqb}
use Rattle.dactl_base.specs.Parts.{first_line, BeginsLine, IsLineAt}

pub line_within : (bs : List ℕ) → length (first_line bs) ≤ length bs
line_within [] = omega arith
line_within (b ∷ bs) =
    elim (b == 10) as (λ t. length (if t then [] else b ∷ first_line bs) ≤ length (b ∷ bs)) [
      | true ↦ omega arith
      | false ↦ let rest = line_within bs in omega (arith, rest)
    ]

line_stops : (bs : List ℕ) → length (first_line bs) < length bs → slice_get bs (length (first_line bs)) ≡ Some 10
line_stops [] below = absurd (omega arith)
line_stops (b ∷ bs) below =
    (elim (b == 10) as (λ t. (b == 10) ≡ t → length (if t then [] else b ∷ first_line bs) < length (b ∷ bs) → slice_get (b ∷ bs) (length (if t then [] else b ∷ first_line bs)) ≡ Some 10) [
      | true ↦ λ e less. ap Some (eqb-true b 10 e)
      | false ↦ λ e less. line_stops bs (omega arith)
    ]) refl below

later : (b : ℕ) (bs : List ℕ) → ((k : ℕ) → k < length (first_line bs) → slice_get bs k ≡ Some 10 → ⊥) → (j : ℕ) → (b == 10) ≡ false → j < suc (length (first_line bs)) → slice_get (b ∷ bs) j ≡ Some 10 → ⊥
later b bs rest zero e less is =
    let same : b ≡ 10 = cc in
    let so : (b == 10) ≡ true = eq-eqb b 10 same in
    let clash : true ≡ false = sym so ∙ e in
    cc
later b bs rest (suc k) e less is = rest k (omega arith) is

line_clean : (bs : List ℕ) (j : ℕ) → j < length (first_line bs) → slice_get bs j ≡ Some 10 → ⊥
line_clean [] j below is = absurd (omega arith)
line_clean (b ∷ bs) j below is =
    (elim (b == 10) as (λ t. (b == 10) ≡ t → j < length (if t then [] else b ∷ first_line bs) → ⊥) [
      | true ↦ λ e less. absurd (omega arith)
      | false ↦ λ e less. later b bs (line_clean bs) j e less is
    ]) refl below

at_drop : (n : ℕ) (bs : List ℕ) (j : ℕ) → slice_get (drop n bs) j ≡ slice_get bs (n + j)
at_drop zero bs j = ap (slice_get bs) (omega arith)
at_drop (suc n) [] j = refl
at_drop (suc n) (b ∷ bs) j =
    let next : suc (n + j) ≡ suc n + j = omega arith in
    at_drop n bs j ∙ ap (slice_get (b ∷ bs)) next

length_drop : (n : ℕ) (bs : List ℕ) → length (drop n bs) ≡ length bs - n
length_drop zero bs = omega arith
length_drop (suc n) [] = omega arith
length_drop (suc n) (b ∷ bs) = let rest = length_drop n bs in omega (arith, rest)

-- a line ends within the input
pub ends_within : (input : List ℕ) (from : ℕ) → from ≤ length input → from + length (first_line (drop from input)) ≤ length input
ends_within input from within =
    let own = line_within (drop from input) in
    let left = length_drop from input in
    omega (arith, own, left)

-- no line begins inside another
not_between : (input : List ℕ) (from at : ℕ) → from < at → at ≤ from + length (first_line (drop from input)) → BeginsLine input at → ⊥
not_between input from at past below (inl start) = absurd (omega arith)
not_between input from at past below (inr is) =
    let place : from + (pred at - from) ≡ pred at = grind arith in
    line_clean (drop from input) (pred at - from) (grind arith) (at_drop from input (pred at - from) ∙ ap (slice_get input) place ∙ is)

-- behind its LF the next one begins
pub next_begins : (input : List ℕ) (from : ℕ) → from + length (first_line (drop from input)) + 1 ≤ length input → BeginsLine input (from + length (first_line (drop from input)) + 1)
next_begins input from within =
    let len = length (first_line (drop from input)) in
    let left = length_drop from input in
    let stops = line_stops (drop from input) (omega (arith, left)) in
    let place : from + length (first_line (drop from input)) ≡ pred (from + length (first_line (drop from input)) + 1) = grind arith in
    inr (ap (slice_get input) (sym place) ∙ sym (at_drop from input len) ∙ stops)

-- where none before it is the line, and it is not, none up to its end is
pub none_yet : (input line : List ℕ) (from : ℕ) → ((at : ℕ) → at < from → IsLineAt input at line → ⊥) → (first_line (drop from input) ≡ line → ⊥)
    → (at : ℕ) → at < from + length (first_line (drop from input)) + 1 → IsLineAt input at line → ⊥
none_yet input line from before differs at below is = go (trichotomy at from)
  where
    trichotomy : (a b : ℕ) → (a < b) ⊎ ((a ≡ b) ⊎ (b < a))
    trichotomy zero zero = inr (inl refl)
    trichotomy zero (suc b) = inl (omega arith)
    trichotomy (suc a) zero = inr (inr (omega arith))
    trichotomy (suc a) (suc b) = elim (trichotomy a b) [
      | inl less ↦ inl (omega arith)
      | inr other ↦ elim other [
        | inl same ↦ inr (inl (ap suc same))
        | inr more ↦ inr (inr (omega arith))
      ]
    ]

    go : (at < from) ⊎ ((at ≡ from) ⊎ (from < at)) → ⊥
    go (inl less) = before at less is
    go (inr (inl same)) = differs (subst (λ k. first_line (drop k input) ≡ line) same is.is)
    go (inr (inr more)) = not_between input from at more (omega arith) is.begins
