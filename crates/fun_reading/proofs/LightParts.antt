-- What tokens derive weighs at most twice as much as they are many: the combinators of grammars.
use Rattle.std.proofs.Common.{◌≡◌, ℕ, ◌+◌, ◌*◌, ◌≤◌, inl, inr, List, [], ◌∷◌, map, length, Option, Some, None, refl, sym, subst, arith, length-append}
use Rattle.std.specs.List.{sum}
use Rattle.std.proofs.lemmas.List.Sums.{sum_by-cons}
use Rattle.dactl_grammar.specs.Grammar.{WholeRow, row, choice, WholeMaybe, maybe, WholeMany, many, WholeAs, means, barred}
use Rattle.dactl_terminals.specs.declared.token.Sort.{Sort}
use Rattle.dactl_terminals.specs.Parts.{Tok, Part_of, sign, behind, before}

-- each meaning weighs at most twice as much as its tokens are many
pub record Weighs {A : Type 0} (P : Part_of A) (weight : A → ℕ) : Type 0 where
  pub of : (l : List Tok) (a : A) → P.whole l a → weight a ≤ 2 * length l

-- what several meanings weigh
abbrev pub total : {A : Type 0} → (A → ℕ) → List A → ℕ
total weight [] = 0
total weight (a ∷ more) = weight a + total weight more

-- what is there weighs
abbrev pub if_there : {A : Type 0} → (A → ℕ) → Option A → ℕ
if_there weight None = 0
if_there weight (Some a) = weight a

pub total_is : {A : Type 0} (weight : A → ℕ) (xs : List A) → sum (map weight xs) ≡ total weight xs
total_is weight [] = refl
total_is weight (x ∷ xs) =
    let rest = total_is weight xs in
    let first = sum_by-cons (λ (n : ℕ). n) (weight x) (map weight xs) in
    omega (arith, rest, first)

pub weighs_nothing : {A : Type 0} (P : Part_of A) → Weighs P (λ _. 0)
weighs_nothing P = record { of = λ l a is. omega arith }

pub weighs_sign : (k : Sort) → Weighs (sign k) (λ _. 2)
weighs_sign k = record { of = λ l t is. subst (λ (m : List Tok). 2 ≤ 2 * length m) (sym is.0) (omega arith) }

pub weighs_row : {A B : Type 0} {P : Part_of A} {Q : A → Part_of B} {one : A → ℕ} {two : B → ℕ}
    → Weighs P one → ((a : A) → Weighs (Q a) two) → Weighs (row P Q) (λ v. one v.0 + two v.1)
weighs_row {A} {B} {P} {Q} {one} {two} p q = record { of = at }
  where
    at : (l : List Tok) (v : A × B) → WholeRow P Q l v → one v.0 + two v.1 ≤ 2 * length l
    at l v is =
        let first = p.of is.front v.0 is.first in
        let second = (q v.0).of is.back v.1 is.second in
        let long = length-append is.front is.back in
        subst (λ (m : List Tok). one v.0 + two v.1 ≤ 2 * length m) (sym is.parts) (omega (arith, first, second, long))

pub weighs_means : {A B : Type 0} {P : Part_of A} {weight : A → ℕ} (f : A → B) (other : B → ℕ) → ((a : A) → other (f a) ≤ weight a) → Weighs P weight → Weighs (means f P) other
weighs_means {A} {B} {P} {weight} f other less p = record { of = at }
  where
    at : (l : List Tok) (b : B) → WholeAs f P l b → other b ≤ 2 * length l
    at l b is =
        let inner = p.of l is.value is.inner in
        let most = less is.value in
        subst (λ z. other z ≤ 2 * length l) (sym is.is) (omega (arith, inner, most))

pub weighs_choice : {A : Type 0} {P Q : Part_of A} {weight : A → ℕ} → Weighs P weight → Weighs Q weight → Weighs (choice P Q) weight
weighs_choice p q = record { of = λ l a is. elim is [ inl one ↦ p.of l a one | inr two ↦ q.of l a two ] }

pub weighs_maybe : {A : Type 0} {P : Part_of A} {weight : A → ℕ} → Weighs P weight → Weighs (maybe P) (if_there weight)
weighs_maybe {A} {P} {weight} p = record { of = at }
  where
    at : (l : List Tok) (o : Option A) → WholeMaybe P l o → if_there weight o ≤ 2 * length l
    at l None is = omega arith
    at l (Some a) is = p.of l a is

pub weighs_many : {A : Type 0} {P : Part_of A} {weight : A → ℕ} → Weighs P weight → Weighs (many P) (total weight)
weighs_many {A} {P} {weight} p = record { of = at }
  where
    at : (l : List Tok) (xs : List A) → WholeMany P l xs → total weight xs ≤ 2 * length l
    at l [] is = omega arith
    at l (x ∷ xs) is =
        let first = p.of is.0 x is.3 in
        let rest = at is.1 xs is.4 in
        let long = length-append is.0 is.1 in
        subst (λ (m : List Tok). weight x + total weight xs ≤ 2 * length m) (sym is.2) (omega (arith, first, rest, long))

pub weighs_barred : {A : Type 0} (weight : A → ℕ) → Weighs (barred {T = Tok} {A = A}) weight
weighs_barred weight = record { of = λ l a is. absurd is }

pub weighs_behind : {A : Type 0} {P : Part_of A} {weight : A → ℕ} (k : Sort) → Weighs P weight → Weighs (behind k P) weight
weighs_behind {A} {P} {weight} k p = weighs_means (λ (v : Tok × A). v.1) weight (λ v. omega arith) (weighs_row (weighs_nothing (sign k)) (λ _. p))

pub weighs_before : {A : Type 0} {P : Part_of A} {weight : A → ℕ} (k : Sort) → Weighs P weight → Weighs (before P k) weight
weighs_before {A} {P} {weight} k p = weighs_means (λ (v : A × Tok). v.0) weight (λ v. omega arith) (weighs_row p (λ _. weighs_nothing (sign k)))
