-- Lists: what stands at a place, and what a filter or a map leaves.
use Rattle.std.proofs.Common.{◌≡◌, ℕ, zero, suc, ◌+◌, Bool, true, false, not, cond, ◌||◌, List, [], ◌∷◌, ◌++◌, map, length, Some, slice_get, refl, ◌∙◌, ap, arith, ◌⊎◌, inl, inr}
use Rattle.std.specs.List.{AllByRecursion, filter, flat_map}

pub not_false : (b : Bool) → not b ≡ true → b ≡ false
not_false true is = cc
not_false false is = refl

pub or_right : (a b : Bool) → b ≡ true → (a || b) ≡ true
or_right true b is = refl
or_right false b is = is

pub append_cases : {A : Type 0} (xs ys : List A) (j : ℕ) (x : A) → slice_get (xs ++ ys) j ≡ Some x → (slice_get xs j ≡ Some x) ⊎ ((i : ℕ) × (slice_get ys i ≡ Some x) × (length xs + i ≡ j))
append_cases [] ys j x at = inr (j, at, omega arith)
append_cases (z ∷ xs) ys zero x at = inl at
append_cases (z ∷ xs) ys (suc j) x at = elim (append_cases xs ys j x at) [ inl here ↦ inl here | inr (i, there, sum) ↦ inr (i, there, omega arith) ]

pub get_in_left : {A : Type 0} (xs ys : List A) (i : ℕ) (x : A) → slice_get xs i ≡ Some x → slice_get (xs ++ ys) i ≡ Some x
get_in_left [] ys i x at = absurd (cc at)
get_in_left (z ∷ xs) ys zero x at = at
get_in_left (z ∷ xs) ys (suc i) x at = get_in_left xs ys i x at

pub get_in_right : {A : Type 0} (xs ys : List A) (i : ℕ) → slice_get (xs ++ ys) (length xs + i) ≡ slice_get ys i
get_in_right [] ys i = let same : 0 + i ≡ i = omega arith in ap (slice_get ys) same
get_in_right (z ∷ xs) ys i = let same : suc (length xs) + i ≡ suc (length xs + i) = omega arith in ap (slice_get ((z ∷ xs) ++ ys)) same ∙ get_in_right xs ys i

pub length_of_map : {A B : Type 0} (f : A → B) (xs : List A) → length (map f xs) ≡ length xs
length_of_map f [] = refl
length_of_map f (x ∷ xs) = ap suc (length_of_map f xs)

pub filter_none : {A : Type 0} (test : A → Bool) (xs : List A) → AllByRecursion (λ x. test x ≡ false) xs → filter test xs ≡ []
filter_none test [] all = refl
filter_none test (x ∷ xs) all = ap (λ b. cond b (x ∷ filter test xs) (filter test xs)) all.0 ∙ filter_none test xs all.1

pub flat_none : {A B : Type 0} (f : A → List B) (xs : List A) → AllByRecursion (λ x. f x ≡ []) xs → flat_map f xs ≡ []
flat_none f [] all = refl
flat_none f (x ∷ xs) all = ap (λ ys. ys ++ flat_map f xs) all.0 ∙ flat_none f xs all.1

pub all_at : {A : Type 0} (P : A → Type 0) (xs : List A) → ((k : ℕ) (x : A) → slice_get xs k ≡ Some x → P x) → AllByRecursion P xs
all_at P [] each = tt
all_at P (x ∷ xs) each = (each 0 x refl, all_at P xs (λ k y at. each (suc k) y at))
