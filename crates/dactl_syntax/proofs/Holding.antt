-- What holds of the meanings of the parts holds of the meaning of the whole: for a token before and behind a part, and for lists.
use Rattle.std.proofs.Common.{◌≡◌, ℕ, ◌+◌, ◌<◌, Bool, true, false, List, [], ◌∷◌, ◌++◌, length, map, cond, refl, arith}
use Rattle.std.specs.List.{AllByRecursion as Each, list_all, filter, flat_map, enumerate_from}
use Rattle.dactl_terminals.specs.declared.token.Sort.{Sort}
use Rattle.dactl_terminals.specs.Parts.{Tok, Part_of, is, behind, before, listed, separated}
use Rattle.dactl_syntax.specs.Productions.{several}
use Rattle.dactl_syntax.proofs.TokenFacts.{IsTold}
use Rattle.dactl_grammar.proofs.Holds.{Splits, Holds, holds_one, holds_row, holds_means, holds_many}

-- nothing is said
abbrev pub Anything : {A : Type 0} → A → Type 0
Anything a = Unit {0}

pub holds_anything : {A : Type 0} {Good : List Tok → Type 0} (P : Part_of A) → Holds Good P Anything
holds_anything P = record { of = λ l a g w. tt }

pub holds_behind : {A : Type 0} {Good : List Tok → Type 0} {P : Part_of A} {X : A → Type 0} (k : Sort) → Splits Good → Holds Good P X → Holds Good (behind k P) X
holds_behind {A} {Good} {P} {X} k split p = holds_means (λ v. v.1) X (λ v h. h.1) (holds_row split (holds_one (is k)) (λ _. p))

pub holds_before : {A : Type 0} {Good : List Tok → Type 0} {P : Part_of A} {X : A → Type 0} (k : Sort) → Splits Good → Holds Good P X → Holds Good (before P k) X
holds_before {A} {Good} {P} {X} k split p = holds_means (λ v. v.0) X (λ v h. h.0) (holds_row split p (λ _. holds_one (is k)))

pub holds_both : {A : Type 0} {Good : List Tok → Type 0} {P : Part_of A} (X Y : A → Type 0) → Holds Good P X → Holds Good P Y → Holds Good P (λ a. X a × Y a)
holds_both X Y p q = record { of = λ l a g w. (p.of l a g w, q.of l a g w) }

-- a list that has a member, and the fact holds of each
pub record Some_of {A : Type 0} (X : A → Type 0) (vs : List A) : Type 0 where
  pub some : 0 < length vs
  pub each : Each X vs

pub holds_listed : {A : Type 0} {Good : List Tok → Type 0} {P Q : Part_of A} {X : A → Type 0} → Splits Good → Holds Good P X → Holds Good Q X → Holds Good (listed P Q) (Some_of X)
holds_listed {A} {Good} {P} {Q} {X} split p q = holds_means (λ v. v.0 ∷ v.1) (Some_of X) (λ v h. record { some = omega arith; each = (h.0, h.1) }) (holds_row split p (λ _. holds_many split q))

pub holds_several : {A : Type 0} {Good : List Tok → Type 0} {P : Part_of A} {X : A → Type 0} → Splits Good → Holds Good P X → Holds Good (several P) (Some_of X)
holds_several split p = holds_listed split p p

pub holds_separated : {A : Type 0} {Good : List Tok → Type 0} {P : Part_of A} {X : A → Type 0} (k : Sort) → Splits Good → Holds Good P X → Holds Good (separated k P) (Some_of X)
holds_separated k split p = holds_listed split p (holds_behind k split p)

-- ---- lists of which a fact holds

pub each_append : {X : Type 0} (P : X → Type 0) (xs ys : List X) → Each P xs → Each P ys → Each P (xs ++ ys)
each_append P [] ys h k = k
each_append P (x ∷ xs) ys h k = (h.0, each_append P xs ys h.1 k)

pub each_split : {X : Type 0} (P : X → Type 0) (xs ys : List X) → Each P (xs ++ ys) → Each P xs × Each P ys
each_split P [] ys h = (tt, h)
each_split P (x ∷ xs) ys h = let r = each_split P xs ys h.1 in ((h.0, r.0), r.1)

pub each_weaker : {X : Type 0} (P Q : X → Type 0) → ((x : X) → P x → Q x) → (xs : List X) → Each P xs → Each Q xs
each_weaker P Q f [] h = tt
each_weaker P Q f (x ∷ xs) h = (f x h.0, each_weaker P Q f xs h.1)

pub each_map : {X Y : Type 0} (P : Y → Type 0) (f : X → Y) (xs : List X) → Each (λ x. P (f x)) xs → Each P (map f xs)
each_map P f [] h = tt
each_map P f (x ∷ xs) h = (h.0, each_map P f xs h.1)

pub each_flat : {X Y : Type 0} (P : Y → Type 0) (f : X → List Y) (xs : List X) → Each (λ x. Each P (f x)) xs → Each P (flat_map f xs)
each_flat P f [] h = tt
each_flat P f (x ∷ xs) h = each_append P (f x) (flat_map f xs) h.0 (each_flat P f xs h.1)

pub each_filter : {X : Type 0} (P : X → Type 0) (p : X → Bool) (xs : List X) → Each (λ x. p x ≡ true → P x) xs → Each P (filter p xs)
each_filter P p [] h = tt
each_filter {X} P p (x ∷ xs) h = kept (p x) refl (each_filter P p xs h.1)
  where
    kept : (b : Bool) → p x ≡ b → Each P (filter p xs) → Each P (cond b (x ∷ filter p xs) (filter p xs))
    kept true e k = (h.0 e, k)
    kept false e k = k

pub each_passes : {X Y : Type 0} (p : Y → Bool) (f : X → Y) (xs : List X) → Each (λ x. p (f x) ≡ true) xs → list_all p (map f xs) ≡ true
each_passes p f [] h = refl
each_passes p f (x ∷ xs) h = rw (h.0, each_passes p f xs h.1) refl

pub each_numbered : {X : Type 0} (P : X → Type 0) (n : ℕ) (xs : List X) → Each P xs → Each (λ (i : ℕ × X). P i.1) (enumerate_from n xs)
each_numbered P n [] h = tt
each_numbered P n (x ∷ xs) h = (h.0, each_numbered P (n + 1) xs h.1)

-- ---- tokens of a text

-- names are spelled as names of the language, and values are its own
abbrev pub AreTold : Bool → List Tok → Type 0
AreTold wide l = Each (IsTold wide) l

pub split_told : (wide : Bool) → Splits (AreTold wide)
split_told wide u v g = each_split (IsTold wide) u v g
