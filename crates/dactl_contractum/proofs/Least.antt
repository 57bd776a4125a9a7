-- The first of a list of faults.
use Rattle.std.proofs.Common.{◌≡◌, ℕ, ◌+◌, ◌<◌, ◌≤◌, ◌⊎◌, inl, inr, Bool, true, false, if◌then◌else◌, List, [], ◌∷◌, ◌++◌, Option, Some, None, Contains, length, take, get_or, refl, sym, ap, ◌∙◌, subst, arith}
use Rattle.std.proofs.lemmas.List.{take_more, take_all}
use Rattle.std.proofs.lemmas.List.Elements.{Contains-append_left, Contains-append_right, Contains-append_cases}
use Rattle.dactl_base.specs.declared.refusal.Refusal.{Refusal}
use Rattle.dactl_meaning.specs.Faults.{Precedes, StandsBefore}
use Rattle.dactl_symbols.specs.Least.{sooner, precedes, TellsLeast}
use Rattle.dactl_symbols.proofs.Sooner.{tells-same, tells-sooner}

stands_not : (r : Refusal) → StandsBefore r r → ⊥
stands_not r (inl h) = omega arith
stands_not r (inr h) = omega (arith, h.1)

precedes_not : (r : Refusal) → Precedes r r → ⊥
precedes_not r (inl h) = omega arith
precedes_not r (inr h) = stands_not r h.1

pub one_of : (x : Refusal) (r : Refusal) → Contains (x ∷ []) r → r ≡ x
one_of x r (k, lt, is) = let e : k ≡ 0 = omega arith in sym is ∙ ap (λ (n : ℕ). get_or (x ∷ []) n r) e

pub one_is : (x : Refusal) → Contains (x ∷ []) x
one_is x = let lt : 0 < length (x ∷ []) = omega arith in (0, lt, refl)

one_told : (x : Refusal) → TellsLeast (Contains (x ∷ [])) (Some x)
one_told x = record { holds = one_is x; least = λ other h before. precedes_not x (subst (λ (r : Refusal). Precedes r x) (one_of x other h) before) }

pub none_told : TellsLeast (Contains []) None
none_told = λ x h. let lt = h.1 in absurd (omega (arith, lt))

pub tells_append : (xs ys : List Refusal) (a b : Option Refusal) → TellsLeast (Contains xs) a → TellsLeast (Contains ys) b → TellsLeast (Contains (xs ++ ys)) (sooner a b)
tells_append xs ys a b p q =
    tells-same (λ r. Contains xs r ⊎ Contains ys r) (Contains (xs ++ ys)) (sooner a b)
    (λ r h. elim h [ inl x ↦ Contains-append_left xs ys r x | inr y ↦ Contains-append_right xs ys r y ]) (λ r. Contains-append_cases xs ys r)
    (tells-sooner (Contains xs) (Contains ys) a b p q)

pub first_more : (xs : List Refusal) (i : ℕ) (d : Refusal) (least : Option Refusal) → i < length xs → TellsLeast (Contains (take i xs)) least → TellsLeast (Contains (take (i + 1) xs)) (sooner least (Some (get_or xs i d)))
first_more xs i d least lt h =
    subst (λ (z : List Refusal). TellsLeast (Contains z) (sooner least (Some (get_or xs i d)))) (sym (take_more xs i d lt))
    (tells_append (take i xs) (get_or xs i d ∷ []) least (Some (get_or xs i d)) h (one_told (get_or xs i d)))

pub first_end : (xs : List Refusal) (i : ℕ) (least : Option Refusal) → length xs ≤ i → TellsLeast (Contains (take i xs)) least → TellsLeast (Contains xs) least
first_end xs i least le h = subst (λ (z : List Refusal). TellsLeast (Contains z) least) (take_all i xs le) h

-- no fault is the first of two only where there is none
pub both_none : (a b : Option Refusal) → sooner a b ≡ None → (a ≡ None) × (b ≡ None)
both_none None None e = (refl, refl)
both_none None (Some b) e = let no : Some b ≡ None = e in cc
both_none (Some a) None e = let no : Some a ≡ None = e in cc
both_none (Some a) (Some b) e = absurd (full a b e)
  where
    full : (a b : Refusal) → sooner (Some a) (Some b) ≡ None → ⊥
    full a b e = by (precedes b a) e
      where
        by : (p : Bool) → (if p then Some b else Some a) ≡ None → ⊥
        by true e = cc
        by false e = cc
