-- Searches at one item, and searches whose fault is of one kind.
use Rattle.std.proofs.Common.{◌≡◌, ℕ, zero, suc, ◌<◌, Bool, true, false, ◌||◌, inl, inr, List, [], ◌∷◌, map, Option, Some, length, refl, sym, ap, ◌∙◌, true≢false, arith}
use Rattle.std.specs.Prelude.{Any, Contains}
use Rattle.std.specs.List.{list_any}
use Rattle.std.proofs.lemmas.List.Elements.{Contains-append_cases, Contains-append_right}
use Rattle.dactl_base.specs.declared.refusal.Kind.{Kind}
use Rattle.dactl_base.specs.declared.refusal.Refusal.{Refusal}
use Rattle.dactl_base.specs.declared.refusal.Place.{Place}
use Rattle.dactl_meaning.specs.Faults.{phase, rank, Precedes}
use Rattle.dactl_symbols.specs.Least.{least_by, TellsLeast}
use Rattle.dactl_symbols.specs.Finds.{byte_of}
use Rattle.dactl_symbols.specs.Counting.{fault_at}
use Rattle.dactl_symbols.proofs.Sooner.{tells-same, tells-least_by, Any-nil, Any-cons, Any-uncons}

-- a fault of the kind, at a place where P holds
abbrev pub Of : Kind → (ℕ → Type 0) → Refusal → Type 0
Of kind P r = (r.kind ≡ kind) × P r.place.byte

-- a fault of the kind at the place of another doesn't come before it
pub not_before : (a b : Refusal) → a.kind ≡ b.kind → a.place.byte ≡ b.place.byte → ¬ Precedes a b
not_before a b kind place (inl less) = let same : phase a.kind ≡ phase b.kind = ap phase kind in omega arith
not_before a b kind place (inr (e, inl less)) = omega arith
not_before a b kind place (inr (e, inr less)) = let same : rank a.kind ≡ rank b.kind = ap rank kind in let low : rank a.kind < rank b.kind = less.1 in omega arith

-- a fault that is the only one
pub tells-single : (P : Refusal → Type 0) (r : Refusal) → P r → ((other : Refusal) → P other → (other.kind ≡ r.kind) × (other.place.byte ≡ r.place.byte)) → TellsLeast P (Some r)
tells-single P r holds only = record { holds = holds; least = λ other h. not_before other r (only other h).0 (only other h).1 }

-- ---- lists

pub nothing-contained : {X : Type 0} (x : X) → Contains [] x → ⊥
nothing-contained {X = X} x h = let none : List X = [] in let below : h.0 < length none = h.1 in omega arith

pub only-contained : {X : Type 0} (x y : X) → Contains (x ∷ []) y → y ≡ x
only-contained x y (zero, below, at) = sym at
only-contained x y (suc k, below, at) = let out : suc k < length (x ∷ []) = below in absurd (omega arith)

or-true : (b : Bool) → (b || true) ≡ true
or-true true = refl
or-true false = refl

pub list_any-holds : {X : Type 0} (p : X → Bool) (P : X → Type 0) → ((x : X) → P x → p x ≡ true) → (xs : List X) → Any P xs → list_any p xs ≡ true
list_any-holds p P holds [] h = absurd (Any-nil P h)
list_any-holds p P holds (x ∷ xs) h = elim (Any-uncons P x xs h) [
  | inl here ↦ ap (λ b. b || list_any p xs) (holds x here)
  | inr there ↦ ap (λ b. p x || b) (list_any-holds p P holds xs there) ∙ or-true (p x)
]

pub list_any-Any : {X : Type 0} (p : X → Bool) (P : X → Type 0) → ((x : X) → p x ≡ true → P x) → (xs : List X) → list_any p xs ≡ true → Any P xs
list_any-Any p P says [] h = absurd (true≢false (sym h))
list_any-Any p P says (x ∷ xs) h = by (p x) refl (list_any-Any p P says xs)
  where
    by : (b : Bool) → p x ≡ b → (list_any p xs ≡ true → Any P xs) → Any P (x ∷ xs)
    by true e rest = Any-cons P x xs (inl (says x e))
    by false e rest = Any-cons P x xs (inr (rest (ap (λ b. b || list_any p xs) (sym e) ∙ h)))

-- a search over items, each of which may have one fault of the kind
pub tells-kind : {X : Type 0} (kind : Kind) (Q : X → ℕ → Type 0) (fault : X → Option Refusal) → ((x : X) → TellsLeast (Of kind (Q x)) (fault x)) → (xs : List X) → TellsLeast (Of kind (λ p. Any (λ x. Q x p) xs)) (least_by fault xs)
tells-kind kind Q fault each xs =
    tells-same (λ r. Any (λ x. Of kind (Q x) r) xs) (Of kind (λ p. Any (λ x. Q x p) xs)) (least_by fault xs)
    (λ r h. (h.4.0, (h.0, h.1, h.2, h.3, h.4.1)))
    (λ r h. (h.1.0, h.1.1, h.1.2, h.1.3, (h.0, h.1.4)))
    (tells-least_by (λ x. Of kind (Q x)) fault each xs)

-- places as they are listed
contained : (places : List Place) (p : ℕ) → Any (λ q. p ≡ byte_of q) places → Contains (map byte_of places) p
contained [] p h = absurd (Any-nil (λ q. p ≡ byte_of q) h)
contained (q ∷ places) p h = elim (Any-uncons (λ q. p ≡ byte_of q) q places h) [
  | inl here ↦ (0, lit_first (map byte_of places) (byte_of q), sym here)
  | inr there ↦ Contains-append_right (byte_of q ∷ []) (map byte_of places) p (contained places p there)
]
  where
    lit_first : (xs : List ℕ) (x : ℕ) → 0 < length (x ∷ xs)
    lit_first xs x = omega arith

contained_in : (places : List Place) (p : ℕ) → Contains (map byte_of places) p → Any (λ q. p ≡ byte_of q) places
contained_in [] p h = absurd (nothing-contained p h)
contained_in (q ∷ places) p h = elim (Contains-append_cases (byte_of q ∷ []) (map byte_of places) p h) [
  | inl here ↦ Any-cons (λ q. p ≡ byte_of q) q places (inl (only-contained (byte_of q) p here))
  | inr there ↦ Any-cons (λ q. p ≡ byte_of q) q places (inr (contained_in places p there))
]

pub tells-listed : (kind : Kind) (places : List Place) → TellsLeast (Of kind (Contains (map byte_of places))) (least_by (λ q. fault_at kind q) places)
tells-listed kind places =
    tells-same (Of kind (λ p. Any (λ q. p ≡ byte_of q) places)) (Of kind (Contains (map byte_of places))) (least_by (λ q. fault_at kind q) places)
    (λ r h. (h.0, contained places r.place.byte h.1)) (λ r h. (h.0, contained_in places r.place.byte h.1))
    (tells-kind kind (λ q p. p ≡ byte_of q) (λ q. fault_at kind q) (λ q. tells-single (Of kind (λ p. p ≡ byte_of q)) (record { kind = kind; place = q }) (refl, refl) (λ other h. h)) places)
