-- The laws of the first of several faults, and what searches for faults tell that are put together.
use Rattle.std.proofs.Common.{◌≡◌, ℕ, zero, suc, ◌+◌, ◌<◌, Bool, true, false, cond, ◌⊎◌, inl, inr, List, [], ◌∷◌, ◌++◌, map, Option, Some, None, length, take, get_or, refl, sym, ap, ◌∙◌, subst, true≢false, arith}
use Rattle.std.specs.Prelude.{Any}
use Rattle.std.specs.List.{flat_map}
use Rattle.std.proofs.lemmas.List.{take_more}
use Rattle.dactl_base.specs.declared.refusal.Refusal.{Refusal}
use Rattle.dactl_meaning.specs.Faults.{Precedes}
use Rattle.dactl_symbols.specs.Least.{precedes, sooner, least_by, TellsLeast}
use Rattle.dactl_symbols.proofs.Turns.{precedes-trans, precedes-negated, Precedes-test, test-Precedes}

pub sooner-None : (a : Option Refusal) → sooner a None ≡ a
sooner-None None = refl
sooner-None (Some a) = refl

-- the first of two, by the answer of the test
chosen : (a b : Refusal) (p : Bool) → precedes b a ≡ p → sooner (Some a) (Some b) ≡ cond p (Some b) (Some a)
chosen a b p e = ap (λ v. cond v (Some b) (Some a)) e

associates : (a b c : Refusal) (p q : Bool) → precedes b a ≡ p → precedes c b ≡ q → sooner (sooner (Some a) (Some b)) (Some c) ≡ sooner (Some a) (sooner (Some b) (Some c))
associates a b c true true ba cb =
    ap (λ o. sooner o (Some c)) (chosen a b true ba) ∙ chosen b c true cb
    ∙ sym (ap (sooner (Some a)) (chosen b c true cb) ∙ chosen a c true (precedes-trans c b a cb ba))
associates a b c true false ba cb =
    ap (λ o. sooner o (Some c)) (chosen a b true ba) ∙ chosen b c false cb
    ∙ sym (ap (sooner (Some a)) (chosen b c false cb) ∙ chosen a b true ba)
associates a b c false true ba cb = ap (λ o. sooner o (Some c)) (chosen a b false ba) ∙ sym (ap (sooner (Some a)) (chosen b c true cb))
associates a b c false false ba cb =
    ap (λ o. sooner o (Some c)) (chosen a b false ba) ∙ chosen a c false (precedes-negated c b a cb ba)
    ∙ sym (ap (sooner (Some a)) (chosen b c false cb) ∙ chosen a b false ba)

pub sooner-assoc : (a b c : Option Refusal) → sooner (sooner a b) c ≡ sooner a (sooner b c)
sooner-assoc None b c = refl
sooner-assoc (Some a) None c = refl
sooner-assoc (Some a) (Some b) None = sooner-None (sooner (Some a) (Some b))
sooner-assoc (Some a) (Some b) (Some c) = associates a b c (precedes b a) (precedes c b) refl refl

-- ---- lists of faults

pub least_by-append : {X : Type 0} (fault : X → Option Refusal) (xs ys : List X) → least_by fault (xs ++ ys) ≡ sooner (least_by fault xs) (least_by fault ys)
least_by-append fault [] ys = refl
least_by-append fault (x ∷ xs) ys = ap (sooner (fault x)) (least_by-append fault xs ys) ∙ sym (sooner-assoc (fault x) (least_by fault xs) (least_by fault ys))

pub least_by-flat_map : {X Y : Type 0} (fault : Y → Option Refusal) (parts : X → List Y) (xs : List X) → least_by fault (flat_map parts xs) ≡ least_by (λ x. least_by fault (parts x)) xs
least_by-flat_map fault parts [] = refl
least_by-flat_map fault parts (x ∷ xs) = least_by-append fault (parts x) (flat_map parts xs) ∙ ap (sooner (least_by fault (parts x))) (least_by-flat_map fault parts xs)

pub least_by-map : {X Y : Type 0} (fault : Y → Option Refusal) (f : X → Y) (xs : List X) → least_by fault (map f xs) ≡ least_by (λ x. fault (f x)) xs
least_by-map fault f [] = refl
least_by-map fault f (x ∷ xs) = ap (sooner (fault (f x))) (least_by-map fault f xs)

pub least_by-push : {X : Type 0} (fault : X → Option Refusal) (xs : List X) (x : X) → least_by fault (xs ++ x ∷ []) ≡ sooner (least_by fault xs) (fault x)
least_by-push fault xs x = least_by-append fault xs (x ∷ []) ∙ ap (sooner (least_by fault xs)) (sooner-None (fault x))

-- the step of a loop that keeps the least fault of the items so far
pub least_by-more : {X : Type 0} (fault : X → Option Refusal) (xs : List X) (i : ℕ) (x : X) (so_far : Option Refusal) → i < length xs → x ≡ get_or xs i x → so_far ≡ least_by fault (take i xs) → sooner so_far (fault x) ≡ least_by fault (take (i + 1) xs)
least_by-more fault xs i x so_far lt at so =
    ap (λ l. sooner l (fault x)) so ∙ sym (least_by-push fault (take i xs) x)
    ∙ ap (λ y. least_by fault (take i xs ++ y ∷ [])) at ∙ sym (ap (least_by fault) (take_more xs i x lt))

-- ---- some item of a list

any_split : {X : Type 0} (P : X → Type 0) (x : X) (xs : List X) (k : ℕ) (y : X) → k < length (x ∷ xs) → get_or (x ∷ xs) k y ≡ y → P y → P x ⊎ Any P xs
any_split P x xs zero y lt at p = inl (subst P (sym at) p)
any_split P x xs (suc k) y lt at p = let less : k < length xs = omega arith in inr (k, y, less, at, p)

pub Any-uncons : {X : Type 0} (P : X → Type 0) (x : X) (xs : List X) → Any P (x ∷ xs) → P x ⊎ Any P xs
Any-uncons P x xs h = any_split P x xs h.0 h.1 h.2 h.3 h.4

pub Any-cons : {X : Type 0} (P : X → Type 0) (x : X) (xs : List X) → P x ⊎ Any P xs → Any P (x ∷ xs)
Any-cons P x xs (inl p) = let less : 0 < length (x ∷ xs) = omega arith in (0, x, less, refl, p)
Any-cons P x xs (inr h) = let below : h.0 < length xs = h.2 in let less : suc h.0 < length (x ∷ xs) = omega arith in (suc h.0, h.1, less, h.3, h.4)

pub Any-nil : {X : Type 0} (P : X → Type 0) → Any P [] → ⊥
Any-nil {X} P h = let none : List X = [] in let below : h.0 < length none = h.2 in omega arith

-- ---- what is told

pub tells-same : (P Q : Refusal → Type 0) (o : Option Refusal) → ((r : Refusal) → P r → Q r) → ((r : Refusal) → Q r → P r) → TellsLeast P o → TellsLeast Q o
tells-same P Q None to from h = λ r q. h r (from r q)
tells-same P Q (Some r) to from h = record { holds = to r h.holds; least = λ other q. h.least other (from other q) }

later_than : (a b other : Refusal) → precedes b a ≡ false → ¬ Precedes other b → ¬ Precedes other a
later_than a b other ba not before =
    let other_b : precedes other b ≡ false = elim (precedes other b) as (λ v. precedes other b ≡ v → v ≡ false) [ true ↦ λ e. absurd (not (Precedes-test other b e)) | false ↦ λ e. refl ] refl in
    true≢false (sym (test-Precedes other a before) ∙ precedes-negated other b a other_b ba)

pub tells-sooner : (P Q : Refusal → Type 0) (a b : Option Refusal) → TellsLeast P a → TellsLeast Q b → TellsLeast (λ r. P r ⊎ Q r) (sooner a b)
tells-sooner P Q None None p q = λ r h. elim h [ inl x ↦ p r x | inr y ↦ q r y ]
tells-sooner P Q None (Some b) p q = record { holds = inr q.holds; least = λ other h. elim h [ inl x ↦ absurd (p other x) | inr y ↦ q.least other y ] }
tells-sooner P Q (Some a) None p q = record { holds = inl p.holds; least = λ other h. elim h [ inl x ↦ p.least other x | inr y ↦ absurd (q other y) ] }
tells-sooner P Q (Some a) (Some b) p q = by (precedes b a) refl
  where
    by : (v : Bool) → precedes b a ≡ v → TellsLeast (λ r. P r ⊎ Q r) (cond v (Some b) (Some a))
    by true e = record { holds = inr q.holds; least = λ other h. elim h [ inl x ↦ λ before. p.least other x (Precedes-test other a (precedes-trans other b a (test-Precedes other b before) e)) | inr y ↦ q.least other y ] }
    by false e = record { holds = inl p.holds; least = λ other h. elim h [ inl x ↦ p.least other x | inr y ↦ later_than a b other e (q.least other y) ] }

-- where the search at each item is told, so is that over a list
pub tells-least_by : {X : Type 0} (P : X → Refusal → Type 0) (fault : X → Option Refusal) → ((x : X) → TellsLeast (P x) (fault x)) → (xs : List X) → TellsLeast (λ r. Any (λ x. P x r) xs) (least_by fault xs)
tells-least_by P fault each [] = λ r h. Any-nil (λ x. P x r) h
tells-least_by P fault each (x ∷ xs) =
    tells-same (λ r. P x r ⊎ Any (λ y. P y r) xs) (λ r. Any (λ y. P y r) (x ∷ xs)) (sooner (fault x) (least_by fault xs))
    (λ r. Any-cons (λ y. P y r) x xs) (λ r. Any-uncons (λ y. P y r) x xs)
    (tells-sooner (P x) (λ r. Any (λ y. P y r) xs) (fault x) (least_by fault xs) (each x) (tells-least_by P fault each xs))
