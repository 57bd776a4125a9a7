-- Lists of faults that are empty, and tests that fail.
use Rattle.std.proofs.Common.{◌≡◌, Bool, true, false, not, ◌||◌, List, [], ◌∷◌, ◌++◌, refl, sym}
use Rattle.std.specs.List.{AllByRecursion, flat_map}
use Rattle.dactl_base.specs.declared.refusal.Kind.{Kind}
use Rattle.dactl_meaning.specs.declared.tree.Name.{Name}
use Rattle.fun_syntax.specs.Least.{when}

pub front_empty : {A : Type 0} (xs ys : List A) → xs ++ ys ≡ [] → xs ≡ []
front_empty [] ys is = refl
front_empty (x ∷ xs) ys is = absurd (cc is)

pub back_empty : {A : Type 0} (xs ys : List A) → xs ++ ys ≡ [] → ys ≡ []
back_empty [] ys is = is
back_empty (x ∷ xs) ys is = absurd (cc is)

pub each_empty : {A B : Type 0} (f : A → List B) (xs : List A) → flat_map f xs ≡ [] → AllByRecursion (λ x. f x ≡ []) xs
each_empty f [] is = tt
each_empty f (x ∷ xs) is = (front_empty (f x) (flat_map f xs) is, each_empty f xs (back_empty (f x) (flat_map f xs) is))

pub when_none : (b : Bool) (kind : Kind) (name : Name) → when b kind name ≡ [] → b ≡ false
when_none true kind name is = absurd (cc is)
when_none false kind name is = refl

-- ---- tests

pub not_none : (b : Bool) → not b ≡ false → b ≡ true
not_none true is = refl
not_none false is = sym is

pub left_none : (a b : Bool) → (a || b) ≡ false → a ≡ false
left_none true b is = is
left_none false b is = refl

pub right_none : (a b : Bool) → (a || b) ≡ false → b ≡ false
right_none true b is = absurd (cc is)
right_none false b is = is
