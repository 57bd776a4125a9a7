-- Sums over lists of which one item changes.
use Rattle.std.proofs.Common.{◌≡◌, ℕ, zero, suc, ◌+◌, ◌≤◌, List, [], ◌∷◌, ◌++◌, set, sym, ap, refl, arith}
use mathlib.Core.Option.{some, some-injective, some-ne-none}
use lib.ListN.{get_elem?}
use Rattle.dactl_steal.specs.Sums.{added}

module _ {X : Type 0} (f : X → ℕ) where
  pub added-append : (xs ys : List X) → added f (xs ++ ys) ≡ added f xs + added f ys
  added-append [] ys = omega arith
  added-append (x ∷ xs) ys = omega (arith, added-append xs ys)

  pub added_set : (xs : List X) (i : ℕ) (v w : X) → get_elem? xs i ≡ some v → added f (set xs i w) + f v ≡ added f xs + f w
  added_set [] i v w e = absurd (some-ne-none v (sym e))
  added_set (x ∷ xs) zero v w e = let q : f x ≡ f v = ap f (some-injective x v e) in omega arith
  added_set (x ∷ xs) (suc i) v w e = omega (arith, added_set xs i v w e)

  pub added_snoc : (xs : List X) (y : X) → added f (xs ++ y ∷ []) ≡ added f xs + f y
  added_snoc [] y = omega arith
  added_snoc (x ∷ xs) y = omega (arith, added_snoc xs y)
