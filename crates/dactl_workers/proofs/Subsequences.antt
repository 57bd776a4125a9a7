-- Subsequences of lists.
use Rattle.std.proofs.Common.{◌≡◌, List, [], ◌∷◌, ◌++◌, inl, inr, ⊎_elim, refl, sym, ap, subst}
use Rattle.dactl_workers.specs.Accounts.{IsSubsequence}

module _ {A : Type 0} where
  pub none_of : (ys : List A) → IsSubsequence [] ys
  none_of [] = refl
  none_of (y ∷ ys) = inl (none_of ys)

  pub subsequence_append : (xs ys us vs : List A) → IsSubsequence xs ys → IsSubsequence us vs → IsSubsequence (xs ++ us) (ys ++ vs)
  subsequence_append xs [] us vs p q = subst (λ (z : List A). IsSubsequence (z ++ us) vs) (sym p) q
  subsequence_append xs (y ∷ ys) us vs p q = ⊎_elim
      (λ (h : IsSubsequence xs ys). inl (subsequence_append xs ys us vs h q))
      (λ (h : (rest : List A) × (xs ≡ y ∷ rest) × IsSubsequence rest ys). inr (h.0 ++ us, ap (λ (z : List A). z ++ us) h.1, subsequence_append h.0 ys us vs h.2 q)) p
