-- The nodes made active by the entries of one number.
use Rattle.std.proofs.Common.{◌≡◌, ◌≢◌, ℕ, ◌+◌, List, [], ◌∷◌, ◌++◌, inl, inr, ⊎_elim, refl, sym, ap, ◌∙◌, subst, append-nil, append_assoc, length, arith, eq-eqb, ne_eqb}
use mathlib.Core.Logic.{dite}
use native.Mathlib.Decide.{ℕ_discrete}
use Rattle.dactl_model.specs.declared.graph.NodeId.{NodeId}
use Rattle.dactl_model.specs.declared.graph.Entry.{Entry}
use Rattle.dactl_model.specs.declared.program.Program.{Program}
use Rattle.dactl_turn.specs.Gives.{by_worker}
use Rattle.dactl_workers.specs.Accounts.{LastActs, OwnActs, by_others}

pub filtered : (k : ℕ) (x : Entry) (xs : List Entry) → x.worker ≡ k → by_worker k (x ∷ xs) ≡ x ∷ by_worker k xs
filtered k x xs is = let q = eq-eqb x.worker k is in rw q refl

passed : (k : ℕ) (x : Entry) (xs : List Entry) → x.worker ≢ k → by_worker k (x ∷ xs) ≡ by_worker k xs
passed k x xs not = let q = ne_eqb x.worker k not in rw q refl

others_passed : (k : ℕ) (x : Entry) (xs : List Entry) → x.worker ≡ k → by_others k (x ∷ xs) ≡ by_others k xs
others_passed k x xs is = let q = eq-eqb x.worker k is in rw q refl

others_filtered : (k : ℕ) (x : Entry) (xs : List Entry) → x.worker ≢ k → by_others k (x ∷ xs) ≡ x ∷ by_others k xs
others_filtered k x xs not = let q = ne_eqb x.worker k not in rw q refl

-- each entry is one's own or another's
pub both_count : (k : ℕ) (es : List Entry) → length (by_worker k es) + length (by_others k es) ≡ length es
both_count k [] = omega arith
both_count k (e ∷ es) = let h = both_count k es in dite (ℕ_discrete e.worker k)
    (λ is. let a = ap length (filtered k e es is) in let b = ap length (others_passed k e es is) in omega arith)
    (λ not. let a = ap length (passed k e es not) in let b = ap length (others_filtered k e es not) in omega arith)

module _ (p : Program) (k : ℕ) where
  pub acts_append : (before es fs : List Entry) (xs ys : List NodeId) → OwnActs p k before es xs → OwnActs p k (before ++ es) fs ys → OwnActs p k before (es ++ fs) (xs ++ ys)
  acts_append before [] fs xs ys a q = subst (λ (z : List Entry × List NodeId). OwnActs p k z.0 fs (z.1 ++ ys)) (λ i. (append-nil before i, sym a i)) q
  acts_append before (e ∷ es) fs xs ys a q = let on = subst (λ (z : List Entry). OwnActs p k z fs ys) (sym (append_assoc before (e ∷ []) es)) q in ⊎_elim
      (λ (h : (e.worker ≢ k) × OwnActs p k (before ++ e ∷ []) es xs). inl (h.0, acts_append (before ++ e ∷ []) es fs xs ys h.1 on))
      (λ (h : (e.worker ≡ k) × ((first : List NodeId) × (more : List NodeId) × LastActs p (before ++ e ∷ []) first × (xs ≡ first ++ more) × OwnActs p k (before ++ e ∷ []) es more)).
      inr (h.0, (h.1.0, h.1.1 ++ ys, h.1.2, ap (λ (z : List NodeId). z ++ ys) h.1.3 ∙ append_assoc h.1.0 h.1.1 ys, acts_append (before ++ e ∷ []) es fs h.1.1 ys h.1.4 on))) a

  -- the entries of others add none
  pub acts_of_others : (before es : List Entry) → by_worker k es ≡ [] → OwnActs p k before es []
  acts_of_others before [] none_own = refl
  acts_of_others before (e ∷ es) none_own = dite (ℕ_discrete e.worker k)
      (λ is. let none : e ∷ by_worker k es ≡ [] = sym (filtered k e es is) ∙ none_own in absurd (cc))
      (λ not. inl (not, acts_of_others (before ++ e ∷ []) es (sym (passed k e es not) ∙ none_own)))

  pub acts_of_one : (before : List Entry) (e : Entry) (xs : List NodeId) → e.worker ≡ k → LastActs p (before ++ e ∷ []) xs → OwnActs p k before (e ∷ []) xs
  acts_of_one before e xs is acts = inr (is, (xs, [], acts, sym (append-nil xs), refl))
