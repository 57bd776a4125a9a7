-- A loop that reads one part after another reads what `read_many` reads.
use Rattle.std.proofs.Common.{◌≡◌, ℕ, zero, suc, ◌≤◌, ◌<◌, Bool, true, false, cond, List, [], ◌∷◌, ◌++◌, length, Result, Ok, Err, refl, sym, ap, subst, ◌∙◌, append_assoc, arith, length-append}
use Rattle.std.proofs.lemmas.List.{append-nil}
use Rattle.dactl_grammar.specs.declared.fault.Fault.{Fault}
use Rattle.dactl_grammar.specs.declared.fault.ReadError.{ReadError}
use Rattle.dactl_grammar.specs.declared.fault.ReadError.TheVariants as errors
use Rattle.dactl_grammar.specs.Grammar.{Grammar}
use Rattle.dactl_grammar.specs.Reader.{Outcome, Reader, ◌>>=◌, head_is, read_times, read_many}
use Rattle.dactl_grammar.specs.Giving.{Fails}
use Rattle.dactl_grammar.proofs.Exact.{Exact}

abbrev pub Shrinks : {T A : Type 0} → Reader T A → Type 0
Shrinks {T} {A} R = (l : List T) (a : A) (rest : List T) → R l ≡ Ok (a, rest) → length rest < length l

shorter : {T A : Type 0} (P : Grammar T A) (a : A) (u rest : List T) → ((a : A) → P.whole [] a → ⊥) → P.whole u a → length rest < length (u ++ rest)
shorter P a [] rest s w = absurd (s a w)
shorter P a (t ∷ u) rest s w = omega (arith, length-append u rest)

-- a reader of a part that isn't empty leaves less
pub shrinks : {T A : Type 0} {P : Grammar T A} {R : Reader T A} {more : T → Bool} → Exact P R more → ((a : A) → P.whole [] a → ⊥) → Shrinks R
shrinks {T} {A} {P} p s l a rest e =
    let t = p.sound l a rest e in
    subst (λ (k : List T). length rest < length k) (sym t.parts) (shorter P a t.front rest s t.whole)

abbrev pub with_front : {T A : Type 0} → List A → Outcome T (List A) → Outcome T (List A)
with_front front read = read >>= λ x. Ok (front ++ x.0, x.1)

abbrev pub read_ok : {X : Type 0} → X → Result X Fault
read_ok x = Ok x

regroup : {T A : Type 0} (front : List A) (a : A) (read : Outcome T (List A)) → with_front front (read >>= λ x. Ok (a ∷ x.0, x.1)) ≡ with_front (front ++ a ∷ []) read
regroup {T} {A} front a (Ok x) = ap (λ (k : List A). read_ok (k, x.1)) (sym (append_assoc front (a ∷ []) x.0))
regroup front a (Err f) = refl

module _ {T A : Type 0} (c : T → Bool) (R : Reader T A) (s : Shrinks R) where
  abbrev after : ℕ → Outcome T A → Outcome T (List A)
  after n r = r >>= (λ x. read_times c R n x.1 >>= (λ y. Ok (x.0 ∷ y.0, y.1)))

  same_after : (n m : ℕ) (l : List T) (r : Outcome T A) → R l ≡ r → ((k : List T) → length k < length l → read_times c R n k ≡ read_times c R m k) → after n r ≡ after m r
  same_after n m l (Ok x) e ih = ap (λ (o : Outcome T (List A)). o >>= (λ y. Ok (x.0 ∷ y.0, y.1))) (ih x.1 (s l x.0 x.1 e))
  same_after n m l (Err f) e ih = refl

  same_turn : (n m : ℕ) (l : List T) (b : Bool) → after n (R l) ≡ after m (R l) → cond {A = Outcome T (List A)} b (after n (R l)) (Ok ([], l)) ≡ cond b (after m (R l)) (Ok ([], l))
  same_turn n m l true e = e
  same_turn n m l false e = refl

  times_same : (n m : ℕ) (l : List T) → length l ≤ n → length l ≤ m → read_times c R n l ≡ read_times c R m l
  times_same zero zero l p q = refl
  times_same zero (suc m) [] p q = refl
  times_same zero (suc m) (t ∷ l) p q = absurd (omega arith)
  times_same (suc n) zero [] p q = refl
  times_same (suc n) zero (t ∷ l) p q = absurd (omega arith)
  times_same (suc n) (suc m) l p q = same_turn n m l (head_is c l) (same_after n m l (R l) refl (λ k lt. times_same n m k (omega arith) (omega arith)))

  -- one turn
  many_turn : (l : List T) → head_is c l ≡ true → (a : A) (rest : List T) → R l ≡ Ok (a, rest) → read_many c R l ≡ (read_many c R rest >>= (λ y. Ok (a ∷ y.0, y.1)))
  unfolding read_many
  many_turn [] h a rest e = absurd cc
  many_turn (t ∷ l) h a rest e =
      let same : read_times c R (length l) rest ≡ read_times c R (length rest) rest = times_same (length l) (length rest) rest (omega (arith, s (t ∷ l) a rest e)) (omega arith) in
      rw (h, e, same) refl

  many_fault : (l : List T) → head_is c l ≡ true → (f : Fault) → R l ≡ Err f → read_many c R l ≡ Err f
  unfolding read_many
  many_fault [] h f e = absurd cc
  many_fault (t ∷ l) h f e = rw (h, e) refl

  many_none : (l : List T) → head_is c l ≡ false → read_many c R l ≡ Ok ([], l)
  unfolding read_many
  many_none [] h = refl
  many_none (t ∷ l) h = rw h refl

  pub goes_on : (front : List A) (l : List T) (a : A) (rest : List T) (total : Outcome T (List A)) → head_is c l ≡ true → R l ≡ Ok (a, rest)
      → with_front front (read_many c R l) ≡ total → with_front (front ++ a ∷ []) (read_many c R rest) ≡ total
  goes_on front l a rest total h e so_far =
      sym (regroup front a (read_many c R rest)) ∙ ap (λ (o : Outcome T (List A)). with_front front o) (sym (many_turn l h a rest e)) ∙ so_far

  pub ends : (e : ReadError) (front : List A) (l : List T) (total : Outcome T (List A)) → head_is c l ≡ true → Fails e (R l)
      → with_front front (read_many c R l) ≡ total → Fails e total
  ends errors.Memory front l total h e so_far = tt
  ends (errors.Fault f) front l total h e so_far = sym so_far ∙ rw (many_fault l h f e) refl

  pub is_done : (front : List A) (l : List T) (total : Outcome T (List A)) → head_is c l ≡ false → with_front front (read_many c R l) ≡ total → total ≡ Ok (front, l)
  is_done front l total h so_far = sym so_far ∙ rw (many_none l h) (ap (λ (k : List A). read_ok (k, l)) (append-nil front))
