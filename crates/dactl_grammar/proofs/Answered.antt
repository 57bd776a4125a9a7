-- Reading all of a list answers as the grammar says.
use Rattle.std.proofs.Common.{◌≡◌, ℕ, zero, suc, ◌+◌, ◌≤◌, Bool, inl, inr, List, [], ◌∷◌, ◌++◌, length, Ok, Err, refl, sym, ap, subst, ◌∙◌, append_assoc, arith, length-append}
use Rattle.std.proofs.lemmas.List.{append-nil}
use Rattle.dactl_grammar.specs.declared.fault.Fault.TheVariants.{Unexpected, TooDeep}
use Rattle.dactl_grammar.specs.Grammar.{Grammar}
use Rattle.dactl_grammar.specs.Reader.{Reader, left, to_end, to_the_end, read_all}
use Rattle.dactl_grammar.specs.Answer.{NoneWithNext, FirstUnexpected, FirstTooDeep}
use Rattle.dactl_grammar.proofs.Exact.{bind_ok, bind_err}
use Rattle.dactl_grammar.proofs.Bounded.{Bounded}

module _ {T A : Type 0} {c : T → Bool} {G : ℕ → Grammar T A} {R : ℕ → Reader T A} {more : T → Bool} (laws : Bounded c G R more) where
  end_ok : (x : A × List T) (ms : A) → to_the_end x ≡ Ok ms → x ≡ (ms, [])
  end_ok x ms e = pick x.0 x.1 e
    where
      pick : (a : A) (r : List T) → to_end a r ≡ Ok ms → ◌≡◌ {A = A × List T} (a, r) (ms, [])
      pick a [] e = let same : a ≡ ms = cc in ap (λ (k : A). (k, [])) same
      pick a (t ∷ r) e = absurd cc

  -- what is read derives
  pub read_derives : (n : ℕ) (l : List T) (ms : A) → read_all (R n) l ≡ Ok ms → (G n).whole l ms
  read_derives n l ms e =
      let x = bind_ok (R n l) to_the_end ms e in
      let end = end_ok x.0 ms x.2 in
      let whole : R n l ≡ Ok (ms, []) = x.1 ∙ ap (λ (k : A × List T). Ok k) end in
      let t = (laws.exact n).sound l ms [] whole in
      subst (λ (k : List T). (G n).whole k ms) (sym (t.parts ∙ append-nil t.front)) t.whole

  -- what derives is read
  pub derives_read : (n : ℕ) (l : List T) (ms : A) → (G n).whole l ms → read_all (R n) l ≡ Ok ms
  derives_read n l ms w =
      let c = (laws.exact n).complete l ms [] w tt in
      let whole : R n l ≡ Ok (ms, []) = ap (R n) (sym (append-nil l)) ∙ c in
      rw whole refl

  -- a list of tokens derives one text at most
  pub one_text : (n : ℕ) (l : List T) (ms ns : A) → (G n).whole l ms → (G n).whole l ns → ms ≡ ns
  one_text n l ms ns a b = let p = derives_read n l ms a in let q = derives_read n l ns b in cc

  -- ---- more brackets

  grown_begins : (k n : ℕ) (u : List T) → (G n).begins u → (G (k + n)).begins u
  grown_begins zero n u b = let e : n ≡ 0 + n = omega arith in subst (λ (m : ℕ). (G m).begins u) e b
  grown_begins (suc k) n u b = let e : suc k + n ≡ suc (k + n) = omega arith in subst (λ (m : ℕ). (G m).begins u) (sym e) ((laws.grows (k + n)).begins u (grown_begins k n u b))

  grown_whole : (k n : ℕ) (u : List T) (ms : A) → (G n).whole u ms → (G (k + n)).whole u ms
  grown_whole zero n u ms b = let e : n ≡ 0 + n = omega arith in subst (λ (m : ℕ). (G m).whole u ms) e b
  grown_whole (suc k) n u ms b = let e : suc k + n ≡ suc (k + n) = omega arith in subst (λ (m : ℕ). (G m).whole u ms) (sym e) ((laws.grows (k + n)).whole u ms (grown_whole k n u ms b))

  grown_refused : (k n m : ℕ) (l : List T) → R n l ≡ Err (Unexpected m) → R (k + n) l ≡ Err (Unexpected m)
  grown_refused zero n m l h = let e : 0 + n ≡ n = omega arith in rw e h
  grown_refused (suc k) n m l h = let e : suc k + n ≡ suc (k + n) = omega arith in rw e ((laws.grows (k + n)).refused l m (grown_refused k n m l h))

  grown_same : (k n : ℕ) (l : List T) (x : A × List T) → R n l ≡ Ok x → R (k + n) l ≡ Ok x
  grown_same zero n l x h = let e : 0 + n ≡ n = omega arith in rw e h
  grown_same (suc k) n l x h = let e : suc k + n ≡ suc (k + n) = omega arith in rw e ((laws.grows (k + n)).same l x (grown_same k n l x h))

  -- ---- faults

  -- more than what is behind is left
  next_left : (n : ℕ) (front : List T) (t : T) (rest : List T) → (G n).begins (front ++ t ∷ []) → left (R n (front ++ t ∷ rest)) ≤ length rest
  next_left n front t rest b =
      let e : (front ++ t ∷ []) ++ rest ≡ front ++ t ∷ rest = append_assoc front (t ∷ []) rest in
      subst (λ (k : List T). left (R n k) ≤ length rest) e ((laws.exact n).reaches (front ++ t ∷ []) rest b)

  none_next : (n : ℕ) (l front rest : List T) → l ≡ front ++ rest → R n l ≡ Err (Unexpected (length rest)) → NoneWithNext G front rest
  none_next n l front [] parts h = λ m ms w.
      let more = grown_refused m n 0 l h in
      let whole = grown_whole n m front ms w in
      let same : m + n ≡ n + m = omega arith in
      let c = (laws.exact (n + m)).complete front ms [] whole tt in
      let at_l : R (n + m) l ≡ Ok (ms, []) = ap (R (n + m)) parts ∙ c in
      let refused : R (n + m) l ≡ Err (Unexpected 0) = subst (λ (k : ℕ). R k l ≡ Err (Unexpected 0)) same more in
      cc
  none_next n l front (t ∷ rest) parts h = λ b.
      let m = b.0 in
      let begins = grown_begins n m (front ++ t ∷ []) b.1 in
      let near = next_left (n + m) front t rest begins in
      let same : m + n ≡ n + m = omega arith in
      let refused : R (n + m) l ≡ Err (Unexpected (suc (length rest))) = subst (λ (k : ℕ). R k l ≡ Err (Unexpected (suc (length rest)))) same (grown_refused m n (suc (length rest)) l h) in
      let far : left (R (n + m) (front ++ t ∷ rest)) ≡ suc (length rest) = rw (← parts, refused) refl in
      omega (arith, near, far)

  -- a whole text is behind, and a token follows
  none_after : (n : ℕ) (l front : List T) (t : T) (rest : List T) (ms : A) → l ≡ front ++ t ∷ rest → R n l ≡ Ok (ms, t ∷ rest) → NoneWithNext G front (t ∷ rest)
  none_after n l front t rest ms parts h = λ b.
      let m = b.0 in
      let begins = grown_begins n m (front ++ t ∷ []) b.1 in
      let near = next_left (n + m) front t rest begins in
      let same : m + n ≡ n + m = omega arith in
      let read : R (n + m) l ≡ Ok (ms, t ∷ rest) = subst (λ (k : ℕ). R k l ≡ Ok (ms, t ∷ rest)) same (grown_same m n l (ms, t ∷ rest) h) in
      let far : left (R (n + m) (front ++ t ∷ rest)) ≡ suc (length rest) = rw (← parts, read) refl in
      omega (arith, near, far)

  unexpected_at : (n : ℕ) (l : List T) (k : ℕ) → R n l ≡ Err (Unexpected k) → FirstUnexpected G n l k
  unexpected_at n l k h =
      let b = (laws.exact n).begun l (Unexpected k) h in
      record {
        front = b.front;
        rest = b.rest;
        parts = b.parts;
        place = b.place;
        before = b.begins;
        none = none_next n l b.front b.rest b.parts (subst (λ (j : ℕ). R n l ≡ Err (Unexpected j)) b.place h);
      }

  behind_whole : (n : ℕ) (l : List T) (x : A × List T) (k : ℕ) → R n l ≡ Ok x → to_the_end x ≡ Err (Unexpected k) → FirstUnexpected G n l k
  behind_whole n l x k h e = pick x.0 x.1 h e
    where
      pick : (a : A) (r : List T) → R n l ≡ Ok (a, r) → to_end a r ≡ Err (Unexpected k) → FirstUnexpected G n l k
      pick a [] h e = absurd cc
      pick a (t ∷ r) h e =
          let t0 = (laws.exact n).sound l a (t ∷ r) h in
          record { front = t0.front; rest = t ∷ r; parts = t0.parts; place = cc; before = (laws.exact n).whole_begins t0.front a t0.whole; none = none_after n l t0.front t r a t0.parts h }

  -- an unexpected token is the first
  pub read_unexpected : (n : ℕ) (l : List T) (k : ℕ) → read_all (R n) l ≡ Err (Unexpected k) → FirstUnexpected G n l k
  read_unexpected n l k h = elim (bind_err (R n l) to_the_end (Unexpected k) h) [
    | inl r ↦ unexpected_at n l k r
    | inr x ↦ behind_whole n l x.0 k x.1 x.2
  ]

  never_deep : (x : A × List T) (k : ℕ) → to_the_end x ≡ Err (TooDeep k) → ⊥
  never_deep x k e = pick x.0 x.1 e
    where
      pick : (a : A) (r : List T) → to_end a r ≡ Err (TooDeep k) → ⊥
      pick a [] e = cc
      pick a (t ∷ r) e = cc

  -- a list is cut at one place by the length of what is behind
  pub front_is : (u v x y : List T) → u ++ v ≡ x ++ y → length v ≡ length y → u ≡ x
  front_is [] v [] y e len = refl
  front_is [] v (t ∷ x) y e len = absurd (omega (arith, ap length e, length-append x y))
  front_is (t ∷ u) v [] y e len = absurd (omega (arith, ap length e, length-append u v))
  front_is (t ∷ u) v (z ∷ x) y e len =
      let head : t ≡ z = cc in
      let tail : u ++ v ≡ x ++ y = cc in
      ap (λ (k : List T). t ∷ k) (front_is u v x y tail len) ∙ ap (λ (k : T). k ∷ x) head

  too_far : (n : ℕ) (l : List T) (k : ℕ) → R n l ≡ Err (TooDeep k) → (front : List T) (t : T) (rest : List T) → l ≡ front ++ t ∷ rest → k ≡ suc (length rest) → left (R n (front ++ t ∷ rest)) ≤ length rest → ⊥
  too_far n l k h front t rest parts place near =
      let far : left (R n (front ++ t ∷ rest)) ≡ suc (length rest) = rw (← parts, h) place in
      omega (arith, near, far)

  deep_at : (n : ℕ) (l : List T) (k : ℕ) → R n l ≡ Err (TooDeep k) → FirstTooDeep c G n l k
  deep_at n l k h =
      let d = (laws.grows n).deep l k h in
      let b = (laws.exact n).begun l (TooDeep k) h in
      record {
        front = d.front;
        bracket = d.token;
        rest = d.rest;
        parts = d.parts;
        place = d.place;
        opens = d.bracket;
        before = subst (G n).begins (front_is b.front b.rest d.front (d.token ∷ d.rest) (sym b.parts ∙ d.parts) (sym b.place ∙ d.place)) b.begins;
        one_more = d.begins;
        too_many = λ more. too_far n l k h d.front d.token d.rest d.parts d.place (next_left n d.front d.token d.rest more);
      }

  -- a bracket too many is the first
  pub read_too_deep : (n : ℕ) (l : List T) (k : ℕ) → read_all (R n) l ≡ Err (TooDeep k) → FirstTooDeep c G n l k
  read_too_deep n l k h = elim (bind_err (R n l) to_the_end (TooDeep k) h) [
    | inl r ↦ deep_at n l k r
    | inr x ↦ absurd (never_deep x.0 k x.2)
  ]
