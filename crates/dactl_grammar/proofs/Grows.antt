-- With one more bracket the same is read, and where one bracket too many is open, it begins a text with one more.
use Rattle.std.proofs.Common.{◌≡◌, ℕ, zero, suc, Bool, true, false, cond, inl, inr, List, [], ◌∷◌, ◌++◌, length, Option, Some, None, Ok, Err, refl, sym, ap, subst, ◌∙◌, append_assoc}
use Rattle.dactl_grammar.specs.declared.fault.Fault.TheVariants.{Unexpected, TooDeep}
use Rattle.dactl_grammar.specs.Grammar.{Grammar, one, row, choice, WholeMaybe, maybe, WholeMany, many, means, barred, place_of, placed}
use Rattle.dactl_grammar.specs.Reader.{Outcome, Reader, ◌>>=◌, head_is, read_one, read_row, read_as, read_choice, read_maybe, read_times, read_many, read_barred, read_placed}
use Rattle.dactl_grammar.proofs.Exact.{Taken, bind_ok, bind_err}

-- the bracket with which too many are open
pub record Deep {T A : Type 0} (c : T → Bool) (P : Grammar T A) (l : List T) (n : ℕ) : Type 0 where
  pub front : List T
  pub token : T
  pub rest : List T
  pub parts : l ≡ front ++ token ∷ rest
  pub place : n ≡ suc (length rest)
  pub bracket : c token ≡ true
  pub begins : P.begins (front ++ token ∷ [])

pub record Grows {T A : Type 0} (c : T → Bool) (P : Grammar T A) (R : Reader T A) (P' : Grammar T A) (R' : Reader T A) : Type 0 where
  pub whole : (u : List T) (a : A) → P.whole u a → P'.whole u a
  pub begins : (u : List T) → P.begins u → P'.begins u
  pub same : (l : List T) (x : A × List T) → R l ≡ Ok x → R' l ≡ Ok x
  pub refused : (l : List T) (n : ℕ) → R l ≡ Err (Unexpected n) → R' l ≡ Err (Unexpected n)
  pub deep : (l : List T) (n : ℕ) → R l ≡ Err (TooDeep n) → Deep c P' l n

one_never : {T : Type 0} (c : T → Bool) (l : List T) (n : ℕ) → read_one c l ≡ Err (TooDeep n) → ⊥
one_never c [] n h = cc
one_never {T} c (t ∷ l) n h = pick (c t) h
  where
    pick : (b : Bool) → cond {A = Outcome T T} b (Ok (t, l)) (Err (Unexpected (suc (length l)))) ≡ Err (TooDeep n) → ⊥
    pick true h = cc
    pick false h = cc

pub grows_one : {T : Type 0} (c d : T → Bool) → Grows c (one d) (read_one d) (one d) (read_one d)
grows_one c d = record { whole = λ u a w. w; begins = λ u b. b; same = λ l x e. e; refused = λ l n e. e; deep = λ l n e. absurd (one_never d l n e) }

pub grows_means : {T A B : Type 0} {c : T → Bool} (f : A → B) {P P' : Grammar T A} {R R' : Reader T A} → Grows c P R P' R' → Grows c (means f P) (read_as f R) (means f P') (read_as f R')
grows_means {T} {A} {B} {c} f {P} {P'} {R} {R'} g = record {
  whole = λ u a w. record { value = w.value; is = w.is; inner = g.whole u w.value w.inner };
  begins = g.begins;
  same = same;
  refused = refused;
  deep = deep;
}
  where
    after : A × List T → Outcome T B
    after x = Ok (f x.0, x.1)

    same : (l : List T) (x : B × List T) → read_as f R l ≡ Ok x → read_as f R' l ≡ Ok x
    same l x e = let k = bind_ok (R l) (λ x. Ok (f x.0, x.1)) x e in rw (g.same l k.0 k.1) k.2

    refused : (l : List T) (n : ℕ) → read_as f R l ≡ Err (Unexpected n) → read_as f R' l ≡ Err (Unexpected n)
    refused l n e = elim (bind_err (R l) (λ x. Ok (f x.0, x.1)) (Unexpected n) e) [ inl r ↦ rw (g.refused l n r) refl | inr x ↦ absurd cc ]

    deep : (l : List T) (n : ℕ) → read_as f R l ≡ Err (TooDeep n) → Deep c (means f P') l n
    deep l n e = elim (bind_err (R l) (λ x. Ok (f x.0, x.1)) (TooDeep n) e) [
      | inl r ↦ (let d = g.deep l n r in record { front = d.front; token = d.token; rest = d.rest; parts = d.parts; place = d.place; bracket = d.bracket; begins = d.begins })
      | inr x ↦ absurd cc
    ]

pub grows_placed : {T A : Type 0} {c : T → Bool} (h : T → ℕ) {P P' : Grammar T A} {R R' : Reader T A} → Grows c P R P' R' → Grows c (placed h P) (read_placed h R) (placed h P') (read_placed h R')
grows_placed {T} {A} {c} h {P} {P'} {R} {R'} g = record {
  whole = λ u a w. (w.0, g.whole u a.1 w.1);
  begins = g.begins;
  same = same;
  refused = refused;
  deep = deep;
}
  where
    same : (l : List T) (x : (ℕ × A) × List T) → read_placed h R l ≡ Ok x → read_placed h R' l ≡ Ok x
    same l x e = let k = bind_ok (R l) (λ x. Ok ((place_of h l, x.0), x.1)) x e in rw (g.same l k.0 k.1) k.2

    refused : (l : List T) (n : ℕ) → read_placed h R l ≡ Err (Unexpected n) → read_placed h R' l ≡ Err (Unexpected n)
    refused l n e = elim (bind_err (R l) (λ x. Ok ((place_of h l, x.0), x.1)) (Unexpected n) e) [ inl r ↦ rw (g.refused l n r) refl | inr x ↦ absurd cc ]

    deep : (l : List T) (n : ℕ) → read_placed h R l ≡ Err (TooDeep n) → Deep c (placed h P') l n
    deep l n e = elim (bind_err (R l) (λ x. Ok ((place_of h l, x.0), x.1)) (TooDeep n) e) [
      | inl r ↦ (let d = g.deep l n r in record { front = d.front; token = d.token; rest = d.rest; parts = d.parts; place = d.place; bracket = d.bracket; begins = d.begins })
      | inr x ↦ absurd cc
    ]

module _ {T A B : Type 0} (c : T → Bool) (P P' : Grammar T A) (Q Q' : A → Grammar T B) (R R' : Reader T A) (S S' : A → Reader T B)
    (sound : (l : List T) (a : A) (rest : List T) → R l ≡ Ok (a, rest) → Taken P l a rest)
    (g : Grows c P R P' R') (h : (a : A) → Grows c (Q a) (S a) (Q' a) (S' a)) where
  row_same : (l : List T) (v : (A × B) × List T) → read_row R S l ≡ Ok v → read_row R' S' l ≡ Ok v
  row_same l v e =
      let x = bind_ok (R l) (λ x. S x.0 x.1 >>= (λ y. Ok ((x.0, y.0), y.1))) v e in
      let y = bind_ok (S x.0.0 x.0.1) (λ y. Ok ((x.0.0, y.0), y.1)) v x.2 in
      rw (g.same l x.0 x.1, (h x.0.0).same x.0.1 y.0 y.1) y.2

  row_refused : (l : List T) (n : ℕ) → read_row R S l ≡ Err (Unexpected n) → read_row R' S' l ≡ Err (Unexpected n)
  row_refused l n e = elim (bind_err (R l) (λ x. S x.0 x.1 >>= (λ y. Ok ((x.0, y.0), y.1))) (Unexpected n) e) [
    | inl r ↦ rw (g.refused l n r) refl
    | inr x ↦ elim (bind_err (S x.0.0 x.0.1) (λ y. Ok ((x.0.0, y.0), y.1)) (Unexpected n) x.2) [
      | inl r ↦ rw (g.same l x.0 x.1, (h x.0.0).refused x.0.1 n r) refl
      | inr y ↦ absurd cc
    ]
  ]

  row_deep : (l : List T) (n : ℕ) → read_row R S l ≡ Err (TooDeep n) → Deep c (row P' Q') l n
  row_deep l n e = elim (bind_err (R l) (λ x. S x.0 x.1 >>= (λ y. Ok ((x.0, y.0), y.1))) (TooDeep n) e) [
    | inl r ↦ (let d = g.deep l n r in record { front = d.front; token = d.token; rest = d.rest; parts = d.parts; place = d.place; bracket = d.bracket; begins = inl d.begins })
    | inr x ↦ elim (bind_err (S x.0.0 x.0.1) (λ y. Ok ((x.0.0, y.0), y.1)) (TooDeep n) x.2) [
      | inl r ↦ (let first = sound l x.0.0 x.0.1 x.1 in
          let d = (h x.0.0).deep x.0.1 n r in
          record {
            front = first.front ++ d.front;
            token = d.token;
            rest = d.rest;
            parts = first.parts ∙ ap (λ (k : List T). first.front ++ k) d.parts ∙ sym (append_assoc first.front d.front (d.token ∷ d.rest));
            place = d.place;
            bracket = d.bracket;
            begins = inr record { front = first.front; back = d.front ++ d.token ∷ []; value = x.0.0; parts = append_assoc first.front d.front (d.token ∷ []); first = g.whole first.front x.0.0 first.whole; second = d.begins };
          })
      | inr y ↦ absurd cc
    ]
  ]

  pub grows_row : Grows c (row P Q) (read_row R S) (row P' Q') (read_row R' S')
  grows_row = record {
    whole = λ u v w. record { front = w.front; back = w.back; parts = w.parts; first = g.whole w.front v.0 w.first; second = (h v.0).whole w.back v.1 w.second };
    begins = λ u b. elim b as (λ _. (row P' Q').begins u) [
      | inl k ↦ inl (g.begins u k)
      | inr k ↦ inr record { front = k.front; back = k.back; value = k.value; parts = k.parts; first = g.whole k.front k.value k.first; second = (h k.value).begins k.back k.second }
    ];
    same = row_same;
    refused = row_refused;
    deep = row_deep;
  }

module _ {T A : Type 0} (c : T → Bool) (d : List T → Bool) (P P' Q Q' : Grammar T A) (R R' S S' : Reader T A) (g : Grows c P R P' R') (h : Grows c Q S Q' S') where
  choice_same : (l : List T) (x : A × List T) (b : Bool) → cond b (R l) (S l) ≡ Ok x → cond b (R' l) (S' l) ≡ Ok x
  choice_same l x true e = g.same l x e
  choice_same l x false e = h.same l x e

  choice_refused : (l : List T) (n : ℕ) (b : Bool) → cond b (R l) (S l) ≡ Err (Unexpected n) → cond b (R' l) (S' l) ≡ Err (Unexpected n)
  choice_refused l n true e = g.refused l n e
  choice_refused l n false e = h.refused l n e

  choice_deep : (l : List T) (n : ℕ) (b : Bool) → cond b (R l) (S l) ≡ Err (TooDeep n) → Deep c (choice P' Q') l n
  choice_deep l n true e = let k = g.deep l n e in record { front = k.front; token = k.token; rest = k.rest; parts = k.parts; place = k.place; bracket = k.bracket; begins = inl k.begins }
  choice_deep l n false e = let k = h.deep l n e in record { front = k.front; token = k.token; rest = k.rest; parts = k.parts; place = k.place; bracket = k.bracket; begins = inr k.begins }

  pub grows_choice : Grows c (choice P Q) (read_choice d R S) (choice P' Q') (read_choice d R' S')
  grows_choice = record {
    whole = λ u a w. elim w as (λ _. (choice P' Q').whole u a) [ inl k ↦ inl (g.whole u a k) | inr k ↦ inr (h.whole u a k) ];
    begins = λ u b. elim b as (λ _. (choice P' Q').begins u) [ inl k ↦ inl (g.begins u k) | inr k ↦ inr (h.begins u k) ];
    same = λ l x e. choice_same l x (d l) e;
    refused = λ l n e. choice_refused l n (d l) e;
    deep = λ l n e. choice_deep l n (d l) e;
  }

module _ {T A : Type 0} (c : T → Bool) (d : T → Bool) (P P' : Grammar T A) (R R' : Reader T A)
    (sound : (l : List T) (a : A) (rest : List T) → R l ≡ Ok (a, rest) → Taken P l a rest)
    (g : Grows c P R P' R') where
  abbrev one_or_none : (List T → Outcome T A) → Bool → List T → Outcome T (Option A)
  one_or_none r b l = cond {A = Outcome T (Option A)} b (r l >>= (λ x. Ok (Some x.0, x.1))) (Ok (None, l))

  maybe_whole : (u : List T) (a : Option A) → WholeMaybe P u a → WholeMaybe P' u a
  maybe_whole u None w = w
  maybe_whole u (Some a) w = g.whole u a w

  maybe_same : (l : List T) (x : Option A × List T) (b : Bool) → one_or_none R b l ≡ Ok x → one_or_none R' b l ≡ Ok x
  maybe_same l x true e = let k = bind_ok (R l) (λ x. Ok (Some x.0, x.1)) x e in rw (g.same l k.0 k.1) k.2
  maybe_same l x false e = e

  maybe_refused : (l : List T) (n : ℕ) (b : Bool) → one_or_none R b l ≡ Err (Unexpected n) → one_or_none R' b l ≡ Err (Unexpected n)
  maybe_refused l n true e = elim (bind_err (R l) (λ x. Ok (Some x.0, x.1)) (Unexpected n) e) [ inl r ↦ rw (g.refused l n r) refl | inr x ↦ absurd cc ]
  maybe_refused l n false e = e

  maybe_deep : (l : List T) (n : ℕ) (b : Bool) → one_or_none R b l ≡ Err (TooDeep n) → Deep c (maybe P') l n
  maybe_deep l n true e = elim (bind_err (R l) (λ x. Ok (Some x.0, x.1)) (TooDeep n) e) [
    | inl r ↦ (let k = g.deep l n r in record { front = k.front; token = k.token; rest = k.rest; parts = k.parts; place = k.place; bracket = k.bracket; begins = k.begins })
    | inr x ↦ absurd cc
  ]
  maybe_deep l n false e = absurd cc

  pub grows_maybe : Grows c (maybe P) (read_maybe d R) (maybe P') (read_maybe d R')
  grows_maybe = record { whole = maybe_whole; begins = g.begins; same = λ l x e. maybe_same l x (head_is d l) e; refused = λ l n e. maybe_refused l n (head_is d l) e; deep = λ l n e. maybe_deep l n (head_is d l) e }

  abbrev turn : (List T → Outcome T A) → (List T → Outcome T (List A)) → Bool → List T → Outcome T (List A)
  turn r again b l = cond {A = Outcome T (List A)} b (r l >>= (λ x. again x.1 >>= (λ y. Ok (x.0 ∷ y.0, y.1)))) (Ok ([], l))

  many_whole : (u : List T) (vs : List A) → WholeMany P u vs → WholeMany P' u vs
  many_whole u [] w = w
  many_whole u (v ∷ vs) w = (w.0, w.1, w.2, g.whole w.0 v w.3, many_whole w.1 vs w.4)

  turn_same : (n : ℕ) → ((l : List T) (x : List A × List T) → read_times d R n l ≡ Ok x → read_times d R' n l ≡ Ok x)
      → (l : List T) (x : List A × List T) (b : Bool) → turn R (read_times d R n) b l ≡ Ok x → turn R' (read_times d R' n) b l ≡ Ok x
  turn_same n ih l v true e =
      let x = bind_ok (R l) (λ x. read_times d R n x.1 >>= (λ y. Ok (x.0 ∷ y.0, y.1))) v e in
      let y = bind_ok (read_times d R n x.0.1) (λ y. Ok (x.0.0 ∷ y.0, y.1)) v x.2 in
      rw (g.same l x.0 x.1, ih x.0.1 y.0 y.1) y.2
  turn_same n ih l v false e = e

  times_same : (n : ℕ) (l : List T) (x : List A × List T) → read_times d R n l ≡ Ok x → read_times d R' n l ≡ Ok x
  times_same zero l x e = e
  times_same (suc n) l x e = turn_same n (times_same n) l x (head_is d l) e

  turn_refused : (n m : ℕ) → ((l : List T) → read_times d R n l ≡ Err (Unexpected m) → read_times d R' n l ≡ Err (Unexpected m))
      → (l : List T) (b : Bool) → turn R (read_times d R n) b l ≡ Err (Unexpected m) → turn R' (read_times d R' n) b l ≡ Err (Unexpected m)
  turn_refused n m ih l true e = elim (bind_err (R l) (λ x. read_times d R n x.1 >>= (λ y. Ok (x.0 ∷ y.0, y.1))) (Unexpected m) e) [
    | inl r ↦ rw (g.refused l m r) refl
    | inr x ↦ elim (bind_err (read_times d R n x.0.1) (λ y. Ok (x.0.0 ∷ y.0, y.1)) (Unexpected m) x.2) [
      | inl r ↦ rw (g.same l x.0 x.1, ih x.0.1 r) refl
      | inr y ↦ absurd cc
    ]
  ]
  turn_refused n m ih l false e = e

  times_refused : (n m : ℕ) (l : List T) → read_times d R n l ≡ Err (Unexpected m) → read_times d R' n l ≡ Err (Unexpected m)
  times_refused zero m l e = e
  times_refused (suc n) m l e = turn_refused n m (times_refused n m) l (head_is d l) e

  turn_deep : (n m : ℕ) → ((l : List T) → read_times d R n l ≡ Err (TooDeep m) → Deep c (many P') l m)
      → (l : List T) (b : Bool) → turn R (read_times d R n) b l ≡ Err (TooDeep m) → Deep c (many P') l m
  turn_deep n m ih l true e = elim (bind_err (R l) (λ x. read_times d R n x.1 >>= (λ y. Ok (x.0 ∷ y.0, y.1))) (TooDeep m) e) [
    | inl r ↦ (let k = g.deep l m r in record {
      front = k.front;
      token = k.token;
      rest = k.rest;
      parts = k.parts;
      place = k.place;
      bracket = k.bracket;
      begins = record { front = []; back = k.front ++ k.token ∷ []; values = []; parts = refl; first = refl; second = k.begins };
    })
    | inr x ↦ elim (bind_err (read_times d R n x.0.1) (λ y. Ok (x.0.0 ∷ y.0, y.1)) (TooDeep m) x.2) [
      | inl r ↦ (let first = sound l x.0.0 x.0.1 x.1 in
          let k = ih x.0.1 r in
          let b = k.begins in
          record {
            front = first.front ++ k.front;
            token = k.token;
            rest = k.rest;
            parts = first.parts ∙ ap (λ (z : List T). first.front ++ z) k.parts ∙ sym (append_assoc first.front k.front (k.token ∷ k.rest));
            place = k.place;
            bracket = k.bracket;
            begins = record {
              front = first.front ++ b.front;
              back = b.back;
              values = x.0.0 ∷ b.values;
              parts = append_assoc first.front k.front (k.token ∷ []) ∙ ap (λ (z : List T). first.front ++ z) b.parts ∙ sym (append_assoc first.front b.front b.back);
              first = (first.front, b.front, refl, g.whole first.front x.0.0 first.whole, b.first);
              second = b.second;
            };
          })
      | inr y ↦ absurd cc
    ]
  ]
  turn_deep n m ih l false e = absurd cc

  times_deep : (n m : ℕ) (l : List T) → read_times d R n l ≡ Err (TooDeep m) → Deep c (many P') l m
  times_deep zero m l e = absurd cc
  times_deep (suc n) m l e = turn_deep n m (times_deep n m) l (head_is d l) e

  pub grows_many : Grows c (many P) (read_many d R) (many P') (read_many d R')
  unfolding read_many
  grows_many = record {
    whole = many_whole;
    begins = λ u b. record { front = b.front; back = b.back; values = b.values; parts = b.parts; first = many_whole b.front b.values b.first; second = g.begins b.back b.second };
    same = λ l x e. times_same (length l) l x e;
    refused = λ l n e. times_refused (length l) n l e;
    deep = λ l n e. times_deep (length l) n l e;
  }

-- no bracket, and then one
module _ {T A : Type 0} (c d : T → Bool) (f : T × A → A) (P : T → Grammar T A) (R : T → Reader T A) (empty : (t : T) → (P t).begins []) (known : (t : T) → d t ≡ true → c t ≡ true) where
  abbrev closed : Outcome T T → ℕ → Outcome T A
  closed r n = r >>= (λ _. Err (TooDeep n))

  barred_same : (r : Outcome T T) (n : ℕ) (x : A × List T) → closed r n ≡ Ok x → ⊥
  barred_same (Ok y) n x e = cc
  barred_same (Err k) n x e = cc

  barred_refused : (r : Outcome T T) (n m : ℕ) (k : T × List T → Outcome T A) → closed r n ≡ Err (Unexpected m) → (r >>= k) ≡ Err (Unexpected m)
  barred_refused (Ok y) n m k e = absurd cc
  barred_refused (Err z) n m k e = cc

  barred_deep : (l : List T) (m : ℕ) → read_barred {A = A} d l ≡ Err (TooDeep m) → Deep c (means f (row (one d) P)) l m
  barred_deep [] m e = absurd cc
  barred_deep (t ∷ l) m e = pick (d t) refl e
    where
      pick : (b : Bool) → d t ≡ b → closed (cond {A = Outcome T T} b (Ok (t, l)) (Err (Unexpected (suc (length l))))) (suc (length l)) ≡ Err (TooDeep m) → Deep c (means f (row (one d) P)) (t ∷ l) m
      pick true h e = record { front = []; token = t; rest = l; parts = refl; place = cc; bracket = known t h; begins = inl h }
      pick false h e = absurd cc

  abbrev inside : T × List T → Outcome T (T × A)
  inside x = R x.0 x.1 >>= (λ y. Ok ((x.0, y.0), y.1))

  abbrev meant : (T × A) × List T → Outcome T A
  meant x = Ok (f x.0, x.1)

  opened_refused : (r : Outcome T T) (n m : ℕ) → closed r n ≡ Err (Unexpected m) → ((r >>= inside) >>= meant) ≡ Err (Unexpected m)
  opened_refused (Ok y) n m k = absurd cc
  opened_refused (Err z) n m k = cc

  pub grows_barred : Grows c (barred {T = T} {A = A}) (read_barred d) (means f (row (one d) P)) (read_as f (read_row (read_one d) R))
  grows_barred = record {
    whole = λ u a w. absurd w;
    begins = λ u b. subst (means f (row (one d) P)).begins (sym b) (inl tt);
    same = λ l x e. absurd (barred_same (read_one d l) (length l) x e);
    refused = λ l n e. opened_refused (read_one d l) (length l) n e;
    deep = barred_deep;
  }
