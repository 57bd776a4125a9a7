-- A reader is exact for a grammar. Each form of grammar has its lemma.
use Rattle.std.proofs.Common.{◌≡◌, ℕ, zero, suc, ◌≤◌, Bool, true, false, cond, ◌⊎◌, inl, inr, List, [], ◌∷◌, ◌++◌, length, Option, Some, None, Result, Ok, Err, refl, sym, ap, subst, ◌∙◌, append_assoc, arith, length-append}
use Rattle.std.proofs.lemmas.List.{append-nil}
use Rattle.dactl_grammar.specs.declared.fault.Fault.{Fault}
use Rattle.dactl_grammar.specs.declared.fault.Fault.TheVariants.{Unexpected, TooDeep}
use Rattle.dactl_grammar.specs.Grammar.{Grammar, StartsOne, one, WholeRow, BeginsSecond, row, choice, WholeMaybe, maybe, WholeMany, BeginsMany, many, WholeAs, means, barred, place_of, placed}
use Rattle.dactl_grammar.proofs.Same.{Same}
use Rattle.dactl_grammar.proofs.Fronts.{Fronts, fronts_one, fronts_row, fronts_choice, fronts_many, fronts_barred, fronts_same}
use Rattle.dactl_grammar.specs.Reader.{Outcome, Reader, ◌>>=◌, fault_left, left, head_is, read_one, read_row, read_as, read_choice, read_maybe, read_times, read_many, read_barred, read_placed}

-- the next token can't go on with the part
abbrev pub Stops : {T : Type 0} → (T → Bool) → List T → Type 0
Stops more [] = Unit {0}
Stops more (t ∷ l) = more t ≡ false

pub record Taken {T A : Type 0} (P : Grammar T A) (l : List T) (a : A) (rest : List T) : Type 0 where
  pub front : List T
  pub parts : l ≡ front ++ rest
  pub whole : P.whole front a

pub record Begun {T A : Type 0} (P : Grammar T A) (l : List T) (e : Fault) : Type 0 where
  pub front : List T
  pub rest : List T
  pub parts : l ≡ front ++ rest
  pub place : fault_left e ≡ length rest
  pub begins : P.begins front

pub record Exact {T A : Type 0} (P : Grammar T A) (R : Reader T A) (more : T → Bool) : Type 0 where
  pub empty : P.begins []
  pub whole_begins : (u : List T) (a : A) → P.whole u a → P.begins u
  pub sound : (l : List T) (a : A) (rest : List T) → R l ≡ Ok (a, rest) → Taken P l a rest
  pub complete : (u : List T) (a : A) (rest : List T) → P.whole u a → Stops more rest → R (u ++ rest) ≡ Ok (a, rest)
  pub begun : (l : List T) (e : Fault) → R l ≡ Err e → Begun P l e
  pub reaches : (u rest : List T) → P.begins u → left (R (u ++ rest)) ≤ length rest
  pub fronts : Fronts P

-- ---- steps

pub bind_ok : {A B : Type 0} (r : Result A Fault) (f : A → Result B Fault) (y : B) → (r >>= f) ≡ Ok y → (x : A) × (r ≡ Ok x) × (f x ≡ Ok y)
bind_ok (Ok x) f y e = (x, refl, e)
bind_ok (Err d) f y e = absurd cc

pub bind_err : {A B : Type 0} (r : Result A Fault) (f : A → Result B Fault) (d : Fault) → (r >>= f) ≡ Err d → (r ≡ Err d) ⊎ ((x : A) × (r ≡ Ok x) × (f x ≡ Err d))
bind_err (Ok x) f d e = inr (x, refl, e)
bind_err (Err c) f d e = inl cc

abbrev done : {A : Type 0} → A → Result A Fault
done x = Ok x

pub ok_is : {A : Type 0} (x y : A) → done x ≡ done y → x ≡ y
ok_is x y e = cc

pub left_bind : {T A B : Type 0} (r : Outcome T A) (f : A × List T → Outcome T B) (n : ℕ) → left r ≤ n → ((x : A × List T) → left (f x) ≤ length x.1) → left (r >>= f) ≤ n
left_bind (Ok x) f n h k = omega (arith, k x)
left_bind (Err e) f n h k = h

left_of : {T A : Type 0} (r : Outcome T A) (l : List T) → ((a : A) (rest : List T) → r ≡ Ok (a, rest) → length rest ≤ length l) → ((e : Fault) → r ≡ Err e → fault_left e ≤ length l) → left r ≤ length l
left_of (Ok x) l h k = h x.0 x.1 refl
left_of (Err e) l h k = k e refl

-- a reader goes forward
pub within : {T A : Type 0} (P : Grammar T A) (R : Reader T A) (more : T → Bool) → Exact P R more → (l : List T) → left (R l) ≤ length l
within P R more x l = x.reaches [] l x.empty

-- ---- one token

abbrev if_passed : {T : Type 0} → Bool → T → List T → Outcome T T
if_passed b t l = cond {A = Outcome _ _} b (Ok (t, l)) (Err (Unexpected (suc (length l))))

one_sound : {T : Type 0} (c : T → Bool) (t : T) (l : List T) (b : Bool) (a : T) (rest : List T) → c t ≡ b → if_passed b t l ≡ Ok (a, rest) → Taken (one c) (t ∷ l) a rest
one_sound c t l true a rest h e =
    let same = ok_is (t, l) (a, rest) e in
    let t-is : t ≡ a = ap (λ (p : _ × List _). p.0) same in
    let l-is : l ≡ rest = ap (λ (p : _ × List _). p.1) same in
    record { front = t ∷ []; parts = ap (λ (r : List _). t ∷ r) l-is; whole = (ap (λ x. x ∷ []) t-is, subst (λ x. c x ≡ true) t-is h) }
one_sound c t l false a rest h e = absurd cc

one_begun : {T : Type 0} (c : T → Bool) (t : T) (l : List T) (b : Bool) (e : Fault) → if_passed b t l ≡ Err e → Begun (one c) (t ∷ l) e
one_begun c t l true e h = absurd cc
one_begun c t l false e h = record { front = []; rest = t ∷ l; parts = refl; place = cc; begins = tt }

pub exact_one : {T : Type 0} (c : T → Bool) → Exact (one c) (read_one c) (λ _. false)
exact_one {T} c = record {
  empty = tt;
  whole_begins = λ u a w. subst (StartsOne c) (sym w.0) w.1;
  sound = λ l a rest. sound l a rest;
  complete = λ u a rest w s. complete u a rest w;
  begun = λ l e. begun l e;
  reaches = λ u rest b. reaches u rest b;
  fronts = fronts_one c;
}
  where
    sound : (l : List T) (a : T) (rest : List T) → read_one c l ≡ Ok (a, rest) → Taken (one c) l a rest
    sound [] a rest e = absurd cc
    sound (t ∷ l) a rest e = one_sound c t l (c t) a rest refl e

    complete : (u : List T) (a : T) (rest : List T) → (one c).whole u a → read_one c (u ++ rest) ≡ Ok (a, rest)
    complete u a rest w = rw (w.0, w.1) refl

    begun : (l : List T) (e : Fault) → read_one c l ≡ Err e → Begun (one c) l e
    begun [] e h = record { front = []; rest = []; parts = refl; place = cc; begins = tt }
    begun (t ∷ l) e h = one_begun c t l (c t) e h

    here : (t : T) (l : List T) (b : Bool) → left {A = T} (if_passed b t l) ≤ suc (length l)
    here t l true = omega arith
    here t l false = omega arith

    reaches : (u rest : List T) → StartsOne c u → left (read_one c (u ++ rest)) ≤ length rest
    reaches [] [] b = omega arith
    reaches [] (t ∷ l) b = here t l (c t)
    reaches (t ∷ []) rest b = rw b (omega arith)
    reaches (t ∷ u ∷ l) rest b = absurd b

-- ---- a row

module _ {T A B : Type 0} (P : Grammar T A) (Q : A → Grammar T B) (R : Reader T A) (S : A → Reader T B) (moreP moreQ more : T → Bool)
    (p : Exact P R moreP) (q : (a : A) → Exact (Q a) (S a) moreQ)
    -- what begins the second part can't go on with the first
    (apart : (a : A) (t : T) (l : List T) → (Q a).begins (t ∷ l) → moreP t ≡ false)
    (ends_first : (a : A) (b : B) (t : T) → (Q a).whole [] b → more t ≡ false → moreP t ≡ false)
    (ends : (t : T) → more t ≡ false → moreQ t ≡ false) where
  row_sound : (l : List T) (v : A × B) (rest : List T) → read_row R S l ≡ Ok (v, rest) → Taken (row P Q) l v rest
  row_sound l v rest e =
      let x = bind_ok (R l) (λ x. S x.0 x.1 >>= (λ y. Ok ((x.0, y.0), y.1))) (v, rest) e in
      let y = bind_ok (S x.0.0 x.0.1) (λ y. Ok ((x.0.0, y.0), y.1)) (v, rest) x.2 in
      let first = p.sound l x.0.0 x.0.1 x.1 in
      let second = (q x.0.0).sound x.0.1 y.0.0 y.0.1 y.1 in
      let same : ((x.0.0, y.0.0), y.0.1) ≡ (v, rest) = ok_is ((x.0.0, y.0.0), y.0.1) (v, rest) y.2 in
      let taken : Taken (row P Q) l (x.0.0, y.0.0) y.0.1 = record {
        front = first.front ++ second.front;
        parts = first.parts ∙ ap (λ (k : List T). first.front ++ k) second.parts ∙ sym (append_assoc first.front second.front y.0.1);
        whole = record { front = first.front; back = second.front; parts = refl; first = first.whole; second = second.whole };
      } in
      subst (λ (z : (A × B) × List T). Taken (row P Q) l z.0 z.1) same taken

  stops_first : (a : A) (b : B) (v rest : List T) → (Q a).whole v b → Stops more rest → Stops moreP (v ++ rest)
  stops_first a b [] [] w s = tt
  stops_first a b [] (t ∷ rest) w s = ends_first a b t w s
  stops_first a b (t ∷ v) rest w s = apart a t v ((q a).whole_begins (t ∷ v) b w)

  stops_second : (rest : List T) → Stops more rest → Stops moreQ rest
  stops_second [] s = tt
  stops_second (t ∷ rest) s = ends t s

  row_complete : (u : List T) (v : A × B) (rest : List T) → WholeRow P Q u v → Stops more rest → read_row R S (u ++ rest) ≡ Ok (v, rest)
  row_complete u v rest w s =
      let first = p.complete w.front v.0 (w.back ++ rest) w.first (stops_first v.0 v.1 w.back rest w.second s) in
      let second = (q v.0).complete w.back v.1 rest w.second (stops_second rest s) in
      let grouped : u ++ rest ≡ w.front ++ (w.back ++ rest) = ap (λ (k : List T). k ++ rest) w.parts ∙ append_assoc w.front w.back rest in
      rw (grouped, first, second) refl

  row_begun : (l : List T) (e : Fault) → read_row R S l ≡ Err e → Begun (row P Q) l e
  row_begun l e h = elim (bind_err (R l) (λ x. S x.0 x.1 >>= (λ y. Ok ((x.0, y.0), y.1))) e h) [
    | inl r ↦ (let b = p.begun l e r in record { front = b.front; rest = b.rest; parts = b.parts; place = b.place; begins = inl b.begins })
    | inr x ↦ elim (bind_err (S x.0.0 x.0.1) (λ y. Ok ((x.0.0, y.0), y.1)) e x.2) [
      | inl r ↦ (let first = p.sound l x.0.0 x.0.1 x.1 in
          let b = (q x.0.0).begun x.0.1 e r in
          record {
            front = first.front ++ b.front;
            rest = b.rest;
            parts = first.parts ∙ ap (λ (k : List T). first.front ++ k) b.parts ∙ sym (append_assoc first.front b.front b.rest);
            place = b.place;
            begins = inr record { front = first.front; back = b.front; value = x.0.0; parts = refl; first = first.whole; second = b.begins };
          })
      | inr y ↦ absurd cc
    ]
  ]

  second_within : (x : A × List T) → left {T = T} {A = A × B} (S x.0 x.1 >>= (λ y. Ok ((x.0, y.0), y.1))) ≤ length x.1
  second_within x = left_bind (S x.0 x.1) (λ y. Ok ((x.0, y.0), y.1)) (length x.1) (within (Q x.0) (S x.0) moreQ (q x.0) x.1) (λ y. omega arith)

  first_reaches : (u rest : List T) → P.begins u → left (read_row R S (u ++ rest)) ≤ length rest
  first_reaches u rest b = left_bind (R (u ++ rest)) (λ x. S x.0 x.1 >>= (λ y. Ok ((x.0, y.0), y.1))) (length rest) (p.reaches u rest b) second_within

  second_reaches : (a : A) (u v rest : List T) → P.whole u a → (Q a).begins v → left (read_row R S (u ++ (v ++ rest))) ≤ length rest
  second_reaches a u [] rest w b = first_reaches u rest (p.whole_begins u a w)
  second_reaches a u (t ∷ v) rest w b =
      rw (p.complete u a (t ∷ v ++ rest) w (apart a t v b))
      (left_bind (S a (t ∷ v ++ rest)) (λ y. Ok ((a, y.0), y.1)) (length rest) ((q a).reaches (t ∷ v) rest b) (λ y. omega arith))

  row_reaches : (u rest : List T) → P.begins u ⊎ BeginsSecond P Q u → left (read_row R S (u ++ rest)) ≤ length rest
  row_reaches u rest (inl b) = first_reaches u rest b
  row_reaches u rest (inr b) =
      let grouped : u ++ rest ≡ b.front ++ (b.back ++ rest) = ap (λ (k : List T). k ++ rest) b.parts ∙ append_assoc b.front b.back rest in
      rw grouped (second_reaches b.value b.front b.back rest b.first b.second)

  pub exact_row : Exact (row P Q) (read_row R S) more
  exact_row = record {
    empty = inl p.empty;
    whole_begins = λ u v w. inr record { front = w.front; back = w.back; value = v.0; parts = w.parts; first = w.first; second = (q v.0).whole_begins w.back v.1 w.second };
    sound = row_sound;
    complete = row_complete;
    begun = row_begun;
    reaches = row_reaches;
    fronts = fronts_row P Q p.whole_begins p.fronts (λ a. (q a).fronts);
  }

-- ---- another meaning

module _ {T A B : Type 0} (f : A → B) (P : Grammar T A) (R : Reader T A) (more : T → Bool) (p : Exact P R more) where
  means_sound : (l : List T) (v : B) (rest : List T) → read_as f R l ≡ Ok (v, rest) → Taken (means f P) l v rest
  means_sound l v rest e =
      let x = bind_ok (R l) (λ x. Ok (f x.0, x.1)) (v, rest) e in
      let first = p.sound l x.0.0 x.0.1 x.1 in
      let same : (f x.0.0, x.0.1) ≡ (v, rest) = ok_is (f x.0.0, x.0.1) (v, rest) x.2 in
      let taken : Taken (means f P) l (f x.0.0) x.0.1 = record { front = first.front; parts = first.parts; whole = record { value = x.0.0; is = refl; inner = first.whole } } in
      subst (λ (z : B × List T). Taken (means f P) l z.0 z.1) same taken

  means_complete : (u : List T) (v : B) (rest : List T) → WholeAs f P u v → Stops more rest → read_as f R (u ++ rest) ≡ Ok (v, rest)
  means_complete u v rest w s = rw (p.complete u w.value rest w.inner s, w.is) refl

  means_begun : (l : List T) (e : Fault) → read_as f R l ≡ Err e → Begun (means f P) l e
  means_begun l e h = elim (bind_err (R l) (λ x. Ok (f x.0, x.1)) e h) [
    | inl r ↦ (let b = p.begun l e r in record { front = b.front; rest = b.rest; parts = b.parts; place = b.place; begins = b.begins })
    | inr x ↦ absurd cc
  ]

  pub exact_means : Exact (means f P) (read_as f R) more
  exact_means = record {
    empty = p.empty;
    whole_begins = λ u v w. p.whole_begins u w.value w.inner;
    sound = means_sound;
    complete = means_complete;
    begun = means_begun;
    reaches = λ u rest b. left_bind (R (u ++ rest)) (λ x. Ok (f x.0, x.1)) (length rest) (p.reaches u rest b) (λ x. omega arith);
    fronts = p.fronts;
  }

-- ---- a choice

module _ {T A : Type 0} (c : List T → Bool) (P Q : Grammar T A) (R S : Reader T A) (moreP moreQ more : T → Bool)
    (p : Exact P R moreP) (q : Exact Q S moreQ)
    (whole_first : (u rest : List T) (a : A) → P.whole u a → Stops more rest → (c (u ++ rest) ≡ true) × Stops moreP rest)
    (whole_second : (u rest : List T) (a : A) → Q.whole u a → Stops more rest → (c (u ++ rest) ≡ false) × Stops moreQ rest)
    (begins_first : (u rest : List T) → P.begins u → c (u ++ rest) ≡ false → Q.begins u)
    (begins_second : (u rest : List T) → Q.begins u → c (u ++ rest) ≡ true → P.begins u) where
  choice_sound : (l : List T) (v : A) (rest : List T) (b : Bool) → cond b (R l) (S l) ≡ Ok (v, rest) → Taken (choice P Q) l v rest
  choice_sound l v rest true e = let t = p.sound l v rest e in record { front = t.front; parts = t.parts; whole = inl t.whole }
  choice_sound l v rest false e = let t = q.sound l v rest e in record { front = t.front; parts = t.parts; whole = inr t.whole }

  choice_complete : (u : List T) (v : A) (rest : List T) → P.whole u v ⊎ Q.whole u v → Stops more rest → read_choice c R S (u ++ rest) ≡ Ok (v, rest)
  choice_complete u v rest (inl w) s = let k = whole_first u rest v w s in rw k.0 (p.complete u v rest w k.1)
  choice_complete u v rest (inr w) s = let k = whole_second u rest v w s in rw k.0 (q.complete u v rest w k.1)

  choice_begun : (l : List T) (e : Fault) (b : Bool) → cond b (R l) (S l) ≡ Err e → Begun (choice P Q) l e
  choice_begun l e true h = let b = p.begun l e h in record { front = b.front; rest = b.rest; parts = b.parts; place = b.place; begins = inl b.begins }
  choice_begun l e false h = let b = q.begun l e h in record { front = b.front; rest = b.rest; parts = b.parts; place = b.place; begins = inr b.begins }

  choice_reaches : (u rest : List T) (b : Bool) → c (u ++ rest) ≡ b → P.begins u ⊎ Q.begins u → left (cond b (R (u ++ rest)) (S (u ++ rest))) ≤ length rest
  choice_reaches u rest true e (inl k) = p.reaches u rest k
  choice_reaches u rest false e (inl k) = q.reaches u rest (begins_first u rest k e)
  choice_reaches u rest true e (inr k) = p.reaches u rest (begins_second u rest k e)
  choice_reaches u rest false e (inr k) = q.reaches u rest k

  pub exact_choice : Exact (choice P Q) (read_choice c R S) more
  exact_choice = record {
    empty = inl p.empty;
    whole_begins = λ u v w. elim w as (λ _. (choice P Q).begins u) [ inl k ↦ inl (p.whole_begins u v k) | inr k ↦ inr (q.whole_begins u v k) ];
    sound = λ l v rest e. choice_sound l v rest (c l) e;
    complete = choice_complete;
    begun = λ l e h. choice_begun l e (c l) h;
    reaches = λ u rest b. choice_reaches u rest (c (u ++ rest)) refl b;
    fronts = fronts_choice P Q p.fronts q.fronts;
  }

-- ---- a part that may be left out, and one that stands any number of times

module _ {T A : Type 0} (c : T → Bool) (P : Grammar T A) (R : Reader T A) (moreP more : T → Bool) (p : Exact P R moreP)
    (starts : (t : T) (l : List T) → P.begins (t ∷ l) → c t ≡ true)
    (not_empty : (a : A) → P.whole [] a → ⊥)
    (ends : (t : T) → more t ≡ false → (c t ≡ false) × (moreP t ≡ false)) where
  stops_inner : (rest : List T) → Stops more rest → (head_is c rest ≡ false) × Stops moreP rest
  stops_inner [] s = (refl, tt)
  stops_inner (t ∷ rest) s = ends t s

  maybe_sound : (l : List T) (v : Option A) (rest : List T) (b : Bool) → cond {A = Outcome T (Option A)} b (R l >>= (λ x. Ok (Some x.0, x.1))) (Ok (None, l)) ≡ Ok (v, rest) → Taken (maybe P) l v rest
  maybe_sound l v rest true e =
      let x = bind_ok (R l) (λ x. Ok (Some x.0, x.1)) (v, rest) e in
      let t = p.sound l x.0.0 x.0.1 x.1 in
      let same : (Some x.0.0, x.0.1) ≡ (v, rest) = ok_is (Some x.0.0, x.0.1) (v, rest) x.2 in
      let taken : Taken (maybe P) l (Some x.0.0) x.0.1 = record { front = t.front; parts = t.parts; whole = t.whole } in
      subst (λ (z : Option A × List T). Taken (maybe P) l z.0 z.1) same taken
  maybe_sound l v rest false e =
      let same : (None, l) ≡ (v, rest) = ok_is (None, l) (v, rest) e in
      let taken : Taken (maybe P) l None l = record { front = []; parts = refl; whole = refl } in
      subst (λ (z : Option A × List T). Taken (maybe P) l z.0 z.1) same taken

  maybe_complete : (u : List T) (v : Option A) (rest : List T) → WholeMaybe P u v → Stops more rest → read_maybe c R (u ++ rest) ≡ Ok (v, rest)
  maybe_complete u None rest w s = rw (w, (stops_inner rest s).0) refl
  maybe_complete [] (Some a) rest w s = absurd (not_empty a w)
  maybe_complete (t ∷ u) (Some a) rest w s = rw (starts t u (p.whole_begins (t ∷ u) a w), p.complete (t ∷ u) a rest w (stops_inner rest s).1) refl

  maybe_begun : (l : List T) (e : Fault) (b : Bool) → cond {A = Outcome T (Option A)} b (R l >>= (λ x. Ok (Some x.0, x.1))) (Ok (None, l)) ≡ Err e → Begun (maybe P) l e
  maybe_begun l e true h = elim (bind_err (R l) (λ x. Ok (Some x.0, x.1)) e h) [
    | inl r ↦ (let b = p.begun l e r in record { front = b.front; rest = b.rest; parts = b.parts; place = b.place; begins = b.begins })
    | inr x ↦ absurd cc
  ]
  maybe_begun l e false h = absurd cc

  maybe_within : (l : List T) (b : Bool) → left {T = T} {A = Option A} (cond {A = Outcome T (Option A)} b (R l >>= (λ x. Ok (Some x.0, x.1))) (Ok (None, l))) ≤ length l
  maybe_within l true = left_bind (R l) (λ x. Ok (Some x.0, x.1)) (length l) (within P R moreP p l) (λ x. omega arith)
  maybe_within l false = omega arith

  maybe_reaches : (u rest : List T) → P.begins u → left (read_maybe c R (u ++ rest)) ≤ length rest
  maybe_reaches [] rest b = maybe_within rest (head_is c rest)
  maybe_reaches (t ∷ u) rest b = rw (starts t u b) (left_bind (R (t ∷ u ++ rest)) (λ x. Ok (Some x.0, x.1)) (length rest) (p.reaches (t ∷ u) rest b) (λ x. omega arith))

  maybe_whole : (u : List T) (v : Option A) → WholeMaybe P u v → P.begins u
  maybe_whole u None w = subst P.begins (sym w) p.empty
  maybe_whole u (Some a) w = p.whole_begins u a w

  pub exact_maybe : Exact (maybe P) (read_maybe c R) more
  exact_maybe = record {
    empty = p.empty;
    whole_begins = maybe_whole;
    sound = λ l v rest e. maybe_sound l v rest (head_is c l) e;
    complete = maybe_complete;
    begun = λ l e h. maybe_begun l e (head_is c l) h;
    reaches = maybe_reaches;
    fronts = p.fronts;
  }

module _ {T A : Type 0} (c : T → Bool) (P : Grammar T A) (R : Reader T A) (moreP more : T → Bool) (p : Exact P R moreP)
    (starts : (t : T) (l : List T) → P.begins (t ∷ l) → (c t ≡ true) × (moreP t ≡ false))
    (not_empty : (a : A) → P.whole [] a → ⊥)
    (ends : (t : T) → more t ≡ false → (c t ≡ false) × (moreP t ≡ false)) where
  -- what one more turn reads
  abbrev turn : (List T → Outcome T (List A)) → Bool → List T → Outcome T (List A)
  turn again b l = cond {A = Outcome T (List A)} b (R l >>= (λ x. again x.1 >>= (λ y. Ok (x.0 ∷ y.0, y.1)))) (Ok ([], l))

  turn_sound : (again : List T → Outcome T (List A)) → ((l : List T) (v : List A) (rest : List T) → again l ≡ Ok (v, rest) → Taken (many P) l v rest)
      → (l : List T) (v : List A) (rest : List T) (b : Bool) → turn again b l ≡ Ok (v, rest) → Taken (many P) l v rest
  turn_sound again ih l v rest true e =
      let x = bind_ok (R l) (λ x. again x.1 >>= (λ y. Ok (x.0 ∷ y.0, y.1))) (v, rest) e in
      let y = bind_ok (again x.0.1) (λ y. Ok (x.0.0 ∷ y.0, y.1)) (v, rest) x.2 in
      let first = p.sound l x.0.0 x.0.1 x.1 in
      let second = ih x.0.1 y.0.0 y.0.1 y.1 in
      let same : (x.0.0 ∷ y.0.0, y.0.1) ≡ (v, rest) = ok_is (x.0.0 ∷ y.0.0, y.0.1) (v, rest) y.2 in
      let taken : Taken (many P) l (x.0.0 ∷ y.0.0) y.0.1 = record {
        front = first.front ++ second.front;
        parts = first.parts ∙ ap (λ (k : List T). first.front ++ k) second.parts ∙ sym (append_assoc first.front second.front y.0.1);
        whole = (first.front, second.front, refl, first.whole, second.whole);
      } in
      subst (λ (z : List A × List T). Taken (many P) l z.0 z.1) same taken
  turn_sound again ih l v rest false e =
      let same : ([], l) ≡ (v, rest) = ok_is ([], l) (v, rest) e in
      let taken : Taken (many P) l [] l = record { front = []; parts = refl; whole = refl } in
      subst (λ (z : List A × List T). Taken (many P) l z.0 z.1) same taken

  times_sound : (n : ℕ) (l : List T) (v : List A) (rest : List T) → read_times c R n l ≡ Ok (v, rest) → Taken (many P) l v rest
  times_sound zero l v rest e =
      let same : ([], l) ≡ (v, rest) = ok_is ([], l) (v, rest) e in
      let taken : Taken (many P) l [] l = record { front = []; parts = refl; whole = refl } in
      subst (λ (z : List A × List T). Taken (many P) l z.0 z.1) same taken
  times_sound (suc n) l v rest e = turn_sound (read_times c R n) (times_sound n) l v rest (head_is c l) e

  turn_begun : (again : List T → Outcome T (List A)) → ((l : List T) (e : Fault) → again l ≡ Err e → Begun (many P) l e)
      → (l : List T) (e : Fault) (b : Bool) → turn again b l ≡ Err e → Begun (many P) l e
  turn_begun again ih l e true h = elim (bind_err (R l) (λ x. again x.1 >>= (λ y. Ok (x.0 ∷ y.0, y.1))) e h) [
    | inl r ↦ (let b = p.begun l e r in record {
      front = b.front;
      rest = b.rest;
      parts = b.parts;
      place = b.place;
      begins = record { front = []; back = b.front; values = []; parts = refl; first = refl; second = b.begins };
    })
    | inr x ↦ elim (bind_err (again x.0.1) (λ y. Ok (x.0.0 ∷ y.0, y.1)) e x.2) [
      | inl r ↦ (let first = p.sound l x.0.0 x.0.1 x.1 in
          let b = ih x.0.1 e r in
          let k = b.begins in
          record {
            front = first.front ++ b.front;
            rest = b.rest;
            parts = first.parts ∙ ap (λ (k : List T). first.front ++ k) b.parts ∙ sym (append_assoc first.front b.front b.rest);
            place = b.place;
            begins = record {
              front = first.front ++ k.front;
              back = k.back;
              values = x.0.0 ∷ k.values;
              parts = ap (λ (k : List T). first.front ++ k) k.parts ∙ sym (append_assoc first.front k.front k.back);
              first = (first.front, k.front, refl, first.whole, k.first);
              second = k.second;
            };
          })
      | inr y ↦ absurd cc
    ]
  ]
  turn_begun again ih l e false h = absurd cc

  times_begun : (n : ℕ) (l : List T) (e : Fault) → read_times c R n l ≡ Err e → Begun (many P) l e
  times_begun zero l e h = absurd cc
  times_begun (suc n) l e h = turn_begun (read_times c R n) (times_begun n) l e (head_is c l) h

  turn_within : (again : List T → Outcome T (List A)) → ((l : List T) → left (again l) ≤ length l) → (l : List T) (b : Bool) → left (turn again b l) ≤ length l
  turn_within again ih l true = left_bind (R l) (λ x. again x.1 >>= (λ y. Ok (x.0 ∷ y.0, y.1))) (length l) (within P R moreP p l)
      (λ x. left_bind (again x.1) (λ y. Ok (x.0 ∷ y.0, y.1)) (length x.1) (ih x.1) (λ y. omega arith))
  turn_within again ih l false = omega arith

  times_within : (n : ℕ) (l : List T) → left (read_times c R n l) ≤ length l
  times_within zero l = omega arith
  times_within (suc n) l = turn_within (read_times c R n) (times_within n) l (head_is c l)

  -- the next token begins one more
  abbrev Goes : List T → Type 0
  Goes [] = Unit {0}
  Goes (t ∷ l) = (c t ≡ true) × (moreP t ≡ false)

  whole_goes : (u k : List T) (a : A) → P.whole u a → Goes (u ++ k)
  whole_goes [] k a w = absurd (not_empty a w)
  whole_goes (t ∷ u) k a w = starts t u (p.whole_begins (t ∷ u) a w)

  many_stops : (u : List T) (vs : List A) (rest : List T) → WholeMany P u vs → Stops moreP rest → Stops moreP (u ++ rest)
  many_stops u [] rest w s = rw w s
  many_stops u (v ∷ vs) rest w s =
      let grouped : w.0 ++ (w.1 ++ rest) ≡ u ++ rest = sym (ap (λ (k : List T). k ++ rest) w.2 ∙ append_assoc w.0 w.1 rest) in
      subst (Stops moreP) grouped (goes_stops (w.0 ++ (w.1 ++ rest)) (whole_goes w.0 (w.1 ++ rest) v w.3))
    where
      goes_stops : (l : List T) → Goes l → Stops moreP l
      goes_stops [] g = tt
      goes_stops (t ∷ l) g = g.1

  stops_after : (rest : List T) → Stops more rest → (head_is c rest ≡ false) × Stops moreP rest
  stops_after [] s = (refl, tt)
  stops_after (t ∷ rest) s = ends t s

  times_none : (n : ℕ) (rest : List T) → head_is c rest ≡ false → read_times c R n rest ≡ Ok ([], rest)
  times_none zero rest h = refl
  times_none (suc n) rest h = rw h refl

  times_one : (v : A) (vs : List A) (n : ℕ) (f b rest : List T) → P.whole f v → WholeMany P b vs → Stops more rest → length (f ++ (b ++ rest)) ≤ n
      → ((m : ℕ) → length (b ++ rest) ≤ m → read_times c R m (b ++ rest) ≡ Ok (vs, rest)) → read_times c R n (f ++ (b ++ rest)) ≡ Ok (v ∷ vs, rest)
  times_one v vs n [] b rest w wb s len ih = absurd (not_empty v w)
  times_one v vs zero (t ∷ f) b rest w wb s len ih = absurd (omega arith)
  times_one v vs (suc n) (t ∷ f) b rest w wb s len ih =
      let go = (starts t f (p.whole_begins (t ∷ f) v w)).0 in
      let first = p.complete (t ∷ f) v (b ++ rest) w (many_stops b vs rest wb (stops_after rest s).1) in
      let again = ih n (omega (arith, length-append f (b ++ rest))) in
      rw (go, first, again) refl

  times_complete : (vs : List A) (n : ℕ) (u rest : List T) → WholeMany P u vs → Stops more rest → length (u ++ rest) ≤ n → read_times c R n (u ++ rest) ≡ Ok (vs, rest)
  times_complete [] n u rest w s len = rw w (times_none n rest (stops_after rest s).0)
  times_complete (v ∷ vs) n u rest w s len =
      let grouped : u ++ rest ≡ w.0 ++ (w.1 ++ rest) = ap (λ (k : List T). k ++ rest) w.2 ∙ append_assoc w.0 w.1 rest in
      let fits : length (w.0 ++ (w.1 ++ rest)) ≤ n = rw (← grouped) len in
      rw grouped (times_one v vs n w.0 w.1 rest w.3 w.4 s fits (λ m le. times_complete vs m w.1 rest w.4 s le))

  times_last : (n : ℕ) (b rest : List T) → P.begins b → length (b ++ rest) ≤ n → left (read_times c R n (b ++ rest)) ≤ length rest
  times_last n [] rest k len = times_within n rest
  times_last zero (t ∷ b) rest k len = absurd (omega arith)
  times_last (suc n) (t ∷ b) rest k len =
      rw ((starts t b k).0) (left_bind (R (t ∷ b ++ rest)) (λ x. read_times c R n x.1 >>= (λ y. Ok (x.0 ∷ y.0, y.1))) (length rest) (p.reaches (t ∷ b) rest k)
      (λ x. left_bind (read_times c R n x.1) (λ y. Ok (x.0 ∷ y.0, y.1)) (length x.1) (times_within n x.1) (λ y. omega arith)))

  -- one more, and then what begins another
  times_more : (v : A) (n : ℕ) (f b rest : List T) → P.whole f v → Stops moreP b → length (f ++ (b ++ rest)) ≤ n
      → ((m : ℕ) → length (b ++ rest) ≤ m → left (read_times c R m (b ++ rest)) ≤ length rest) → left (read_times c R n (f ++ (b ++ rest))) ≤ length rest
  times_more v n [] b rest w s len ih = absurd (not_empty v w)
  times_more v zero (t ∷ f) b rest w s len ih = absurd (omega arith)
  times_more v (suc n) (t ∷ f) [] rest w s len ih = times_last (suc n) (t ∷ f) rest (p.whole_begins (t ∷ f) v w) len
  times_more v (suc n) (t ∷ f) (u ∷ b) rest w s len ih =
      rw ((starts t f (p.whole_begins (t ∷ f) v w)).0, p.complete (t ∷ f) v (u ∷ b ++ rest) w s)
      (left_bind (read_times c R n (u ∷ b ++ rest)) (λ y. Ok (v ∷ y.0, y.1)) (length rest) (ih n (omega (arith, length-append f (u ∷ b ++ rest)))) (λ y. omega arith))

  begins_stops : (b : List T) → P.begins b → Stops moreP b
  begins_stops [] k = tt
  begins_stops (t ∷ b) k = (starts t b k).1

  times_reaches : (vs : List A) (n : ℕ) (u b rest : List T) → WholeMany P u vs → P.begins b → length (u ++ (b ++ rest)) ≤ n → left (read_times c R n (u ++ (b ++ rest))) ≤ length rest
  times_reaches [] n u b rest w k len =
      let fits : length (b ++ rest) ≤ n = rw w at len in
      rw w (times_last n b rest k fits)
  times_reaches (v ∷ vs) n u b rest w k len =
      let grouped : u ++ (b ++ rest) ≡ w.0 ++ ((w.1 ++ b) ++ rest) = ap (λ (k : List T). k ++ (b ++ rest)) w.2 ∙ append_assoc w.0 w.1 (b ++ rest) ∙ ap (λ (k : List T). w.0 ++ k) (sym (append_assoc w.1 b rest)) in
      let fits : length (w.0 ++ ((w.1 ++ b) ++ rest)) ≤ n = rw (← grouped) len in
      let inner : (m : ℕ) → length ((w.1 ++ b) ++ rest) ≤ m → left (read_times c R m ((w.1 ++ b) ++ rest)) ≤ length rest =
      λ m le. rw append_assoc (times_reaches vs m w.1 b rest w.4 k (rw append_assoc at le)) in
      rw grouped (times_more v n w.0 (w.1 ++ b) rest w.3 (many_stops w.1 vs b w.4 (begins_stops b k)) fits inner)

  many_reaches : (u rest : List T) → BeginsMany P u → left (read_many c R (u ++ rest)) ≤ length rest
  unfolding read_many
  many_reaches u rest k =
      let grouped : u ++ rest ≡ k.front ++ (k.back ++ rest) = ap (λ (l : List T). l ++ rest) k.parts ∙ append_assoc k.front k.back rest in
      rw grouped (times_reaches k.values (length (k.front ++ (k.back ++ rest))) k.front k.back rest k.first k.second (omega arith))

  many_whole : (u : List T) (vs : List A) → WholeMany P u vs → BeginsMany P u
  many_whole u vs w = record { front = u; back = []; values = vs; parts = sym (append-nil u); first = w; second = p.empty }

  many_sound : (l : List T) (v : List A) (rest : List T) → read_many c R l ≡ Ok (v, rest) → Taken (many P) l v rest
  unfolding read_many
  many_sound l v rest e = times_sound (length l) l v rest e

  many_complete : (u : List T) (v : List A) (rest : List T) → WholeMany P u v → Stops more rest → read_many c R (u ++ rest) ≡ Ok (v, rest)
  unfolding read_many
  many_complete u v rest w s = times_complete v (length (u ++ rest)) u rest w s (omega arith)

  many_begun : (l : List T) (e : Fault) → read_many c R l ≡ Err e → Begun (many P) l e
  unfolding read_many
  many_begun l e h = times_begun (length l) l e h

  pub exact_many : Exact (many P) (read_many c R) more
  exact_many = record {
    empty = record { front = []; back = []; values = []; parts = refl; first = refl; second = p.empty };
    whole_begins = many_whole;
    sound = many_sound;
    complete = many_complete;
    begun = many_begun;
    reaches = many_reaches;
    fronts = fronts_many P p.whole_begins p.fronts;
  }

-- ---- a part that no text has

barred_begun : {T A : Type 0} (c : T → Bool) (l : List T) (e : Fault) (r : Outcome T T) → read_one c l ≡ r → (◌>>=◌ {B = A × List T} r (λ _. Err (TooDeep (length l)))) ≡ Err e → Begun (barred {T = T} {A = A}) l e
barred_begun c l e (Ok x) h k = record { front = []; rest = l; parts = refl; place = cc; begins = refl }
barred_begun {T} {A} c l e (Err f) h k =
    let b = (exact_one c).begun l f h in
    let same : fault_left e ≡ fault_left f = cc in
    record { front = []; rest = l; parts = refl; place = same ∙ one_left_all c l f h; begins = refl }
  where
    pick : (t : T) (l : List T) (b : Bool) (f : Fault) → if_passed b t l ≡ Err f → fault_left f ≡ suc (length l)
    pick t l true f h = absurd cc
    pick t l false f h = cc

    one_left_all : (c : T → Bool) (l : List T) (f : Fault) → read_one c l ≡ Err f → fault_left f ≡ length l
    one_left_all c [] f h = cc
    one_left_all c (t ∷ l) f h = pick t l (c t) f h

barred_never : {T A : Type 0} (r : Outcome T T) (d : Fault) (x : A × List T) → (◌>>=◌ {B = A × List T} r (λ _. Err d)) ≡ Ok x → ⊥
barred_never (Ok y) d x h = cc
barred_never (Err f) d x h = cc

barred_within : {T : Type 0} (A : Type 0) (r : Outcome T T) (l : List T) → left r ≤ length l → left {T = T} {A = A} (r >>= (λ _. Err (TooDeep (length l)))) ≤ length l
barred_within A (Ok y) l h = omega arith
barred_within A (Err f) l h = h

pub exact_barred : {T A : Type 0} (c : T → Bool) → Exact (barred {T = T} {A = A}) (read_barred c) (λ _. false)
exact_barred {T} {A} c = record {
  empty = refl;
  whole_begins = λ u a w. absurd w;
  sound = λ l a rest e. absurd (barred_never (read_one c l) (TooDeep (length l)) (a, rest) e);
  complete = λ u a rest w s. absurd w;
  begun = λ l e h. barred_begun c l e (read_one c l) refl h;
  reaches = λ u rest b. rw b (barred_within A (read_one c rest) rest (within (one c) (read_one c) (λ _. false) (exact_one c) rest));
  fronts = fronts_barred A;
}

-- ---- a part with its place

module _ {T A : Type 0} (g : T → ℕ) (P : Grammar T A) (R : Reader T A) (more : T → Bool) (p : Exact P R more)
    (not_empty : (a : A) → P.whole [] a → ⊥) where
  same_place : (u rest : List T) (a : A) → P.whole u a → place_of g (u ++ rest) ≡ place_of g u
  same_place [] rest a w = absurd (not_empty a w)
  same_place (t ∷ u) rest a w = refl

  placed_sound : (l : List T) (v : ℕ × A) (rest : List T) → read_placed g R l ≡ Ok (v, rest) → Taken (placed g P) l v rest
  placed_sound l v rest e =
      let x = bind_ok (R l) (λ x. Ok ((place_of g l, x.0), x.1)) (v, rest) e in
      let first = p.sound l x.0.0 x.0.1 x.1 in
      let same : ((place_of g l, x.0.0), x.0.1) ≡ (v, rest) = ok_is ((place_of g l, x.0.0), x.0.1) (v, rest) x.2 in
      let taken : Taken (placed g P) l (place_of g l, x.0.0) x.0.1 =
      record { front = first.front; parts = first.parts; whole = (ap (place_of g) first.parts ∙ same_place first.front x.0.1 x.0.0 first.whole, first.whole) } in
      subst (λ (z : (ℕ × A) × List T). Taken (placed g P) l z.0 z.1) same taken

  placed_complete : (u : List T) (v : ℕ × A) (rest : List T) → (placed g P).whole u v → Stops more rest → read_placed g R (u ++ rest) ≡ Ok (v, rest)
  placed_complete u v rest w s = rw (p.complete u v.1 rest w.1 s, same_place u rest v.1 w.1, ← w.0) refl

  placed_begun : (l : List T) (e : Fault) → read_placed g R l ≡ Err e → Begun (placed g P) l e
  placed_begun l e h = elim (bind_err (R l) (λ x. Ok ((place_of g l, x.0), x.1)) e h) [
    | inl r ↦ (let b = p.begun l e r in record { front = b.front; rest = b.rest; parts = b.parts; place = b.place; begins = b.begins })
    | inr x ↦ absurd cc
  ]

  pub exact_placed : Exact (placed g P) (read_placed g R) more
  exact_placed = record {
    empty = p.empty;
    whole_begins = λ u v w. p.whole_begins u v.1 w.1;
    sound = placed_sound;
    complete = placed_complete;
    begun = placed_begun;
    reaches = λ u rest b. left_bind (R (u ++ rest)) (λ x. Ok ((place_of g (u ++ rest), x.0), x.1)) (length rest) (p.reaches u rest b) (λ x. omega arith);
    fronts = p.fronts;
  }

-- ---- another grammar of the same texts

pub exact_same : {T A : Type 0} (P Q : Grammar T A) (R : Reader T A) (more : T → Bool) → Same P Q → Exact P R more → Exact Q R more
exact_same P Q R more s p = record {
  empty = s.begins_to [] p.empty;
  whole_begins = λ u a w. s.begins_to u (p.whole_begins u a (s.whole_from u a w));
  sound = λ l a rest e. let t = p.sound l a rest e in record { front = t.front; parts = t.parts; whole = s.whole_to t.front a t.whole };
  complete = λ u a rest w h. p.complete u a rest (s.whole_from u a w) h;
  begun = λ l e h. let b = p.begun l e h in record { front = b.front; rest = b.rest; parts = b.parts; place = b.place; begins = s.begins_to b.front b.begins };
  reaches = λ u rest b. p.reaches u rest (s.begins_from u b);
  fronts = fronts_same P Q s p.fronts;
}
