-- Readers of tokens: where each may start and go on is told by the sort of the next token.
use Rattle.std.proofs.Common.{◌≡◌, Bool, true, false, ◌⊎◌, inl, inr, List, [], ◌∷◌, ◌++◌, refl, sym, ap, subst, ◌∙◌, append_assoc}
use Rattle.dactl_terminals.specs.declared.token.Sort.{Sort}
use Rattle.dactl_terminals.specs.declared.token.Sort.TheVariants as s
use Rattle.dactl_terminals.specs.Sort.{same_sort}
use Rattle.dactl_grammar.specs.Grammar.{StartsOne, BeginsSecond, row, choice, maybe, WholeMany, many, means, barred, placed}
use Rattle.dactl_grammar.specs.Reader.{Reader, head_is, read_one, read_row, read_as, read_choice, read_maybe, read_many, read_barred, read_placed}
use Rattle.dactl_terminals.specs.Parts.{Tok, Part_of, is, sign, behind, before, pair, listed, name_of, upper, lower, names}
use Rattle.dactl_terminals.specs.Reads.{Reads, by, read_behind, read_before, read_listed, upper_at, lower_at, comma_upper_at, names_at}
use Rattle.dactl_grammar.proofs.Exact.{Stops, Exact, exact_one, exact_row, exact_means, exact_choice, exact_maybe, exact_many, exact_barred, exact_placed, exact_same}
use Rattle.dactl_grammar.proofs.Same.{Same}
use Rattle.dactl_grammar.proofs.Loop.{Shrinks, shrinks as shrinks_exact}
use Rattle.dactl_terminals.proofs.Sorts.{every, bars, apart, implies, along, clears, cleared}

abbrev pub none : Sort → Bool
none _ = false

abbrev pub Solid : {A : Type 0} → Part_of A → Type 0
Solid {A} P = (a : A) → P.whole [] a → ⊥

pub record Fit {A : Type 0} (P : Part_of A) (R : Reader Tok A) (first more : Sort → Bool) : Type 0 where
  pub exact : Exact P R (by more)
  pub starts : (t : Tok) (l : List Tok) → P.begins (t ∷ l) → first t.sort ≡ true

pub fit_sign : (k : Sort) → Fit (sign k) (read_one (is k)) (same_sort k) none
fit_sign k = record { exact = exact_one (is k); starts = starts }
  where
    starts : (t : Tok) (l : List Tok) → StartsOne (is k) (t ∷ l) → same_sort k t.sort ≡ true
    starts t [] b = b
    starts t (u ∷ l) b = absurd b

pub solid_sign : (k : Sort) → Solid (sign k)
solid_sign k a w = absurd cc

pub fit_means : {A B : Type 0} (f : A → B) (P : Part_of A) (R : Reader Tok A) (first more : Sort → Bool) → Fit P R first more → Fit (means f P) (read_as f R) first more
fit_means f P R first more p = record { exact = exact_means f P R (by more) p.exact; starts = p.starts }

pub solid_means : {A B : Type 0} (f : A → B) (P : Part_of A) → Solid P → Solid (means f P)
solid_means f P s b w = s w.value w.inner

nil_parts : {T : Type 0} (u v : List T) → [] ≡ u ++ v → (u ≡ []) × (v ≡ [])
nil_parts [] v e = (refl, sym e)
nil_parts (t ∷ u) v e = absurd cc

cons_parts : {T : Type 0} (t : T) (l u v : List T) → t ∷ l ≡ u ++ v → ((u ≡ []) × (v ≡ t ∷ l)) ⊎ ((w : List T) × (u ≡ t ∷ w))
cons_parts t l [] v e = inl (refl, sym e)
cons_parts t l (x ∷ u) v e = inr (u, ap (λ y. y ∷ u) cc)

pub solid_row_first : {A B : Type 0} (P : Part_of A) (Q : A → Part_of B) → Solid P → Solid (row P Q)
solid_row_first P Q s v w = let n = nil_parts w.front w.back w.parts in s v.0 (subst (λ u. P.whole u v.0) n.0 w.first)

pub solid_row_second : {A B : Type 0} (P : Part_of A) (Q : A → Part_of B) → ((a : A) → Solid (Q a)) → Solid (row P Q)
solid_row_second P Q s v w = let n = nil_parts w.front w.back w.parts in s v.0 v.1 (subst (λ u. (Q v.0).whole u v.1) n.1 w.second)

module _ {A B : Type 0} (P : Part_of A) (Q : A → Part_of B) (R : Reader Tok A) (S : A → Reader Tok B) (f m g n first more : Sort → Bool)
    (p : Fit P R f m) (q : (a : A) → Fit (Q a) (S a) g n)
    (ok : every (bars g m) ≡ true)
    (ends : every (clears n more) ≡ true)
    (last : ((a : A) → Solid (Q a)) ⊎ (every (clears m more) ≡ true))
    (begins : every (implies f first) ≡ true)
    (start : Solid P ⊎ (every (implies g first) ≡ true)) where
  row_apart : (a : A) (t : Tok) (l : List Tok) → (Q a).begins (t ∷ l) → by m t ≡ false
  row_apart a t l b = apart g m ok t.sort ((q a).starts t l b)

  row_ends_first : (a : A) (b : B) (t : Tok) → (Q a).whole [] b → by more t ≡ false → by m t ≡ false
  row_ends_first a b t w h = elim last [ inl s ↦ absurd (s a b w) | inr c ↦ cleared m more c t.sort h ]

  row_starts_second : (t : Tok) (l : List Tok) (k : BeginsSecond P Q (t ∷ l)) → ((k.front ≡ []) × (k.back ≡ t ∷ l)) ⊎ ((w : List Tok) × (k.front ≡ t ∷ w)) → first t.sort ≡ true
  row_starts_second t l k (inl e) = elim start [
    | inl s ↦ absurd (s k.value (subst (λ u. P.whole u k.value) e.0 k.first))
    | inr c ↦ along g first c t.sort ((q k.value).starts t l (subst (Q k.value).begins e.1 k.second))
  ]
  row_starts_second t l k (inr e) = along f first begins t.sort (p.starts t e.0 (subst P.begins e.1 (p.exact.whole_begins k.front k.value k.first)))

  row_starts : (t : Tok) (l : List Tok) → P.begins (t ∷ l) ⊎ BeginsSecond P Q (t ∷ l) → first t.sort ≡ true
  row_starts t l (inl b) = along f first begins t.sort (p.starts t l b)
  row_starts t l (inr k) = row_starts_second t l k (cons_parts t l k.front k.back k.parts)

  pub fit_row : Fit (row P Q) (read_row R S) first more
  fit_row = record {
    exact = exact_row P Q R S (by m) (by n) (by more) p.exact (λ a. (q a).exact) row_apart row_ends_first (λ t h. cleared n more ends t.sort h);
    starts = row_starts;
  }

module _ {A : Type 0} (P Q : Part_of A) (R S : Reader Tok A) (f m g n first more : Sort → Bool)
    (p : Fit P R f m) (q : Fit Q S g n) (sp : Solid P) (sq : Solid Q)
    (ok : every (bars g f) ≡ true)
    (ends_m : every (clears m more) ≡ true)
    (ends_n : every (clears n more) ≡ true)
    (begins_f : every (implies f first) ≡ true)
    (begins_g : every (implies g first) ≡ true) where
  stops_by : (l : Sort → Bool) → every (clears l more) ≡ true → (rest : List Tok) → Stops (by more) rest → Stops (by l) rest
  stops_by l c [] s = tt
  stops_by l c (t ∷ rest) s = cleared l more c t.sort s

  choice_whole_first : (u rest : List Tok) (a : A) → P.whole u a → Stops (by more) rest → (head_is (by f) (u ++ rest) ≡ true) × Stops (by m) rest
  choice_whole_first [] rest a w s = absurd (sp a w)
  choice_whole_first (t ∷ u) rest a w s = (p.starts t u (p.exact.whole_begins (t ∷ u) a w), stops_by m ends_m rest s)

  choice_whole_second : (u rest : List Tok) (a : A) → Q.whole u a → Stops (by more) rest → (head_is (by f) (u ++ rest) ≡ false) × Stops (by n) rest
  choice_whole_second [] rest a w s = absurd (sq a w)
  choice_whole_second (t ∷ u) rest a w s = (apart g f ok t.sort (q.starts t u (q.exact.whole_begins (t ∷ u) a w)), stops_by n ends_n rest s)

  choice_begins_first : (u rest : List Tok) → P.begins u → head_is (by f) (u ++ rest) ≡ false → Q.begins u
  choice_begins_first [] rest b e = q.exact.empty
  choice_begins_first (t ∷ u) rest b e = let yes = p.starts t u b in absurd cc

  choice_begins_second : (u rest : List Tok) → Q.begins u → head_is (by f) (u ++ rest) ≡ true → P.begins u
  choice_begins_second [] rest b e = p.exact.empty
  choice_begins_second (t ∷ u) rest b e = let no = apart g f ok t.sort (q.starts t u b) in absurd cc

  choice_starts : (t : Tok) (l : List Tok) → P.begins (t ∷ l) ⊎ Q.begins (t ∷ l) → first t.sort ≡ true
  choice_starts t l (inl b) = along f first begins_f t.sort (p.starts t l b)
  choice_starts t l (inr b) = along g first begins_g t.sort (q.starts t l b)

  pub fit_choice : Fit (choice P Q) (read_choice (head_is (by f)) R S) first more
  fit_choice = record {
    exact = exact_choice (head_is (by f)) P Q R S (by m) (by n) (by more) p.exact q.exact choice_whole_first choice_whole_second choice_begins_first choice_begins_second;
    starts = choice_starts;
  }

module _ {A : Type 0} (P : Part_of A) (R : Reader Tok A) (f m more : Sort → Bool) (p : Fit P R f m) (solid : Solid P)
    (ends_f : every (clears f more) ≡ true)
    (ends_m : every (clears m more) ≡ true) where
  pub fit_maybe : Fit (maybe P) (read_maybe (by f) R) f more
  fit_maybe = record {
    exact = exact_maybe (by f) P R (by m) (by more) p.exact p.starts solid (λ t h. (cleared f more ends_f t.sort h, cleared m more ends_m t.sort h));
    starts = p.starts;
  }

module _ {A : Type 0} (P : Part_of A) (R : Reader Tok A) (f m more : Sort → Bool) (p : Fit P R f m) (solid : Solid P)
    (ok : every (bars f m) ≡ true)
    (ends_f : every (clears f more) ≡ true)
    (ends_m : every (clears m more) ≡ true) where
  many_first : (t : Tok) (l front back : List Tok) (vs : List A) → WholeMany P front vs → P.begins back → t ∷ l ≡ front ++ back → f t.sort ≡ true
  many_first t l front back [] w b e = p.starts t l (subst P.begins (sym (e ∙ ap (λ (k : List Tok). k ++ back) w)) b)
  many_first t l front back (v ∷ vs) w b e =
      elim (cons_parts t l w.0 (w.1 ++ back) (e ∙ ap (λ (k : List Tok). k ++ back) w.2 ∙ append_assoc w.0 w.1 back)) [
        | inl k ↦ absurd (solid v (subst (λ u. P.whole u v) k.0 w.3))
        | inr k ↦ p.starts t k.0 (subst P.begins k.1 (p.exact.whole_begins w.0 v w.3))
      ]

  pub fit_many : Fit (many P) (read_many (by f) R) f more
  fit_many = record {
    exact = exact_many (by f) P R (by m) (by more) p.exact (λ t l b. (p.starts t l b, apart f m ok t.sort (p.starts t l b))) solid (λ t h. (cleared f more ends_f t.sort h, cleared m more ends_m t.sort h));
    starts = λ t l b. many_first t l b.front b.back b.values b.first b.second b.parts;
  }

pub fit_barred : {A : Type 0} (k : Sort) → Fit (barred {T = Tok} {A = A}) (read_barred (is k)) (same_sort k) none
fit_barred k = record { exact = exact_barred (is k); starts = λ t l b. absurd cc }

pub a_place : {A : Type 0} {P : Part_of A} {R : Reader Tok A} {f m : Sort → Bool} → Fit P R f m → Solid P → Fit (placed (λ t. t.place) P) (read_placed (λ t. t.place) R) f m
a_place {A} {P} {R} {f} {m} p s = record { exact = exact_placed (λ t. t.place) P R (by m) p.exact s; starts = p.starts }

pub solid_place : {A : Type 0} (P : Part_of A) → Solid P → Solid (placed (λ t. t.place) P)
solid_place P s v w = s v.1 w.1

pub a_same : {A : Type 0} {P Q : Part_of A} {R : Reader Tok A} {f m : Sort → Bool} → Same P Q → Fit P R f m → Fit Q R f m
a_same {A} {P} {Q} {R} {f} {m} s p = record { exact = exact_same P Q R (by m) s p.exact; starts = λ t l b. p.starts t l (s.begins_from (t ∷ l) b) }

pub solid_barred : {A : Type 0} → Solid (barred {T = Tok} {A = A})
solid_barred a w = w

-- ---- the same, with what the facts show left out

pub a_row : {A B : Type 0} {P : Part_of A} {Q : A → Part_of B} {R : Reader Tok A} {S : A → Reader Tok B} {f m g n : Sort → Bool} (first more : Sort → Bool)
    → Fit P R f m → ((a : A) → Fit (Q a) (S a) g n) → every (bars g m) ≡ true → every (clears n more) ≡ true
    → (((a : A) → Solid (Q a)) ⊎ (every (clears m more) ≡ true)) → every (implies f first) ≡ true → (Solid P ⊎ (every (implies g first) ≡ true))
    → Fit (row P Q) (read_row R S) first more
a_row {A} {B} {P} {Q} {R} {S} {f} {m} {g} {n} first more p q ok ends last begins start = fit_row P Q R S f m g n first more p q ok ends last begins start

pub a_choice : {A : Type 0} {P Q : Part_of A} {R S : Reader Tok A} {f m g n : Sort → Bool} (first more : Sort → Bool)
    → Fit P R f m → Fit Q S g n → Solid P → Solid Q → every (bars g f) ≡ true → every (clears m more) ≡ true → every (clears n more) ≡ true
    → every (implies f first) ≡ true → every (implies g first) ≡ true → Fit (choice P Q) (read_choice (head_is (by f)) R S) first more
a_choice {A} {P} {Q} {R} {S} {f} {m} {g} {n} first more p q sp sq ok a b c d = fit_choice P Q R S f m g n first more p q sp sq ok a b c d

pub a_maybe : {A : Type 0} {P : Part_of A} {R : Reader Tok A} {f m : Sort → Bool} (more : Sort → Bool)
    → Fit P R f m → Solid P → every (clears f more) ≡ true → every (clears m more) ≡ true → Fit (maybe P) (read_maybe (by f) R) f more
a_maybe {A} {P} {R} {f} {m} more p sp a b = fit_maybe P R f m more p sp a b

pub a_many : {A : Type 0} {P : Part_of A} {R : Reader Tok A} {f m : Sort → Bool} (more : Sort → Bool)
    → Fit P R f m → Solid P → every (bars f m) ≡ true → every (clears f more) ≡ true → every (clears m more) ≡ true → Fit (many P) (read_many (by f) R) f more
a_many {A} {P} {R} {f} {m} more p sp ok a b = fit_many P R f m more p sp ok a b

pub a_meaning : {A B : Type 0} (h : A → B) {P : Part_of A} {R : Reader Tok A} {f m : Sort → Bool} → Fit P R f m → Fit (means h P) (read_as h R) f m
a_meaning h {P} {R} {f} {m} p = fit_means h P R f m p

-- a part that isn't empty leaves less
pub shrinks : {A : Type 0} {P : Part_of A} {R : Reader Tok A} {f m : Sort → Bool} → Fit P R f m → Solid P → Shrinks R
shrinks p s = shrinks_exact p.exact s

pub solid_choice_of : {A : Type 0} (P Q : Part_of A) → Solid P → Solid Q → Solid (choice P Q)
solid_choice_of P Q p q a w = elim w [ inl k ↦ p a k | inr k ↦ q a k ]

-- ---- a part behind a token, and before one

pub a_behind : {A : Type 0} {P : Part_of A} {R : Reads A} {f m : Sort → Bool} (k : Sort) → Fit P R f m → Solid P → every (bars f none) ≡ true → every (clears m m) ≡ true → every (implies (same_sort k) (same_sort k)) ≡ true → Fit (behind k P) (read_behind k R) (same_sort k) m
a_behind {A} {P} {R} {f} {m} k p sp a b c = a_meaning (λ (v : Tok × A). v.1) (a_row (same_sort k) m (fit_sign k) (λ _. p) a b (inl (λ _. sp)) c (inl (solid_sign k)))

pub solid_behind : {A : Type 0} (k : Sort) (P : Part_of A) → Solid (behind k P)
solid_behind k P = solid_means (λ v. v.1) (pair (sign k) P) (solid_row_first (sign k) (λ _. P) (solid_sign k))

pub a_before : {A : Type 0} {P : Part_of A} {R : Reads A} {f m : Sort → Bool} (k : Sort) → Fit P R f m → Solid P → every (bars (same_sort k) m) ≡ true → every (clears none none) ≡ true → every (implies f f) ≡ true → Fit (before P k) (read_before R k) f none
a_before {A} {P} {R} {f} {m} k p sp a b c = a_meaning (λ (v : A × Tok). v.0) (a_row f none p (λ _. fit_sign k) a b (inl (λ _. solid_sign k)) c (inl sp))

pub solid_before : {A : Type 0} (P : Part_of A) (k : Sort) → Solid (before P k)
solid_before P k = solid_means (λ v. v.0) (pair P (sign k)) (solid_row_second P (λ _. sign k) (λ _. solid_sign k))

-- ---- lists

pub a_list : {A : Type 0} {P Q : Part_of A} {R S : Reads A} {f m g n : Sort → Bool} (more : Sort → Bool)
    → Fit P R f m → Solid P → Fit Q S g n → Solid Q → every (bars g m) ≡ true → every (bars g n) ≡ true → every (clears g more) ≡ true → every (clears n more) ≡ true → every (clears m more) ≡ true → every (clears more more) ≡ true → every (implies f f) ≡ true → Fit (listed P Q) (read_listed g R S) f more
a_list {A} {P} {Q} {R} {S} {f} {m} {g} {n} more p sp q sq a b c d e h k =
    a_meaning (λ (v : A × List A). v.0 ∷ v.1) (a_row f more p (λ _. a_many more q sq b c d) a h (inr e) k (inl sp))

pub solid_listed : {A : Type 0} (P Q : Part_of A) → Solid P → Solid (listed P Q)
solid_listed P Q p = solid_means (λ v. v.0 ∷ v.1) (pair P (many Q)) (solid_row_first P (λ _. many Q) p)

-- ---- names

pub fit_upper : Fit upper upper_at (same_sort s.Upper) none
unfolding upper_at
fit_upper = a_meaning name_of (fit_sign s.Upper)

pub solid_upper : Solid upper
solid_upper = solid_means name_of (sign s.Upper) (solid_sign s.Upper)

pub fit_lower : Fit lower lower_at (same_sort s.Lower) none
unfolding lower_at
fit_lower = a_meaning name_of (fit_sign s.Lower)

pub solid_lower : Solid lower
solid_lower = solid_means name_of (sign s.Lower) (solid_sign s.Lower)

pub fit_comma_upper : Fit (behind s.Comma upper) comma_upper_at (same_sort s.Comma) none
unfolding same_sort comma_upper_at
fit_comma_upper = a_behind s.Comma fit_upper solid_upper refl refl refl

pub fit_names : Fit names names_at (same_sort s.Upper) (same_sort s.Comma)
unfolding same_sort names_at
fit_names = a_list (same_sort s.Comma) fit_upper solid_upper fit_comma_upper (solid_behind s.Comma upper) refl refl refl refl refl refl refl

pub solid_names : Solid names
solid_names = solid_listed upper (behind s.Comma upper) solid_upper
