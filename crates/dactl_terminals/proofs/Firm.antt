-- Readers of parts that aren't empty: the reader fits the part, and the part has no empty text.
use Rattle.std.proofs.Common.{◌≡◌, Bool, true, false, cond, inl, inr, [], refl}
use Rattle.std.specs.Prelude.{◌||◌}
use Rattle.dactl_terminals.specs.declared.token.Sort.{Sort}
use Rattle.dactl_terminals.specs.declared.token.Sort.TheVariants as s
use Rattle.dactl_terminals.specs.Sort.{same_sort}
use Rattle.dactl_grammar.specs.Grammar.{row, choice, maybe, many, means, barred, placed}
use Rattle.dactl_grammar.specs.Reader.{head_is, read_row, read_as, read_choice, read_maybe, read_many, read_barred, read_placed}
use Rattle.dactl_terminals.specs.Parts.{Tok, Part_of, is, sign, behind, before, listed, upper, lower, names}
use Rattle.dactl_terminals.specs.Reads.{Reads, by, read_sign, read_behind, read_before, read_listed, upper_at, lower_at, comma_upper_at, names_at}
use Rattle.dactl_grammar.proofs.Same.{Same}
use Rattle.dactl_grammar.proofs.Loop.{Shrinks}
use Rattle.dactl_terminals.proofs.Sorts.{every, every_of, bars, implies, clears}
use Rattle.dactl_terminals.proofs.Fits.{none, Solid, Fit, fit_sign, solid_sign, solid_means, solid_row_first, solid_row_second, fit_barred, solid_barred, a_place, solid_place, a_same, a_row, a_choice, a_maybe, a_many, a_meaning, shrinks, solid_choice_of, a_behind, solid_behind, a_before, solid_before, a_list, solid_listed, fit_upper, solid_upper, fit_lower, solid_lower, fit_comma_upper, fit_names, solid_names}

pub record Firm {A : Type 0} (P : Part_of A) (R : Reads A) (first more : Sort → Bool) : Type 0 where
  pub fit : Fit P R first more
  pub solid : Solid P

pub firm_shrinks : {A : Type 0} {P : Part_of A} {R : Reads A} {f m : Sort → Bool} → Firm P R f m → Shrinks R
firm_shrinks p = shrinks p.fit p.solid

pub firm_sign : (k : Sort) → Firm (sign k) (read_sign k) (same_sort k) none
firm_sign k = record { fit = fit_sign k; solid = solid_sign k }

pub firm_barred : {A : Type 0} (k : Sort) → Firm (barred {T = Tok} {A = A}) (read_barred (is k)) (same_sort k) none
firm_barred k = record { fit = fit_barred k; solid = solid_barred }

pub firm_as : {A B : Type 0} (h : A → B) {P : Part_of A} {R : Reads A} {f m : Sort → Bool} → Firm P R f m → Firm (means h P) (read_as h R) f m
firm_as h {P} p = record { fit = a_meaning h p.fit; solid = solid_means h P p.solid }

pub firm_place : {A : Type 0} {P : Part_of A} {R : Reads A} {f m : Sort → Bool} → Firm P R f m → Firm (placed (λ t. t.place) P) (read_placed (λ t. t.place) R) f m
firm_place {A} {P} p = record { fit = a_place p.fit p.solid; solid = solid_place P p.solid }

pub firm_same : {A : Type 0} {P Q : Part_of A} {R : Reads A} {f m : Sort → Bool} → Same P Q → Firm P R f m → Firm Q R f m
firm_same {A} {P} {Q} s p = record { fit = a_same s p.fit; solid = λ a w. p.solid a (s.whole_from [] a w) }

-- ---- rows

-- a part, and behind it one that may be empty
pub firm_row : {A B : Type 0} {P : Part_of A} {Q : A → Part_of B} {R : Reads A} {S : A → Reads B} {f m g n : Sort → Bool} → Firm P R f m → ((a : A) → Fit (Q a) (S a) g n)
    → every (bars g m) ≡ true → every (clears n n) ≡ true → every (clears m n) ≡ true → every (implies f f) ≡ true → Firm (row P Q) (read_row R S) f n
firm_row {A} {B} {P} {Q} {R} {S} {f} {m} {g} {n} p q a b c d = record { fit = a_row f n p.fit q a b (inr c) d (inl p.solid); solid = solid_row_first P Q p.solid }

pub firm_pair : {A B : Type 0} {P : Part_of A} {Q : A → Part_of B} {R : Reads A} {S : A → Reads B} {f m g n : Sort → Bool} → Firm P R f m → ((a : A) → Firm (Q a) (S a) g n)
    → every (bars g m) ≡ true → every (clears n n) ≡ true → every (implies f f) ≡ true → Firm (row P Q) (read_row R S) f n
firm_pair {A} {B} {P} {Q} {R} {S} {f} {m} {g} {n} p q a b c = record { fit = a_row f n p.fit (λ x. (q x).fit) a b (inl (λ x. (q x).solid)) c (inl p.solid); solid = solid_row_first P Q p.solid }

-- a part behind one that may be empty
pub firm_after : {A B : Type 0} {P : Part_of A} {Q : A → Part_of B} {R : Reads A} {S : A → Reads B} {f m g n : Sort → Bool} (first : Sort → Bool) → Fit P R f m → ((a : A) → Firm (Q a) (S a) g n)
    → every (bars g m) ≡ true → every (clears n n) ≡ true → every (implies f first) ≡ true → every (implies g first) ≡ true → Firm (row P Q) (read_row R S) first n
firm_after {A} {B} {P} {Q} {R} {S} {f} {m} {g} {n} first p q a b c d = record { fit = a_row first n p (λ x. (q x).fit) a b (inl (λ x. (q x).solid)) c (inr d); solid = solid_row_second P Q (λ x. (q x).solid) }

pub firm_behind : {A : Type 0} {P : Part_of A} {R : Reads A} {f m : Sort → Bool} (k : Sort) → Firm P R f m
    → every (bars f none) ≡ true → every (clears m m) ≡ true → every (implies (same_sort k) (same_sort k)) ≡ true → Firm (behind k P) (read_behind k R) (same_sort k) m
firm_behind {A} {P} k p a b c = record { fit = a_behind k p.fit p.solid a b c; solid = solid_behind k P }

pub firm_before : {A : Type 0} {P : Part_of A} {R : Reads A} {f m : Sort → Bool} (k : Sort) → Firm P R f m
    → every (bars (same_sort k) m) ≡ true → every (clears none none) ≡ true → every (implies f f) ≡ true → Firm (before P k) (read_before R k) f none
firm_before {A} {P} k p a b c = record { fit = a_before k p.fit p.solid a b c; solid = solid_before P k }

-- ---- choices, and what may be left out

pub firm_choice : {A : Type 0} {P Q : Part_of A} {R S : Reads A} {f m g n : Sort → Bool} (first more : Sort → Bool) → Firm P R f m → Firm Q S g n
    → every (bars g f) ≡ true → every (clears m more) ≡ true → every (clears n more) ≡ true → every (implies f first) ≡ true → every (implies g first) ≡ true
    → Firm (choice P Q) (read_choice (head_is (by f)) R S) first more
firm_choice {A} {P} {Q} first more p q a b c d e = record { fit = a_choice first more p.fit q.fit p.solid q.solid a b c d e; solid = solid_choice_of P Q p.solid q.solid }

-- it starts where either starts
pub firm_or : {A : Type 0} {P Q : Part_of A} {R S : Reads A} {f m g n : Sort → Bool} (more : Sort → Bool) → Firm P R f m → Firm Q S g n
    → every (bars g f) ≡ true → every (clears m more) ≡ true → every (clears n more) ≡ true → Firm (choice P Q) (read_choice (head_is (by f)) R S) (λ t. f t || g t) more
firm_or {A} {P} {Q} {R} {S} {f} {m} {g} {n} more p q a b c = firm_choice (λ t. f t || g t) more p q a b c (every_of (implies f (λ t. f t || g t)) (λ t. first (f t) (g t))) (every_of (implies g (λ t. f t || g t)) (λ t. second (f t) (g t)))
  where
    first : (a b : Bool) → cond a (a || b) true ≡ true
    first true b = refl
    first false b = refl

    second : (a b : Bool) → cond b (a || b) true ≡ true
    second true true = refl
    second true false = refl
    second false true = refl
    second false false = refl

pub fit_option : {A : Type 0} {P : Part_of A} {R : Reads A} {f m : Sort → Bool} (more : Sort → Bool) → Firm P R f m → every (clears f more) ≡ true → every (clears m more) ≡ true → Fit (maybe P) (read_maybe (by f) R) f more
fit_option more p a b = a_maybe more p.fit p.solid a b

pub fit_repeat : {A : Type 0} {P : Part_of A} {R : Reads A} {f m : Sort → Bool} (more : Sort → Bool) → Firm P R f m → every (bars f m) ≡ true → every (clears f more) ≡ true → every (clears m more) ≡ true → Fit (many P) (read_many (by f) R) f more
fit_repeat more p a b c = a_many more p.fit p.solid a b c

pub firm_list : {A : Type 0} {P Q : Part_of A} {R S : Reads A} {f m g n : Sort → Bool} (more : Sort → Bool) → Firm P R f m → Firm Q S g n
    → every (bars g m) ≡ true → every (bars g n) ≡ true → every (clears g more) ≡ true → every (clears n more) ≡ true → every (clears m more) ≡ true → every (clears more more) ≡ true → every (implies f f) ≡ true → Firm (listed P Q) (read_listed g R S) f more
firm_list {A} {P} {Q} more p q a b c d e h k = record { fit = a_list more p.fit p.solid q.fit q.solid a b c d e h k; solid = solid_listed P Q p.solid }

-- ---- names

pub firm_upper : Firm upper upper_at (same_sort s.Upper) none
firm_upper = record { fit = fit_upper; solid = solid_upper }

pub firm_lower : Firm lower lower_at (same_sort s.Lower) none
firm_lower = record { fit = fit_lower; solid = solid_lower }

pub firm_comma_upper : Firm (behind s.Comma upper) comma_upper_at (same_sort s.Comma) none
firm_comma_upper = record { fit = fit_comma_upper; solid = solid_behind s.Comma upper }

pub firm_names : Firm names names_at (same_sort s.Upper) (same_sort s.Comma)
firm_names = record { fit = fit_names; solid = solid_names }
