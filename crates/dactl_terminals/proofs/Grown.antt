-- With one more bracket each form of grammar reads the same, or more.
use Rattle.std.proofs.Common.{Bool, List, ◌∷◌}
use Rattle.dactl_grammar.specs.Grammar.{row, choice, maybe, many}
use Rattle.dactl_grammar.specs.Reader.{read_row, read_choice, read_maybe, read_many}
use Rattle.dactl_grammar.proofs.Grows.{Grows, grows_one, grows_means, grows_row, grows_choice, grows_maybe, grows_many}
use Rattle.dactl_terminals.specs.declared.token.Sort.{Sort}
use Rattle.dactl_terminals.specs.declared.token.Sort.TheVariants as s
use Rattle.dactl_terminals.specs.Sort.{same_sort}
use Rattle.dactl_terminals.specs.Parts.{Tok, Part_of, is, sign, behind, before, listed, name_of, upper, lower, names}
use Rattle.dactl_terminals.specs.Reads.{Reads, by, read_sign, read_behind, read_before, read_listed, upper_at, lower_at, comma_upper_at, names_at}
use Rattle.dactl_terminals.proofs.Fits.{Fit, fit_sign, fit_upper, fit_comma_upper}

pub g_sign : {c : Tok → Bool} (k : Sort) → Grows c (sign k) (read_sign k) (sign k) (read_sign k)
g_sign {c} k = grows_one c (is k)

pub g_row : {c : Tok → Bool} {A B : Type 0} {P P' : Part_of A} {Q Q' : A → Part_of B} {R R' : Reads A} {S S' : A → Reads B} {f m : Sort → Bool}
    → Fit P R f m → Grows c P R P' R' → ((a : A) → Grows c (Q a) (S a) (Q' a) (S' a)) → Grows c (row P Q) (read_row R S) (row P' Q') (read_row R' S')
g_row {c} {A} {B} {P} {P'} {Q} {Q'} {R} {R'} {S} {S'} p g h = grows_row c P P' Q Q' R R' S S' p.exact.sound g h

pub g_choice : {c : Tok → Bool} {A : Type 0} (d : List Tok → Bool) {P P' Q Q' : Part_of A} {R R' S S' : Reads A} → Grows c P R P' R' → Grows c Q S Q' S' → Grows c (choice P Q) (read_choice d R S) (choice P' Q') (read_choice d R' S')
g_choice {c} d {P} {P'} {Q} {Q'} {R} {R'} {S} {S'} g h = grows_choice c d P P' Q Q' R R' S S' g h

pub g_maybe : {c : Tok → Bool} {A : Type 0} (d : Sort → Bool) {P P' : Part_of A} {R R' : Reads A} {f m : Sort → Bool} → Fit P R f m → Grows c P R P' R' → Grows c (maybe P) (read_maybe (by d) R) (maybe P') (read_maybe (by d) R')
g_maybe {c} d {P} {P'} {R} {R'} p g = grows_maybe c (by d) P P' R R' p.exact.sound g

pub g_many : {c : Tok → Bool} {A : Type 0} (d : Sort → Bool) {P P' : Part_of A} {R R' : Reads A} {f m : Sort → Bool} → Fit P R f m → Grows c P R P' R' → Grows c (many P) (read_many (by d) R) (many P') (read_many (by d) R')
g_many {c} d {P} {P'} {R} {R'} p g = grows_many c (by d) P P' R R' p.exact.sound g

pub g_behind : {c : Tok → Bool} {A : Type 0} (k : Sort) {P P' : Part_of A} {R R' : Reads A} → Grows c P R P' R' → Grows c (behind k P) (read_behind k R) (behind k P') (read_behind k R')
g_behind {c} {A} k g = grows_means (λ (v : Tok × A). v.1) (g_row (fit_sign k) (g_sign k) (λ _. g))

pub g_before : {c : Tok → Bool} {A : Type 0} (k : Sort) {P P' : Part_of A} {R R' : Reads A} {f m : Sort → Bool} → Fit P R f m → Grows c P R P' R' → Grows c (before P k) (read_before R k) (before P' k) (read_before R' k)
g_before {c} {A} k p g = grows_means (λ (v : A × Tok). v.0) (g_row p g (λ _. g_sign k))

pub g_upper : {c : Tok → Bool} → Grows c upper upper_at upper upper_at
unfolding upper_at
g_upper = grows_means name_of (g_sign s.Upper)

pub g_lower : {c : Tok → Bool} → Grows c lower lower_at lower lower_at
unfolding lower_at
g_lower = grows_means name_of (g_sign s.Lower)

pub g_list : {c : Tok → Bool} {A : Type 0} (d : Sort → Bool) {P P' Q Q' : Part_of A} {R R' S S' : Reads A} {f m g n : Sort → Bool} → Fit P R f m → Grows c P R P' R' → Fit Q S g n → Grows c Q S Q' S' → Grows c (listed P Q) (read_listed d R S) (listed P' Q') (read_listed d R' S')
g_list {c} {A} d p g q h = grows_means (λ (v : A × List A). v.0 ∷ v.1) (g_row p g (λ _. g_many d q h))

pub g_names : {c : Tok → Bool} → Grows c names names_at names names_at
unfolding names_at comma_upper_at
g_names = g_list (same_sort s.Comma) fit_upper g_upper fit_comma_upper (g_behind s.Comma g_upper)
