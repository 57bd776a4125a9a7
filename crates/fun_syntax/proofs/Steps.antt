-- What the loops and the steps over brackets cite.
use Rattle.std.proofs.Common.{◌≡◌, ℕ, zero, suc, ◌-◌, ◌<◌, true, false, List, [], ◌∷◌, ◌++◌, Ok, Err, refl, sym, ap, subst, ◌∙◌, append_assoc, arith}
use Rattle.std.proofs.lemmas.List.{append-nil}
use Rattle.dactl_meaning.specs.declared.tree.Name.{Name}
use Rattle.dactl_terminals.specs.declared.token.Sort.TheVariants as s
use Rattle.dactl_terminals.specs.Sort.{same_sort}
use Rattle.fun_syntax.specs.Sort.{starts_expr}
use Rattle.dactl_grammar.specs.declared.fault.ReadError.{ReadError}
use Rattle.dactl_grammar.specs.declared.fault.ReadError.TheVariants as errors
use Rattle.dactl_grammar.specs.Giving.{Fails}
use Rattle.dactl_grammar.specs.Reader.{Outcome, ◌>>=◌, head_is, read_many}
use Rattle.dactl_terminals.specs.Parts.{Tok}
use Rattle.fun_syntax.specs.Productions.{joined}
use Rattle.dactl_terminals.specs.Reads.{by, read_behind, read_before}
use Rattle.fun_syntax.specs.Reading.{expr_at, args_at, equation_at, data_at, constructors_at}
use Rattle.dactl_terminals.proofs.Fits.{shrinks}
use Rattle.fun_syntax.proofs.Parts.{fit_expr_at, solid_expr_at, fit_equation, solid_equation, fit_data, solid_data}
use Rattle.dactl_grammar.proofs.Loop.{Shrinks, with_front, goes_on, ends, is_done}

pub expr_shrinks : (n : ℕ) → Shrinks (expr_at n)
expr_shrinks n = shrinks (fit_expr_at n) (solid_expr_at n)

pub equation_shrinks : (n : ℕ) → Shrinks (equation_at n)
equation_shrinks n = shrinks (fit_equation n) (solid_equation n)

pub data_shrinks : Shrinks data_at
data_shrinks = shrinks fit_data solid_data

-- brackets may still be opened
pub args_step : (n : ℕ) → 0 < n → (l : List Tok) → args_at n l ≡ read_behind s.Open (read_before (read_many (by starts_expr) (expr_at (n - 1))) s.Close) l
unfolding args_at expr_at
args_step zero h l = absurd (omega arith)
args_step (suc n) h l = let e : suc n - 1 ≡ n = omega arith in rw e refl

-- ---- the loop over `DATA`

-- names that were read, and those that reading gives
abbrev pub with_names : List Name → Outcome Tok (List Name) → Outcome Tok (List Name)
with_names found read = read >>= λ x. Ok (found ++ x.0, x.1)

add_names : (found names : List Name) (read : Outcome Tok (List Name)) → with_names found (with_names names read) ≡ with_names (found ++ names) read
add_names found names (Ok x) = ap (λ (k : List Name). Ok (k, x.1)) (sym (append_assoc found names x.0))
add_names found names (Err f) = refl

-- one turn
turn : (l rest : List Tok) (names : List Name) → head_is (by (same_sort s.Data)) l ≡ true → data_at l ≡ Ok (names, rest) → constructors_at l ≡ with_names names (constructors_at rest)
unfolding constructors_at
turn l rest names h e = at (read_many (by (same_sort s.Data)) data_at rest) (read_many (by (same_sort s.Data)) data_at l) (goes_on (by (same_sort s.Data)) data_at data_shrinks [] l names rest (with_front [] (read_many (by (same_sort s.Data)) data_at l)) h e refl)
  where
    at : (r total : Outcome Tok (List (List Name))) → with_front (names ∷ []) r ≡ with_front [] total → (total >>= (λ x. Ok (joined x.0, x.1))) ≡ with_names names (r >>= (λ x. Ok (joined x.0, x.1)))
    at (Ok x) (Ok y) e = let a : y.0 ≡ names ∷ x.0 = cc in let b : y.1 ≡ x.1 = cc in rw (a, b) refl
    at (Ok x) (Err f) e = absurd cc
    at (Err f) (Ok x) e = absurd cc
    at (Err f) (Err g) e = let same : f ≡ g = cc in rw same refl

pub more_data : (found : List Name) (l rest : List Tok) (names : List Name) (total : Outcome Tok (List Name)) → head_is (by (same_sort s.Data)) l ≡ true → data_at l ≡ Ok (names, rest)
    → with_names found (constructors_at l) ≡ total → with_names (found ++ names) (constructors_at rest) ≡ total
more_data found l rest names total h e so_far = sym (add_names found names (constructors_at rest)) ∙ ap (with_names found) (sym (turn l rest names h e)) ∙ so_far

front_none : {A : Type 0} (read : Outcome Tok (List A)) → with_front [] read ≡ read
front_none (Ok x) = refl
front_none (Err f) = refl

fails_on : (e : ReadError) (found : List Name) (l : List Tok) → Fails e (read_many (by (same_sort s.Data)) data_at l) → Fails e (with_names found (constructors_at l))
unfolding constructors_at
fails_on errors.Memory found l h = tt
fails_on (errors.Fault f) found l h = rw h refl

pub bad_data : (e : ReadError) (found : List Name) (l : List Tok) (total : Outcome Tok (List Name)) → head_is (by (same_sort s.Data)) l ≡ true → Fails e (data_at l)
    → with_names found (constructors_at l) ≡ total → Fails e total
bad_data e found l total h fails so_far =
    subst (Fails e) so_far (fails_on e found l (ends (by (same_sort s.Data)) data_at data_shrinks e [] l (read_many (by (same_sort s.Data)) data_at l) h fails (front_none (read_many (by (same_sort s.Data)) data_at l))))

pub no_data : (found : List Name) (l : List Tok) (total : Outcome Tok (List Name)) → head_is (by (same_sort s.Data)) l ≡ false → with_names found (constructors_at l) ≡ total → total ≡ Ok (found, l)
unfolding constructors_at
no_data found l total h so_far =
    let none : read_many (by (same_sort s.Data)) data_at l ≡ Ok ([], l) = is_done (by (same_sort s.Data)) data_at data_shrinks [] l (read_many (by (same_sort s.Data)) data_at l) h (front_none (read_many (by (same_sort s.Data)) data_at l)) in
    sym so_far ∙ rw none (ap (λ (k : List Name). Ok (k, l)) (append-nil found))

pub from_none : (l : List Tok) → with_names [] (constructors_at l) ≡ constructors_at l
from_none l = at (constructors_at l)
  where
    at : (r : Outcome Tok (List Name)) → with_names [] r ≡ r
    at (Ok x) = refl
    at (Err f) = refl
