-- With one more bracket each part of the grammar reads the same, or more.
use Rattle.std.proofs.Common.{ℕ, zero, suc, false, inl, List, [], refl}
use Rattle.fun_meaning.specs.declared.tree.Expr.{Expr}
use Rattle.dactl_terminals.specs.declared.token.Sort.TheVariants as s
use Rattle.dactl_terminals.specs.Sort.{same_sort}
use Rattle.fun_syntax.specs.Sort.{starts_expr}
use Rattle.dactl_grammar.specs.Grammar.{many, means, barred}
use Rattle.dactl_grammar.specs.Reader.{head_is, read_many}
use Rattle.dactl_terminals.specs.Parts.{Part_of, is, behind, before}
use Rattle.fun_syntax.specs.Productions.{given_of, given, variable_of, integer_of, made_of, expr, args, equation_of, equation, constructors, asked, joined, fun_of, fun}
use Rattle.dactl_terminals.specs.Reads.{Reads, by, read_behind, read_before}
use Rattle.fun_syntax.specs.Reading.{read_given, read_expr, args_at, given_at, expr_at, right_at, equation_at, equations_at, data_at, constructors_at, asked_at, fun_at}
use Rattle.fun_syntax.specs.Answer.{is_bracket}
use Rattle.dactl_terminals.proofs.Fits.{Fit, Solid, a_many, fit_upper, fit_names}
use Rattle.fun_syntax.proofs.Parts.{goes_on_args, fit_expr, solid_expr, fit_args, solid_args, fit_given_at, fit_expr_at, fit_data, fit_constructors, right, fit_equation, fit_equations}
use Rattle.dactl_grammar.proofs.Grows.{Grows, grows_means, grows_barred}
use Rattle.dactl_terminals.proofs.Grown.{g_sign, g_row, g_choice, g_maybe, g_many, g_behind, g_before, g_upper, g_lower, g_names}

abbrev pub Grown : {A : Type 0} → Part_of A → Reads A → Part_of A → Reads A → Type 0
Grown P R P' R' = Grows is_bracket P R P' R'

-- ---- expressions

module _ (P P' : Part_of (List Expr)) (R R' : Reads (List Expr)) (fit : Fit P R (same_sort s.Open) (λ _. false)) (solid : Solid P) (g : Grown P R P' R') where
  pub g_given : Grown (given P) (read_given R) (given P') (read_given R')
  g_given = grows_means given_of (g_maybe (same_sort s.Open) fit g)

  pub g_expr : Grown (expr P) (read_expr R) (expr P') (read_expr R')
  g_expr = g_choice (head_is (by (same_sort s.Lower))) (grows_means variable_of g_lower)
      (g_choice (head_is (by (same_sort s.Integer))) (grows_means integer_of (g_sign s.Integer)) (grows_means made_of (g_row fit_upper g_upper (λ _. g_given))))

  pub g_bracket : Grown (behind s.Open (before (many (expr P)) s.Close)) (read_behind s.Open (read_before (read_many (by starts_expr) (read_expr R)) s.Close)) (behind s.Open (before (many (expr P')) s.Close)) (read_behind s.Open (read_before (read_many (by starts_expr) (read_expr R')) s.Close))
  unfolding same_sort
  g_bracket = g_behind s.Open (g_before s.Close (a_many goes_on_args (fit_expr P R fit solid) (solid_expr P R fit solid) refl refl refl) (g_many starts_expr (fit_expr P R fit solid) g_expr))

g_args : (n : ℕ) → Grown (args n) (args_at n) (args (suc n)) (args_at (suc n))
unfolding args args_at
g_args zero = grows_barred is_bracket (is s.Open) (λ v. v.1) (λ _. before (many (expr barred)) s.Close) (λ _. read_before (read_many (by starts_expr) (read_expr (args_at zero))) s.Close) (λ _. inl record { front = []; back = []; values = []; parts = refl; first = refl; second = inl tt }) (λ t h. h)
g_args (suc n) = g_bracket (args n) (args (suc n)) (args_at n) (args_at (suc n)) (fit_args n) (solid_args n) (g_args n)

g_given_at : (n : ℕ) → Grown (given (args n)) (given_at n) (given (args (suc n))) (given_at (suc n))
unfolding given_at
g_given_at n = g_given (args n) (args (suc n)) (args_at n) (args_at (suc n)) (fit_args n) (solid_args n) (g_args n)

g_expr_at : (n : ℕ) → Grown (expr (args n)) (expr_at n) (expr (args (suc n))) (expr_at (suc n))
unfolding expr_at
g_expr_at n = g_expr (args n) (args (suc n)) (args_at n) (args_at (suc n)) (fit_args n) (solid_args n) (g_args n)

-- ---- constructors and equations

g_data : Grown constructors data_at constructors data_at
unfolding data_at
g_data = g_behind s.Data (g_before s.Semicolon fit_names g_names)

g_constructors : Grown (means joined (many constructors)) constructors_at (means joined (many constructors)) constructors_at
unfolding constructors_at
g_constructors = grows_means joined (g_many (same_sort s.Data) fit_data g_data)

g_right : (n : ℕ) → Grown (right n) (right_at n) (right (suc n)) (right_at (suc n))
unfolding right_at
g_right n = g_behind s.Equals (g_before s.Semicolon (fit_expr_at n) (g_expr_at n))

g_equation : (n : ℕ) → Grown (equation n) (equation_at n) (equation (suc n)) (equation_at (suc n))
unfolding equation_at
g_equation n = grows_means equation_of (g_row fit_upper g_upper (λ _. g_row (fit_given_at n) (g_given_at n) (λ _. g_right n)))

g_equations : (n : ℕ) → Grown (many (equation n)) (equations_at n) (many (equation (suc n))) (equations_at (suc n))
unfolding equations_at
g_equations n = g_many (same_sort s.Upper) (fit_equation n) (g_equation n)

g_asked : (n : ℕ) → Grown (asked n) (asked_at n) (asked (suc n)) (asked_at (suc n))
unfolding asked_at
g_asked n = g_behind s.Main (g_right n)

pub g_fun : (n : ℕ) → Grown (fun n) (fun_at n) (fun (suc n)) (fun_at (suc n))
unfolding fun_at
g_fun n = grows_means fun_of (g_row fit_constructors g_constructors (λ _. g_row (fit_equations n) (g_equations n) (λ _. g_asked n)))
