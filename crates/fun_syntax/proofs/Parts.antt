-- Reading equations is exact for their grammar.
use Rattle.std.proofs.Common.{ℕ, zero, suc, Bool, inl, inr, List, refl}
use Rattle.std.specs.Prelude.{◌||◌}
use Rattle.fun_meaning.specs.declared.tree.Expr.{Expr}
use Rattle.dactl_terminals.specs.declared.token.Sort.{Sort}
use Rattle.dactl_terminals.specs.declared.token.Sort.TheVariants as s
use Rattle.dactl_terminals.specs.Sort.{same_sort}
use Rattle.fun_syntax.specs.Sort.{starts_expr}
use Rattle.dactl_grammar.specs.Grammar.{choice, many, means}
use Rattle.dactl_grammar.specs.Reader.{read_many}
use Rattle.dactl_terminals.specs.Parts.{Tok, Part_of, sign, behind, before, pair, separated, upper, lower}
use Rattle.fun_syntax.specs.Productions.{given_of, given, variable_of, integer_of, made_of, expr, args, equation_of, equation, constructors, asked, joined, fun_of, fun}
use Rattle.dactl_terminals.specs.Reads.{Reads, by, read_behind, read_before}
use Rattle.fun_syntax.specs.Reading.{read_given, read_expr, args_at, given_at, expr_at, right_at, equation_at, equations_at, data_at, constructors_at, asked_at, fun_at}
use Rattle.dactl_terminals.proofs.Fits.{none, Solid, Fit, fit_sign, solid_sign, solid_means, solid_row_first, solid_row_second, fit_barred, solid_barred, a_row, a_choice, a_maybe, a_many, a_meaning, solid_choice_of, a_behind, solid_behind, a_before, solid_before, fit_upper, fit_lower, solid_upper, solid_lower, fit_names, solid_names}

-- ---- expressions

-- the tokens that begin an argument or open brackets
abbrev pub goes_on_args : Sort → Bool
goes_on_args t = starts_expr t || same_sort s.Open t

abbrev starts_arg_or_close : Sort → Bool
starts_arg_or_close t = starts_expr t || same_sort s.Close t

abbrev starts_solid : Sort → Bool
starts_solid t = same_sort s.Integer t || same_sort s.Upper t

-- what stands within brackets is given
module _ (inner : Part_of (List Expr)) (read : Reads (List Expr)) (fit : Fit inner read (same_sort s.Open) none) (solid : Solid inner) where
  pub fit_given : Fit (given inner) (read_given read) (same_sort s.Open) (same_sort s.Open)
  unfolding same_sort
  fit_given = a_meaning given_of (a_maybe (same_sort s.Open) fit solid refl refl)

  abbrev a_variable : Part_of Expr
  a_variable = means variable_of lower

  abbrev an_integer : Part_of Expr
  an_integer = means integer_of (sign s.Integer)

  abbrev a_made : Part_of Expr
  a_made = means made_of (pair upper (given inner))

  solid_variable : Solid a_variable
  solid_variable = solid_means variable_of lower solid_lower

  solid_integer : Solid an_integer
  solid_integer = solid_means integer_of (sign s.Integer) (solid_sign s.Integer)

  solid_made : Solid a_made
  solid_made = solid_means made_of (pair upper (given inner)) (solid_row_first upper (λ _. given inner) solid_upper)

  solid_rest : Solid (choice an_integer a_made)
  solid_rest = solid_choice_of an_integer a_made solid_integer solid_made

  pub fit_expr : Fit (expr inner) (read_expr read) starts_expr (same_sort s.Open)
  unfolding same_sort
  fit_expr = a_choice starts_expr (same_sort s.Open)
      (a_meaning variable_of fit_lower)
      (a_choice starts_solid (same_sort s.Open) (a_meaning integer_of (fit_sign s.Integer))
      (a_meaning made_of (a_row (same_sort s.Upper) (same_sort s.Open) fit_upper (λ _. fit_given) refl refl (inr refl) refl (inl solid_upper)))
      solid_integer solid_made refl refl refl refl refl)
      solid_variable solid_rest refl refl refl refl refl

  pub solid_expr : Solid (expr inner)
  solid_expr = solid_choice_of a_variable (choice an_integer a_made) solid_variable solid_rest

  pub fit_bracket : Fit (behind s.Open (before (many (expr inner)) s.Close)) (read_behind s.Open (read_before (read_many (by starts_expr) (read_expr read)) s.Close)) (same_sort s.Open) none
  unfolding same_sort
  fit_bracket =
      let rest = a_meaning (λ (v : List Expr × Tok). v.0) (a_row {f = starts_expr} starts_arg_or_close none (a_many goes_on_args fit_expr solid_expr refl refl refl) (λ _. fit_sign s.Close) refl refl (inl (λ _. solid_sign s.Close)) refl (inr refl)) in
      a_behind s.Open rest (solid_before (many (expr inner)) s.Close) refl refl refl

pub solid_args : (n : ℕ) → Solid (args n)
unfolding args
solid_args zero = solid_barred
solid_args (suc n) = solid_behind s.Open (before (many (expr (args n))) s.Close)

pub fit_args : (n : ℕ) → Fit (args n) (args_at n) (same_sort s.Open) none
unfolding args args_at
fit_args zero = fit_barred s.Open
fit_args (suc n) = fit_bracket (args n) (args_at n) (fit_args n) (solid_args n)

pub fit_given_at : (n : ℕ) → Fit (given (args n)) (given_at n) (same_sort s.Open) (same_sort s.Open)
unfolding given_at
fit_given_at n = fit_given (args n) (args_at n) (fit_args n) (solid_args n)

pub fit_expr_at : (n : ℕ) → Fit (expr (args n)) (expr_at n) starts_expr (same_sort s.Open)
unfolding expr_at
fit_expr_at n = fit_expr (args n) (args_at n) (fit_args n) (solid_args n)

pub solid_expr_at : (n : ℕ) → Solid (expr (args n))
solid_expr_at n = solid_expr (args n) (args_at n) (fit_args n) (solid_args n)

-- ---- constructors

pub fit_data : Fit constructors data_at (same_sort s.Data) none
unfolding same_sort data_at
fit_data = a_behind s.Data (a_before s.Semicolon fit_names solid_names refl refl refl) (solid_before (separated s.Comma upper) s.Semicolon) refl refl refl

pub solid_data : Solid constructors
solid_data = solid_behind s.Data (before (separated s.Comma upper) s.Semicolon)

pub fit_constructors : Fit (means joined (many constructors)) constructors_at (same_sort s.Data) (same_sort s.Data)
unfolding same_sort constructors_at
fit_constructors = a_meaning joined (a_many (same_sort s.Data) fit_data solid_data refl refl refl)

-- ---- equations

-- a right side
abbrev pub right : ℕ → Part_of Expr
right n = behind s.Equals (before (expr (args n)) s.Semicolon)

pub fit_right : (n : ℕ) → Fit (right n) (right_at n) (same_sort s.Equals) none
unfolding same_sort right_at
fit_right n = a_behind s.Equals (a_before s.Semicolon (fit_expr_at n) (solid_expr_at n) refl refl refl) (solid_before (expr (args n)) s.Semicolon) refl refl refl

pub solid_right : (n : ℕ) → Solid (right n)
solid_right n = solid_behind s.Equals (before (expr (args n)) s.Semicolon)

abbrev starts_given_or_right : Sort → Bool
starts_given_or_right t = same_sort s.Open t || same_sort s.Equals t

pub fit_equation : (n : ℕ) → Fit (equation n) (equation_at n) (same_sort s.Upper) none
unfolding same_sort equation_at
fit_equation n = a_meaning equation_of (a_row (same_sort s.Upper) none fit_upper (λ _.
    a_row starts_given_or_right none (fit_given_at n) (λ _. fit_right n) refl refl (inl (λ _. solid_right n)) refl (inr refl))
    refl refl (inl (λ _. solid_row_second (given (args n)) (λ _. right n) (λ _. solid_right n))) refl (inl solid_upper))

pub solid_equation : (n : ℕ) → Solid (equation n)
solid_equation n = solid_means equation_of (pair upper (pair (given (args n)) (right n))) (solid_row_first upper (λ _. pair (given (args n)) (right n)) solid_upper)

pub fit_equations : (n : ℕ) → Fit (many (equation n)) (equations_at n) (same_sort s.Upper) (same_sort s.Upper)
unfolding same_sort equations_at
fit_equations n = a_many (same_sort s.Upper) (fit_equation n) (solid_equation n) refl refl refl

pub fit_asked : (n : ℕ) → Fit (asked n) (asked_at n) (same_sort s.Main) none
unfolding same_sort asked_at
fit_asked n = a_behind s.Main (fit_right n) (solid_right n) refl refl refl

pub solid_asked : (n : ℕ) → Solid (asked n)
solid_asked n = solid_behind s.Main (right n)

-- ---- texts

abbrev starts_equations : Sort → Bool
starts_equations t = same_sort s.Upper t || same_sort s.Main t

abbrev starts_fun : Sort → Bool
starts_fun t = same_sort s.Data t || starts_equations t

solid_after : (n : ℕ) → Solid (pair (many (equation n)) (asked n))
solid_after n = solid_row_second (many (equation n)) (λ _. asked n) (λ _. solid_asked n)

pub fit_fun : (n : ℕ) → Fit (fun n) (fun_at n) starts_fun none
unfolding same_sort fun_at
fit_fun n = a_meaning fun_of (a_row starts_fun none fit_constructors (λ _.
    a_row starts_equations none (fit_equations n) (λ _. fit_asked n) refl refl (inl (λ _. solid_asked n)) refl (inr refl))
    refl refl (inl (λ _. solid_after n)) refl (inr refl))
