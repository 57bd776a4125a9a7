-- What reading each part of the grammar gives.
use Rattle.std.specs.Prelude.{ℕ, zero, suc, List}
use Rattle.dactl_meaning.specs.declared.tree.Name.{Name}
use Rattle.dactl_grammar.specs.Reader.{head_is, read_as, read_choice, read_maybe, read_many, read_barred}
use Rattle.fun_meaning.specs.declared.tree.Expr.{Expr}
use Rattle.fun_meaning.specs.declared.tree.Equation.{Equation}
use Rattle.fun_meaning.specs.declared.tree.Fun.{Fun}
use Rattle.dactl_terminals.specs.declared.token.Sort.TheVariants as s
use Rattle.dactl_terminals.specs.Sort.{same_sort}
use Rattle.fun_syntax.specs.Sort.{starts_expr}
use Rattle.dactl_terminals.specs.Parts.{is}
use Rattle.dactl_terminals.specs.Reads.{Reads, by, read_sign, read_pair, read_behind, read_before, upper_at, lower_at, names_at}
use Rattle.fun_syntax.specs.Productions.{given_of, variable_of, integer_of, made_of, equation_of, joined, fun_of}

-- ---- expressions

abbrev pub read_given : Reads (List Expr) → Reads (List Expr)
read_given args = read_as given_of (read_maybe (by (same_sort s.Open)) args)

abbrev pub read_expr : Reads (List Expr) → Reads Expr
read_expr args =
    read_choice (head_is (by (same_sort s.Lower))) (read_as variable_of lower_at)
    (read_choice (head_is (by (same_sort s.Integer))) (read_as integer_of (read_sign s.Integer))
    (read_as made_of (read_pair upper_at (read_given args))))

unfoldable pub args_at : ℕ → Reads (List Expr)
args_at zero = read_barred (is s.Open)
args_at (suc n) = read_behind s.Open (read_before (read_many (by starts_expr) (read_expr (args_at n))) s.Close)

unfoldable pub given_at : ℕ → Reads (List Expr)
given_at n = read_given (args_at n)

unfoldable pub expr_at : ℕ → Reads Expr
expr_at n = read_expr (args_at n)

-- ---- equations

unfoldable pub right_at : ℕ → Reads Expr
right_at n = read_behind s.Equals (read_before (expr_at n) s.Semicolon)

unfoldable pub equation_at : ℕ → Reads Equation
equation_at n = read_as equation_of (read_pair upper_at (read_pair (given_at n) (right_at n)))

unfoldable pub equations_at : ℕ → Reads (List Equation)
equations_at n = read_many (by (same_sort s.Upper)) (equation_at n)

unfoldable pub data_at : Reads (List Name)
data_at = read_behind s.Data (read_before names_at s.Semicolon)

unfoldable pub constructors_at : Reads (List Name)
constructors_at = read_as joined (read_many (by (same_sort s.Data)) data_at)

unfoldable pub asked_at : ℕ → Reads Expr
asked_at n = read_behind s.Main (right_at n)

unfoldable pub fun_at : ℕ → Reads Fun
fun_at n = read_as fun_of (read_pair constructors_at (read_pair (equations_at n) (asked_at n)))
