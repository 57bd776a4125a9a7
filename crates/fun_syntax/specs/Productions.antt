-- The grammar of equations, one definition for each of its productions.
use Rattle.std.specs.Prelude.{ℕ, zero, suc, false, List, [], Option, unwrap_or}
use Rattle.std.specs.List.{flat_map}
use Rattle.dactl_meaning.specs.declared.tree.Name.{Name}
use Rattle.dactl_grammar.specs.Grammar.{choice, maybe, many, means, barred}
use Rattle.fun_meaning.specs.declared.tree.Expr.{Expr}
use Rattle.fun_meaning.specs.declared.tree.Expr.TheVariants as x
use Rattle.fun_meaning.specs.declared.tree.Equation.{Equation}
use Rattle.fun_meaning.specs.declared.tree.Fun.{Fun}
use Rattle.dactl_terminals.specs.declared.token.Sort.TheVariants as s
use Rattle.dactl_terminals.specs.Parts.{Tok, Part_of, sign, behind, before, pair, separated, upper, lower, value_at}

-- ---- expressions and patterns, which are written alike

-- ["[" {expr} "]"]; empty brackets and none mean the same
abbrev pub given_of : Option (List Expr) → List Expr
given_of v = unwrap_or v []

abbrev pub given : Part_of (List Expr) → Part_of (List Expr)
given args = means given_of (maybe args)

-- expr = Lower | Integer | Upper ["[" {expr} "]"]
abbrev pub variable_of : Name → Expr
variable_of n = x.Variable n

abbrev pub integer_of : Tok → Expr
integer_of t = x.Integer (value_at false t.word)

abbrev pub made_of : Name × List Expr → Expr
made_of v = x.Made v.0 v.1

abbrev pub expr : Part_of (List Expr) → Part_of Expr
expr args = choice (means variable_of lower) (choice (means integer_of (sign s.Integer)) (means made_of (pair upper (given args))))

-- "[" {expr} "]", with at most so many brackets open
unfoldable pub args : ℕ → Part_of (List Expr)
args zero = barred
args (suc n) = behind s.Open (before (many (expr (args n))) s.Close)

-- ---- equations

-- eq = Upper ["[" {expr} "]"] "=" expr ";"
abbrev pub equation_of : Name × (List Expr × Expr) → Equation
equation_of v = record { head = v.0; patterns = v.1.0; right = v.1.1 }

abbrev pub equation : ℕ → Part_of Equation
equation n = means equation_of (pair upper (pair (given (args n)) (behind s.Equals (before (expr (args n)) s.Semicolon))))

-- data = "DATA" Upper {"," Upper} ";"
abbrev pub constructors : Part_of (List Name)
constructors = behind s.Data (before (separated s.Comma upper) s.Semicolon)

-- "MAIN" "=" expr ";"
abbrev pub asked : ℕ → Part_of Expr
asked n = behind s.Main (behind s.Equals (before (expr (args n)) s.Semicolon))

-- the lists one after the other
abbrev pub joined : {A : Type 0} → List (List A) → List A
joined lists = flat_map (λ l. l) lists

-- fun = {data} {eq} "MAIN" "=" expr ";"
abbrev pub fun_of : List Name × (List Equation × Expr) → Fun
fun_of v = record { constructors = v.0; equations = v.1.0; main = v.1.1 }

abbrev pub fun : ℕ → Part_of Fun
fun n = means fun_of (pair (means joined (many constructors)) (pair (many (equation n)) (asked n)))
