-- What value an expression has over equations.
use Rattle.std.specs.Prelude.{◌≡◌, ℕ, zero, suc, Bool, true, false, ◌||◌, List, [], ◌∷◌, ◌++◌, map, ℤ, ◌+ℤ◌, ◌-ℤ◌, ◌*ℤ◌, int_lt, IsTrue, Option, Some, None, if◌then◌else◌}
use Rattle.std.specs.List.{AllZip, list_any}
use Rattle.std.specs.Ordering.{int_eq}
use Rattle.dactl_model.specs.declared.program.Op.{Op}
use Rattle.dactl_model.specs.declared.program.Op.TheVariants.{Add, Sub, Mul, Eq, Lt}
use Rattle.dactl_model.specs.Integers.{is_word}
use Rattle.dactl_meaning.specs.declared.tree.Name.{Name}
use Rattle.dactl_meaning.specs.Unplaced.{nowhere}
use Rattle.fun_meaning.specs.declared.tree.Expr.{Expr}
use Rattle.fun_meaning.specs.declared.tree.Expr.TheOpen.{Expr-F}
use Rattle.fun_meaning.specs.declared.tree.Expr.TheViews.{roll-Expr, out-Expr}
use Rattle.fun_meaning.specs.declared.tree.Expr.TheFolds.{fold-Expr}
use Rattle.fun_meaning.specs.declared.tree.Equation.{Equation}
use Rattle.fun_meaning.specs.declared.tree.Fun.{Fun}
use Rattle.fun_meaning.specs.Names.{Spelling, same_name, true_name, false_name, operation}

-- ---- values. They have no places: the 0 of their names counts for nothing

-- the value of an integer
abbrev pub integer : ℤ → Expr
integer i = roll-Expr (Expr-F.Integer i)

-- a name that stands nowhere
abbrev pub word : Spelling → Name
word g = record { text = g; place = nowhere }

-- a name over values
abbrev pub made : Spelling → List Expr → Expr
made g vs = roll-Expr (Expr-F.Made (word g) vs)

-- True or False
abbrev pub truth_value : Bool → Expr
truth_value true = made true_name []
truth_value false = made false_name []

-- the name is a constructor: a `DATA` name, True or False
abbrev pub is_constructor : Fun → Spelling → Bool
is_constructor e g = same_name g true_name || (same_name g false_name || list_any (λ c. same_name g c.text) e.constructors)

-- ---- operations

-- the integer is in range where the operation gives an integer
abbrev pub FitsResult : Op → ℤ → ℤ → Type 0
FitsResult Add x y = IsTrue (is_word (x +ℤ y))
FitsResult Sub x y = IsTrue (is_word (x -ℤ y))
FitsResult Mul x y = IsTrue (is_word (x *ℤ y))
FitsResult Eq x y = Unit {0}
FitsResult Lt x y = Unit {0}

-- what the operation gives
abbrev pub result_of : Op → ℤ → ℤ → Expr
result_of Add x y = integer (x +ℤ y)
result_of Sub x y = integer (x -ℤ y)
result_of Mul x y = integer (x *ℤ y)
result_of Eq x y = truth_value (int_eq x y)
result_of Lt x y = truth_value (int_lt x y)

-- an operation has a value at two integers, where the result is one of 64 bits
pub record IsResult (o : Op) (vs : List Expr) (v : Expr) : Type 0 where
  pub left : ℤ
  pub right : ℤ
  pub operands : vs ≡ integer left ∷ integer right ∷ []
  pub fits : FitsResult o left right
  pub is : v ≡ result_of o left right

-- ---- matching

-- the names of the variables, in order
abbrev pub all_names : List (List Spelling) → List Spelling
all_names [] = []
all_names (xs ∷ xss) = xs ++ all_names xss

-- One level: the variables in the order of their places.
abbrev pub names_level : Expr-F (List Spelling) → List Spelling
names_level (Expr-F.Variable x) = x.text ∷ []
names_level (Expr-F.Integer i) = []
names_level (Expr-F.Made g xss) = all_names xss

-- the variables of an expression, as often as they stand there
abbrev pub variables_of : Expr → List Spelling
variables_of = fold-Expr (List Spelling) names_level

-- what two parts of a match bind, one after the other
abbrev pub both : Option (List Expr) → Option (List Expr) → Option (List Expr)
both None other = None
both (Some us) None = None
both (Some us) (Some ws) = Some (us ++ ws)

-- each test at the value at its place
abbrev pub all_matched : List (Expr → Option (List Expr)) → List Expr → Option (List Expr)
all_matched [] [] = Some []
all_matched [] (v ∷ vs) = None
all_matched (t ∷ tests) [] = None
all_matched (t ∷ tests) (v ∷ vs) = both (t v) (all_matched tests vs)

-- an integer matches itself
abbrev pub integer_matched : ℤ → Expr-F Expr → Option (List Expr)
integer_matched i (Expr-F.Variable x) = None
integer_matched i (Expr-F.Integer j) = if int_eq j i then Some [] else None
integer_matched i (Expr-F.Made g vs) = None

-- a name over patterns matches that name over values that they match
abbrev pub made_matched : Spelling → List (Expr → Option (List Expr)) → Expr-F Expr → Option (List Expr)
made_matched g tests (Expr-F.Variable x) = None
made_matched g tests (Expr-F.Integer j) = None
made_matched g tests (Expr-F.Made h vs) = if same_name g h.text then all_matched tests vs else None

-- One level: a variable matches each value, and has it then.
abbrev pub matched_level : Expr-F (Expr → Option (List Expr)) → Expr → Option (List Expr)
matched_level (Expr-F.Variable x) v = Some (v ∷ [])
matched_level (Expr-F.Integer i) v = integer_matched i (out-Expr v)
matched_level (Expr-F.Made g tests) v = made_matched g.text tests (out-Expr v)

-- where the pattern matches the value: the values of its variables, in their order
abbrev pub matched : Expr → Expr → Option (List Expr)
matched = fold-Expr (Expr → Option (List Expr)) matched_level

-- an equation that matches: its variables with their values, and its right side
pub record Call : Type 0 where
  pub names : List Spelling
  pub values : List Expr
  pub right : Expr

-- the variables of its patterns
abbrev pub equation_names : Equation → List Spelling
equation_names eq = all_names (map variables_of eq.patterns)

-- what the equation's patterns bind at the arguments
abbrev pub equation_matched : Equation → List Expr → Option (List Expr)
equation_matched eq vs = all_matched (map matched eq.patterns) vs

-- the equation where it matches, and else the rest
abbrev pub tried : Equation → Option (List Expr) → Option Call → Option Call
tried eq None rest = rest
tried eq (Some us) rest = Some (record { names = equation_names eq; values = us; right = eq.right })

-- the first equation of the function that matches the arguments
abbrev pub first_equation : List Equation → Spelling → List Expr → Option Call
first_equation [] g vs = None
first_equation (eq ∷ eqs) g vs = if same_name eq.head.text g then tried eq (equation_matched eq vs) (first_equation eqs g vs) else first_equation eqs g vs

-- the value of a variable
abbrev pub looked_up : List Spelling → List Expr → Spelling → Option Expr
looked_up [] us x = None
looked_up (y ∷ names) [] x = None
looked_up (y ∷ names) (u ∷ us) x = if same_name y x then Some u else looked_up names us x

-- ---- what an expression has as its value

-- a relation of expressions to values, under values for some variables
abbrev pub Valuing : Type 1
Valuing = List Spelling → List Expr → Expr → Expr → Type 0

-- a constructor is its own value over values, and a function has that of a call
abbrev pub MadeValue : Fun → Valuing → Spelling → List Expr → Expr → Bool → Type 0
MadeValue e val g vs v true = v ≡ made g vs
MadeValue e val g vs v false = (call : Call) × (first_equation e.equations g vs ≡ Some call) × val call.names call.values call.right v

-- an operation has its result
abbrev pub NamedValue : Fun → Valuing → Spelling → List Expr → Expr → Option Op → Type 0
NamedValue e val g vs v (Some o) = IsResult o vs v
NamedValue e val g vs v None = MadeValue e val g vs v (is_constructor e g)

-- the value of a name over values: of an operation its result, of a constructor itself over them, and of a function that of the right side of its first equation that matches
abbrev pub Applied : Fun → Valuing → Spelling → List Expr → Expr → Type 0
Applied e val g vs v = NamedValue e val g vs v (operation g)

-- One level: a variable has its value, an integer is one, and a name is applied to the values of its arguments.
abbrev pub ValueLevel : Fun → Valuing → List Spelling → List Expr → Expr-F Expr → Expr → Type 0
ValueLevel e val names us (Expr-F.Variable x) v = looked_up names us x.text ≡ Some v
ValueLevel e val names us (Expr-F.Integer i) v = v ≡ integer i
ValueLevel e val names us (Expr-F.Made g args) v = (vs : List Expr) × AllZip (val names us) args vs × Applied e val g.text vs v

-- the expression has the value, at this depth
abbrev pub ValueAt : ℕ → Fun → Valuing
ValueAt zero e names us x v = ⊥
ValueAt (suc d) e names us x v = ValueLevel e (ValueAt d e) names us (out-Expr x) v

-- an expression without variables has the value
abbrev pub HasValue : Fun → Expr → Expr → Type 0
HasValue e x v = (d : ℕ) × ValueAt d e [] [] x v
