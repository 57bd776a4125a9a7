-- Which programs are translations of equations.
use Rattle.std.specs.Prelude.{◌≡◌, ℕ, zero, suc, ◌+◌, ◌<◌, Bool, true, false, List, [], ◌∷◌, length, ℤ, Option, Some, None, slice_get, ◌⊎◌, replicate, if◌then◌else◌}
use Rattle.std.specs.List.{AllZip, AllByRecursion}
use Rattle.dactl_model.specs.declared.graph.Label.{Label}
use Rattle.dactl_model.specs.declared.graph.Label.TheVariants.{Symbol, Integer, Character}
use Rattle.dactl_model.specs.declared.graph.Mark.{Mark}
use Rattle.dactl_model.specs.declared.graph.Mark.TheVariants.{Idle, Active, Waiting}
use Rattle.dactl_model.specs.declared.program.Pat.{Pat}
use Rattle.dactl_model.specs.declared.program.Pat.TheOpen.{Pat-F}
use Rattle.dactl_model.specs.declared.program.Pat.TheViews.{roll-Pat}
use Rattle.dactl_model.specs.declared.program.Mention.{Mention}
use Rattle.dactl_model.specs.declared.program.Mention.TheVariants.{Old, Fresh}
use Rattle.dactl_model.specs.declared.program.FreshArc.{FreshArc}
use Rattle.dactl_model.specs.declared.program.FreshNode.{FreshNode}
use Rattle.dactl_model.specs.declared.program.Left.TheVariants.{Root}
use Rattle.dactl_model.specs.declared.program.Move.{Move}
use Rattle.dactl_model.specs.declared.program.Op.{Op}
use Rattle.dactl_model.specs.declared.program.Body.TheVariants.{Written}
use Rattle.dactl_model.specs.declared.program.Rule.{Rule}
use Rattle.dactl_model.specs.declared.program.Program.{Program}
use Rattle.dactl_model.specs.Programs.{arithmetic_rule, fresh_flags}
use Rattle.fun_meaning.specs.declared.tree.Expr.{Expr}
use Rattle.fun_meaning.specs.declared.tree.Expr.TheOpen.{Expr-F}
use Rattle.fun_meaning.specs.declared.tree.Expr.TheViews.{out-Expr}
use Rattle.fun_meaning.specs.declared.tree.Equation.{Equation}
use Rattle.fun_meaning.specs.declared.tree.Fun.{Fun}
use Rattle.fun_meaning.specs.Names.{Spelling, same_name, true_name, false_name, check_name, operation, place_of}
use Rattle.fun_meaning.specs.Values.{is_constructor, equation_names}
use Rattle.fun_meaning.specs.Meaning.{symbol_names}

-- One level of a pattern, where the variables have these names
abbrev pub PatternLevel : List Spelling → List Spelling → (Expr → Pat → Type 0) → Expr-F Expr → Pat → Type 0
PatternLevel symbols names is (Expr-F.Variable x) p = p ≡ roll-Pat (Pat-F.Bind (place_of names x.text) (roll-Pat Pat-F.Any))
PatternLevel symbols names is (Expr-F.Integer i) p = p ≡ roll-Pat (Pat-F.Literal i)
PatternLevel symbols names is (Expr-F.Made g args) p = (f : ℕ) × (ps : List Pat) × (slice_get symbols f ≡ Some g.text) × AllZip is args ps × (p ≡ roll-Pat (Pat-F.Sym f ps))

-- the rule's pattern is the equation's, to this depth
abbrev pub IsPatternAt : ℕ → List Spelling → List Spelling → Expr → Pat → Type 0
IsPatternAt zero symbols names x p = ⊥
IsPatternAt (suc d) symbols names x p = PatternLevel symbols names (IsPatternAt d symbols names) (out-Expr x) p

-- a new node that stands for a name over arguments
pub record IsTerm (symbols : List Spelling) (fresh : List FreshNode) (stands : Expr → Mention → Type 0) (g : Spelling) (args : List Expr) (t : Mention) : Type 0 where
  pub place : ℕ
  pub node : FreshNode
  pub symbol : ℕ
  pub is : t ≡ Fresh place
  pub at : slice_get fresh place ≡ Some node
  pub label : node.label ≡ Symbol symbol
  pub name : slice_get symbols symbol ≡ Some g
  pub ordinary : same_name g check_name ≡ false
  pub args_stand : AllZip (λ x a. stands x a.to) args node.arcs

-- such a node below a new node Chk
pub record IsChecked (symbols : List Spelling) (fresh : List FreshNode) (stands : Expr → Mention → Type 0) (g : Spelling) (args : List Expr) (t : Mention) : Type 0 where
  pub place : ℕ
  pub node : FreshNode
  pub symbol : ℕ
  pub arc : FreshArc
  pub is : t ≡ Fresh place
  pub at : slice_get fresh place ≡ Some node
  pub label : node.label ≡ Symbol symbol
  pub name : slice_get symbols symbol ≡ Some check_name
  pub arcs : node.arcs ≡ arc ∷ []
  pub term : IsTerm symbols fresh stands g args arc.to

-- a new integer
pub record IsNumeral (fresh : List FreshNode) (i : ℤ) (t : Mention) : Type 0 where
  pub place : ℕ
  pub node : FreshNode
  pub is : t ≡ Fresh place
  pub at : slice_get fresh place ≡ Some node
  pub label : node.label ≡ Integer i

-- a variable of the pattern
pub record IsMentioned (names : List Spelling) (x : Spelling) (t : Mention) : Type 0 where
  pub is : t ≡ Old (place_of names x)
  pub bound : place_of names x < length names

-- an operation stands below Chk, and each other name as it is
abbrev pub StandsNamed : List Spelling → List FreshNode → (Expr → Mention → Type 0) → Spelling → List Expr → Mention → Option Op → Type 0
StandsNamed symbols fresh stands g args t (Some o) = IsChecked symbols fresh stands g args t
StandsNamed symbols fresh stands g args t None = IsTerm symbols fresh stands g args t

-- One level of a contractum
abbrev pub StandsLevel : List Spelling → List Spelling → List FreshNode → (Expr → Mention → Type 0) → Expr-F Expr → Mention → Type 0
StandsLevel symbols names fresh stands (Expr-F.Variable x) t = IsMentioned names x.text t
StandsLevel symbols names fresh stands (Expr-F.Integer i) t = IsNumeral fresh i t
StandsLevel symbols names fresh stands (Expr-F.Made g args) t = StandsNamed symbols fresh stands g.text args t (operation g.text)

-- the mention stands for the expression among the new nodes, to this depth
abbrev pub StandsAt : ℕ → List Spelling → List Spelling → List FreshNode → Expr → Mention → Type 0
StandsAt zero symbols names fresh x t = ⊥
StandsAt (suc d) symbols names fresh x t = StandsLevel symbols names fresh (StandsAt d symbols names fresh) (out-Expr x) t

-- how many notifications a mark awaits
abbrev pub awaited : Mark → ℕ
awaited Idle = 0
awaited Active = 0
awaited (Waiting k) = k

-- how many arguments the head of an equation has
abbrev pub head_arity : List Equation → Spelling → Option ℕ
head_arity [] g = None
head_arity (eq ∷ eqs) g = if same_name eq.head.text g then Some (length eq.patterns) else head_arity eqs g

-- an operation has two arguments, Chk has one, and a function those of its first equation
abbrev pub named_arity : List Equation → Spelling → Option Op → Bool → Option ℕ
named_arity eqs g (Some o) check = Some 2
named_arity eqs g None true = Some 1
named_arity eqs g None false = head_arity eqs g

-- how many arguments an operation, Chk or a function has
abbrev pub arity : Fun → Spelling → Option ℕ
arity e g = named_arity e.equations g (operation g) (same_name g check_name)

-- what a label with that name has
abbrev pub FitsArity : Fun → Option Spelling → ℕ → Type 0
FitsArity e None count = ⊥
FitsArity e (Some g) count = (k : ℕ) → arity e g ≡ Some k → count ≡ k

-- the label has so many arguments as it must have. (There is no character)
abbrev pub FitsSymbol : Fun → List Spelling → Label → ℕ → Type 0
FitsSymbol e symbols (Integer i) count = Unit {0}
FitsSymbol e symbols (Symbol f) count = FitsArity e (slice_get symbols f) count
FitsSymbol e symbols (Character c) count = ⊥

-- there is an operation
abbrev pub is_operation : Option Op → Bool
is_operation None = false
is_operation (Some o) = true

-- the name is that of an operation
abbrev pub names_operation : Option Spelling → Bool
names_operation None = false
names_operation (Some g) = is_operation (operation g)

-- the label is an operation
abbrev pub is_arithmetic : List Spelling → Label → Bool
is_arithmetic symbols (Integer i) = false
is_arithmetic symbols (Symbol f) = names_operation (slice_get symbols f)
is_arithmetic symbols (Character c) = false

-- the name is Chk
abbrev pub names_check : Option Spelling → Bool
names_check None = false
names_check (Some g) = same_name g check_name

-- the label is Chk
abbrev pub is_check : List Spelling → Label → Bool
is_check symbols (Integer i) = false
is_check symbols (Symbol f) = names_check (slice_get symbols f)
is_check symbols (Character c) = false

-- the name is a constructor
abbrev pub names_constructor : Fun → Option Spelling → Bool
names_constructor e None = false
names_constructor e (Some g) = is_constructor e g

-- the label is an integer or a constructor
abbrev pub is_settled : Fun → List Spelling → Label → Bool
is_settled e symbols (Integer i) = true
is_settled e symbols (Symbol f) = names_constructor e (slice_get symbols f)
is_settled e symbols (Character c) = false

-- the mention is one of so many variables, an integer, or a constructor over such ones
abbrev pub SettledNode : Fun → List Spelling → (Mention → Type 0) → Option FreshNode → Type 0
SettledNode e symbols settled None = ⊥
SettledNode e symbols settled (Some node) = (is_settled e symbols node.label ≡ true) × AllByRecursion (λ a. settled a.to) node.arcs

-- one level of a settled mention
abbrev pub SettledMention : Fun → List Spelling → ℕ → List FreshNode → (Mention → Type 0) → Mention → Type 0
SettledMention e symbols count fresh settled (Old v) = v < count
SettledMention e symbols count fresh settled (Fresh i) = SettledNode e symbols settled (slice_get fresh i)

-- the mention is settled, to this depth
abbrev pub SettledAt : ℕ → Fun → List Spelling → ℕ → List FreshNode → Mention → Type 0
SettledAt zero e symbols count fresh t = ⊥
SettledAt (suc d) e symbols count fresh t = SettledMention e symbols count fresh (SettledAt d e symbols count fresh) t

-- the mention is one of so many variables, or a new node that is no operation
abbrev pub NoOperationNode : List Spelling → Option FreshNode → Type 0
NoOperationNode symbols None = ⊥
NoOperationNode symbols (Some node) = is_arithmetic symbols node.label ≡ false

-- the mention is of no operation
abbrev pub NoOperation : List Spelling → ℕ → List FreshNode → Mention → Type 0
NoOperation symbols count fresh (Old v) = v < count
NoOperation symbols count fresh (Fresh i) = NoOperationNode symbols (slice_get fresh i)

-- the mention is of a variable or a new node
abbrev pub IsThereFresh : ℕ → List FreshNode → Mention → Type 0
IsThereFresh count fresh (Old v) = v < count
IsThereFresh count fresh (Fresh i) = i < length fresh

-- an arc of a new node with this label
pub record IsTidyFreshArc (e : Fun) (symbols : List Spelling) (count : ℕ) (fresh : List FreshNode) (label : Label) (a : FreshArc) : Type 0 where
  pub settled : a.waits ≡ false → (d : ℕ) × SettledAt d e symbols count fresh a.to
  pub checked : is_check symbols label ≡ false → NoOperation symbols count fresh a.to
  pub there : IsThereFresh count fresh a.to

-- a new node of a translation, in a rule of so many variables
pub record IsTidyFresh (e : Fun) (symbols : List Spelling) (count : ℕ) (fresh : List FreshNode) (node : FreshNode) : Type 0 where
  pub symbol : FitsSymbol e symbols node.label (length node.arcs)
  pub mark : fresh_flags node.arcs ≡ awaited node.mark
  pub arcs_tidy : AllByRecursion (IsTidyFreshArc e symbols count fresh node.label) node.arcs

-- the one redirection of a rule
abbrev pub root_to : Mention → List Move
root_to t = record { from = Root; to = t } ∷ []

-- the rule of equation i
pub record IsEquationRule (e : Fun) (symbols : List Spelling) (i : ℕ) (eq : Equation) (rule : Rule) : Type 0 where
  pub head : slice_get symbols rule.symbol ≡ Some eq.head.text
  pub group : rule.group ≡ 5 + i
  pub variables : rule.variables ≡ length (equation_names eq)
  pub depth : ℕ
  pub args : List Pat
  pub patterns : AllZip (IsPatternAt depth symbols (equation_names eq)) eq.patterns args
  pub pattern : rule.pattern ≡ roll-Pat (Pat-F.Sym rule.symbol args)
  pub fresh : List FreshNode
  pub first : Mention
  pub wakes : List ℕ
  pub body : rule.body ≡ Written fresh (root_to first) wakes 0
  pub height : ℕ
  pub right : StandsAt height symbols (equation_names eq) fresh eq.right first
  pub tidy : AllByRecursion (IsTidyFresh e symbols (length (equation_names eq)) fresh) fresh
  pub first_tidy : NoOperation symbols (length (equation_names eq)) fresh first
  pub woken : AllByRecursion (λ v. v < length (equation_names eq)) wakes

-- the rule of an operation
pub record IsOperationRule (symbols : List Spelling) (rule : Rule) : Type 0 where
  pub name : Spelling
  pub op : Op
  pub named : slice_get symbols rule.symbol ≡ Some name
  pub operates : operation name ≡ Some op
  pub is : rule ≡ arithmetic_rule rule.symbol op

-- a rule of a last group
pub record IsRestRule (symbols : List Spelling) (rule : Rule) : Type 0 where
  pub name : Spelling
  pub named : slice_get symbols rule.symbol ≡ Some name
  pub no_operation : operation name ≡ None
  pub count : ℕ
  pub pattern : rule.pattern ≡ roll-Pat (Pat-F.Bind 0 (roll-Pat (Pat-F.Sym rule.symbol (replicate count (roll-Pat Pat-F.Any)))))
  pub body : rule.body ≡ Written [] [] [] 0

-- an integer, True or False
abbrev pub plain_pattern : Pat
plain_pattern = roll-Pat (Pat-F.Union (roll-Pat (Pat-F.Union (roll-Pat Pat-F.Int) (roll-Pat (Pat-F.Sym 5 [])))) (roll-Pat (Pat-F.Sym 6 [])))

-- the rule of Chk
pub record IsCheckRule (symbols : List Spelling) (rule : Rule) : Type 0 where
  pub named : slice_get symbols rule.symbol ≡ Some check_name
  pub pattern : rule.pattern ≡ roll-Pat (Pat-F.Sym rule.symbol (roll-Pat (Pat-F.Bind 0 plain_pattern) ∷ []))
  pub body : rule.body ≡ Written [] (root_to (Old 0)) (0 ∷ []) 0

-- the rule of some equation
pub record IsSomeEquationRule (e : Fun) (symbols : List Spelling) (rule : Rule) : Type 0 where
  pub index : ℕ
  pub equation : Equation
  pub at : slice_get e.equations index ≡ Some equation
  pub is : IsEquationRule e symbols index equation rule

-- a rule is one of the four kinds
abbrev pub IsKnownRule : Fun → List Spelling → Rule → Type 0
IsKnownRule e symbols rule = IsOperationRule symbols rule ⊎ (IsSomeEquationRule e symbols rule ⊎ (IsRestRule symbols rule ⊎ IsCheckRule symbols rule))

-- the rule of the equation is there
pub record HasEquationRule (e : Fun) (p : Program) (i : ℕ) (eq : Equation) : Type 0 where
  pub number : ℕ
  pub rule : Rule
  pub at : slice_get p.rules number ≡ Some rule
  pub is : IsEquationRule e (symbol_names p) i eq rule

-- the rule of a last group is there
pub record HasRestRule (p : Program) (f k : ℕ) : Type 0 where
  pub number : ℕ
  pub rule : Rule
  pub at : slice_get p.rules number ≡ Some rule
  pub variables : rule.variables ≡ 1
  pub pattern : rule.pattern ≡ roll-Pat (Pat-F.Bind 0 (roll-Pat (Pat-F.Sym f (replicate k (roll-Pat Pat-F.Any)))))
  pub body : rule.body ≡ Written [] [] [] 0

-- what a text without faults gives of an equation
pub record IsSound (e : Fun) (eq : Equation) : Type 0 where
  pub no_operation : operation eq.head.text ≡ None
  pub no_constructor : is_constructor e eq.head.text ≡ false
  pub no_check : same_name eq.head.text check_name ≡ false
  pub once : (k : ℕ) (x : Spelling) → slice_get (equation_names eq) k ≡ Some x → place_of (equation_names eq) x ≡ k

-- the program is the translation of the equations
pub record IsProgramOf (e : Fun) (p : Program) : Type 0 where
  pub narrow : p.wide ≡ false
  pub kinds : (r : ℕ) (rule : Rule) → slice_get p.rules r ≡ Some rule → IsKnownRule e (symbol_names p) rule
  pub equation_rules : (i : ℕ) (eq : Equation) → slice_get e.equations i ≡ Some eq → HasEquationRule e p i eq
  pub rest_rules : (f k : ℕ) (g : Spelling) → slice_get (symbol_names p) f ≡ Some g → operation g ≡ None → arity e g ≡ Some k → HasRestRule p f k
  pub once : (f k : ℕ) (g : Spelling) → slice_get (symbol_names p) f ≡ Some g → slice_get (symbol_names p) k ≡ Some g → f ≡ k
  pub truth : slice_get (symbol_names p) 5 ≡ Some true_name
  pub falsity : slice_get (symbol_names p) 6 ≡ Some false_name
  pub constructors : (g : Spelling) → is_constructor e g ≡ true → (operation g ≡ None) × (same_name g check_name ≡ false)
  pub symbols_known : (f : ℕ) (g : Spelling) → slice_get (symbol_names p) f ≡ Some g → (is_constructor e g ≡ true) ⊎ ((k : ℕ) × (arity e g ≡ Some k))
  pub sound : (i : ℕ) (eq : Equation) → slice_get e.equations i ≡ Some eq → IsSound e eq
  pub start_height : ℕ
  pub start : StandsAt start_height (symbol_names p) [] p.start.fresh e.main (Fresh p.start.root)
  pub start_tidy : AllByRecursion (IsTidyFresh e (symbol_names p) 0 p.start.fresh) p.start.fresh
