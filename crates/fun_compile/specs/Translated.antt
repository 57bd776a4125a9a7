-- The module that equations are translated to.
use Rattle.std.specs.Prelude.{ℕ, zero, suc, Bool, true, false, not, ◌&&◌, List, [], ◌∷◌, ◌++◌, map, length, count_by, replicate, codes, Option, Some, None, if◌then◌else◌}
use Rattle.std.specs.List.{list_all}
use Rattle.dactl_model.specs.declared.program.Class.TheVariants as classes
use Rattle.dactl_model.specs.declared.program.Op.{Op}
use Rattle.dactl_meaning.specs.declared.tree.Name.{Name}
use Rattle.dactl_meaning.specs.declared.tree.Marks.{Marks}
use Rattle.dactl_meaning.specs.declared.tree.Marks.TheVariants as marks
use Rattle.dactl_meaning.specs.declared.tree.Sign.TheVariants as signs
use Rattle.dactl_meaning.specs.declared.tree.PatternTree.{PatternTree}
use Rattle.dactl_meaning.specs.declared.tree.PatternTree.TheOpen.{PatternTree-F}
use Rattle.dactl_meaning.specs.declared.tree.PatternTree.TheViews.{roll-PatternTree}
use Rattle.dactl_meaning.specs.declared.tree.NodeTree.{NodeTree}
use Rattle.dactl_meaning.specs.declared.tree.ArgTree.{ArgTree}
use Rattle.dactl_meaning.specs.declared.tree.TermTree.{TermTree}
use Rattle.dactl_meaning.specs.declared.tree.NodeTree.TheOpen.{NodeTree-F}
use Rattle.dactl_meaning.specs.declared.tree.NodeTree.TheViews.{roll-NodeTree, roll-ArgTree, roll-TermTree, out-TermTree}
use Rattle.dactl_meaning.specs.declared.tree.Part.TheVariants as parts
use Rattle.dactl_meaning.specs.declared.tree.RuleTree.{RuleTree}
use Rattle.dactl_meaning.specs.declared.tree.Group.{Group}
use Rattle.dactl_meaning.specs.declared.tree.Item.{Item}
use Rattle.dactl_meaning.specs.declared.tree.Item.TheVariants as item
use Rattle.dactl_meaning.specs.declared.tree.Text.{Text}
use Rattle.dactl_meaning.specs.Unplaced.{nowhere}
use Rattle.fun_meaning.specs.declared.tree.Expr.{Expr}
use Rattle.fun_meaning.specs.declared.tree.Expr.TheOpen.{Expr-F}
use Rattle.fun_meaning.specs.declared.tree.Expr.TheFolds.{fold-Expr}
use Rattle.fun_meaning.specs.declared.tree.Equation.{Equation}
use Rattle.fun_meaning.specs.declared.tree.Fun.{Fun}
use Rattle.fun_meaning.specs.Functions.{first_ones, functions, arithmetic_name, fun_name}
use Rattle.fun_meaning.specs.Names.{Spelling, true_name, false_name, check_name, operation}
use Rattle.fun_meaning.specs.Values.{is_constructor}

-- a name of the tree: no place counts
abbrev pub word : Spelling → Name
word w = record { text = w; place = nowhere }

-- ---- patterns

-- One level of a pattern: it stays as it is.
abbrev pub pattern_level : Expr-F PatternTree → PatternTree
pattern_level (Expr-F.Variable x) = roll-PatternTree (PatternTree-F.Variable (word x.text))
pattern_level (Expr-F.Integer i) = roll-PatternTree (PatternTree-F.Integer i)
pattern_level (Expr-F.Made g args) = roll-PatternTree (PatternTree-F.Sym (word g.text) args)

-- a pattern as it stands
abbrev pub pattern_tree : Expr → PatternTree
pattern_tree = fold-Expr PatternTree pattern_level

-- ---- terms

-- an expression as it is put: whether it is pure, and its term
pub record Put : Type 0 where
  pub pure : Bool
  pub term : TermTree

-- a name alone, and a node, with marks before it
abbrev pub bare : Marks → Spelling → TermTree
bare m x = roll-TermTree (record { marks = m; name = Some (word x); node = None })

abbrev pub marked : Marks → NodeTree → TermTree
marked m node = roll-TermTree (record { marks = m; name = None; node = Some node })

-- an argument, with `^` before it where it is not pure
abbrev pub arg_put : Put → ArgTree
arg_put a = roll-ArgTree (record { waits = not a.pure; term = a.term })

abbrev pub node_over : Spelling → List Put → NodeTree
node_over g args = roll-NodeTree (NodeTree-F.Sym (word g) (map arg_put args))

-- as many `#` as arguments that are not pure, or `*` where there are none
abbrev pub marks_for : ℕ → Marks
marks_for zero = marks.Star nowhere
marks_for (suc k) = marks.Hashes nowhere (suc k)

abbrev pub waiting : List Put → ℕ
waiting args = count_by (λ a. not a.pure) args

-- `#Chk[^A]`
abbrev pub checked : TermTree → TermTree
checked a = marked (marks.Hashes nowhere 1) (roll-NodeTree (NodeTree-F.Sym (word check_name) (roll-ArgTree (record { waits = true; term = a }) ∷ [])))

abbrev pub wrapped : Option Op → TermTree → TermTree
wrapped None a = a
wrapped (Some o) a = checked a

-- a name over arguments, told whether that is pure
abbrev pub made_put : Bool → Spelling → List Put → Put
made_put true g args = record { pure = true; term = marked marks.Plain (node_over g args) }
made_put false g args = record { pure = false; term = wrapped (operation g) (marked (marks_for (waiting args)) (node_over g args)) }

-- One level: a constructor over pure arguments is pure.
abbrev pub put_level : Fun → Expr-F Put → Put
put_level e (Expr-F.Variable x) = record { pure = true; term = bare marks.Plain x.text }
put_level e (Expr-F.Integer i) = record { pure = true; term = marked marks.Plain (roll-NodeTree (NodeTree-F.Integer i nowhere)) }
put_level e (Expr-F.Made g args) = made_put (is_constructor e g.text && list_all (λ a. a.pure) args) g.text args

abbrev pub put : Fun → Expr → Put
put e = fold-Expr Put (put_level e)

-- the term with `*` before it
abbrev pub starred : TermTree → TermTree
starred t = roll-TermTree (record { marks = marks.Star nowhere; name = (out-TermTree t).name; node = (out-TermTree t).node })

-- a term that a rule makes: a pure one is made active
abbrev pub top_of : Put → TermTree
top_of a = if a.pure then starred a.term else a.term

abbrev pub top : Fun → Expr → TermTree
top e x = top_of (put e x)

-- ---- rules

abbrev pub group_of : RuleTree → Group
group_of r = record { rules = r ∷ [] }

-- an equation's rule: its left side `=>` its right side
abbrev pub equation_tree : Fun → Equation → RuleTree
equation_tree e eq = record {
  place = nowhere;
  pattern = roll-PatternTree (PatternTree-F.Sym (word eq.head.text) (map pattern_tree eq.patterns));
  redirects = true;
  parts = parts.Term (top e eq.right) ∷ [];
}

abbrev pub root_name : Spelling
root_name = codes "r"

abbrev pub value_name : Spelling
value_name = codes "x"

-- `r:F[ANY .. ANY] -> r`
abbrev pub rest_tree : Spelling → ℕ → RuleTree
rest_tree g count = record {
  place = nowhere;
  pattern = roll-PatternTree (PatternTree-F.Binder (word root_name) (roll-PatternTree (PatternTree-F.Sym (word g) (replicate count (roll-PatternTree PatternTree-F.Any)))));
  redirects = false;
  parts = parts.Term (bare marks.Plain root_name) ∷ [];
}

abbrev pub truth_tree : Spelling → PatternTree
truth_tree g = roll-PatternTree (PatternTree-F.Sym (word g) [])

-- `INT + True + False`
abbrev pub values_tree : PatternTree
values_tree = roll-PatternTree (PatternTree-F.Chain (roll-PatternTree PatternTree-F.Int) ((signs.Plus, truth_tree true_name) ∷ (signs.Plus, truth_tree false_name) ∷ []))

-- `Chk[x:(INT + True + False)] => *x`
abbrev pub check_tree : RuleTree
check_tree = record {
  place = nowhere;
  pattern = roll-PatternTree (PatternTree-F.Sym (word check_name) (roll-PatternTree (PatternTree-F.Binder (word value_name) values_tree) ∷ []));
  redirects = true;
  parts = parts.Term (bare (marks.Star nowhere) value_name) ∷ [];
}

-- ---- the module

-- the rule of each equation in text order, then the last one of each function, then those of Chk
abbrev pub trees_of : Fun → List RuleTree
trees_of e = map (equation_tree e) e.equations ++ (map (λ eq. rest_tree eq.head.text (length eq.patterns)) (first_ones e.equations) ++ check_tree ∷ rest_tree check_name 1 ∷ [])

-- each in a group of its own
abbrev pub groups_of : Fun → List Group
groups_of e = map group_of (trees_of e)

-- a SYMBOL CREATABLE, where there are names for it
abbrev pub constructor_items : List Name → List Item
constructor_items [] = []
constructor_items (g ∷ names) = item.Symbols classes.Creatable None (map (λ c. word c.text) (g ∷ names)) ∷ []

abbrev pub items_of : Fun → List Item
items_of e =
    item.Imports (word arithmetic_name ∷ []) ∷ item.Symbols classes.Rewritable None (map word (functions e ++ check_name ∷ []))
    ∷ (constructor_items e.constructors ++ item.Rules (groups_of e) ∷ item.Initial nowhere (top e e.main ∷ []) ∷ [])

-- the text of the one module
abbrev pub translated : Fun → Text
translated e = record { language = 1; modules = record { name = word fun_name; items = items_of e } ∷ []; length = 0 }
