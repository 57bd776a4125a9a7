-- Induction over expressions.
use Rattle.std.proofs.Common.{List, [], ◌∷◌, map, ℤ, subst}
use Rattle.dactl_meaning.specs.declared.tree.Name.{Name}
use Rattle.fun_meaning.specs.declared.tree.Expr.{Expr}
use Rattle.fun_meaning.specs.declared.tree.Expr.TheOpen.{Expr-F}
use Rattle.fun_meaning.specs.declared.tree.Expr.TheViews.{roll-Expr}
use Rattle.fun_meaning.specs.declared.tree.Expr.TheFolds.{ind-Expr, map-Expr}

-- the fact holds of each
abbrev pub Each : (Expr → Type 0) → List Expr → Type 0
Each Q [] = Unit {0}
Each Q (x ∷ xs) = Q x × Each Q xs

-- what an induction owes, a case for each kind of expression
pub record Cases (Q : Expr → Type 0) : Type 0 where
  pub variable : (x : Name) → Q (roll-Expr (Expr-F.Variable x))
  pub integer : (i : ℤ) → Q (roll-Expr (Expr-F.Integer i))
  pub made : (g : Name) (args : List Expr) → Each Q args → Q (roll-Expr (Expr-F.Made g args))

each_of : (Q : Expr → Type 0) (es : List ((x : Expr) × Q x)) → Each Q (map (λ e. e.0) es)
each_of Q [] = tt
each_of Q (e ∷ es) = (e.1, each_of Q es)

one_level : (Q : Expr → Type 0) → Cases Q → (y : Expr-F ((x : Expr) × Q x)) → Q (roll-Expr (map-Expr ((x : Expr) × Q x) Expr (λ e. e.0) y))
one_level Q cases (Expr-F.Variable x) = cases.variable x
one_level Q cases (Expr-F.Integer i) = cases.integer i
one_level Q cases (Expr-F.Made g args) = cases.made g (map (λ e. e.0) args) (each_of Q args)

pub expr_induction : (Q : Expr → Type 0) → Cases Q → (x : Expr) → Q x
expr_induction Q cases = ind-Expr Q (λ x y is. subst (λ z. Q (roll-Expr z)) is (one_level Q cases y))
