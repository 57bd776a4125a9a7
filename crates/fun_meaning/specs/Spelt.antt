-- What the tokens and the length of a text give equations: spelled names, integers of 64 bits, and right sides of a size.
use Rattle.std.specs.Prelude.{◌≡◌, ℕ, ◌+◌, ◌<◌, ◌^◌, Bool, true, false, map, Some, slice_get}
use Rattle.std.specs.List.{AllByRecursion, list_all, sum}
use Rattle.dactl_model.specs.Integers.{is_word}
use Rattle.dactl_model.specs.Names.{is_upper_name}
use Rattle.fun_meaning.specs.declared.tree.Expr.{Expr}
use Rattle.fun_meaning.specs.declared.tree.Expr.TheOpen.{Expr-F}
use Rattle.fun_meaning.specs.declared.tree.Expr.TheFolds.{fold-Expr}
use Rattle.fun_meaning.specs.declared.tree.Equation.{Equation}
use Rattle.fun_meaning.specs.declared.tree.Fun.{Fun}
use Rattle.fun_meaning.specs.Names.{Spelling}
use Rattle.fun_meaning.specs.Functions.{names_of}

-- One level: each integer is one of 64 bits.
abbrev pub words_level : Expr-F Bool → Bool
words_level (Expr-F.Variable x) = true
words_level (Expr-F.Integer i) = is_word i
words_level (Expr-F.Made g args) = list_all (λ b. b) args

-- each integer of the expression is one of 64 bits
abbrev pub has_words : Expr → Bool
has_words = fold-Expr Bool words_level

-- each name of a symbol is spelled as one, and each integer has 64 bits
pub record AreSpelt (e : Fun) : Type 0 where
  pub names : AllByRecursion (λ (w : Spelling). is_upper_name false w ≡ true) (names_of e)
  pub patterns : (i : ℕ) (eq : Equation) → slice_get e.equations i ≡ Some eq → list_all (λ b. b) (map has_words eq.patterns) ≡ true
  pub rights : (i : ℕ) (eq : Equation) → slice_get e.equations i ≡ Some eq → has_words eq.right ≡ true
  pub main : has_words e.main ≡ true

-- One level: more than the new nodes that it makes, and their arcs.
abbrev pub weight_level : Expr-F ℕ → ℕ
weight_level (Expr-F.Variable x) = 1
weight_level (Expr-F.Integer i) = 1
weight_level (Expr-F.Made g args) = 2 + sum args

-- a number above that of the new nodes that the expression makes, and of their arcs
abbrev pub weight_of : Expr → ℕ
weight_of = fold-Expr ℕ weight_level

-- no right side is too large to count
pub record AreLight (e : Fun) : Type 0 where
  pub rights : (i : ℕ) (eq : Equation) → slice_get e.equations i ≡ Some eq → weight_of eq.right < 2 ^ 31
  pub main : weight_of e.main < 2 ^ 31
