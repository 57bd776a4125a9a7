-- The equations `DATA A; G[x] = 5; H[A] = A; MAIN = G[H[1]];`.
use Rattle.std.specs.Prelude.{[], ◌∷◌, codes, pos}
use Rattle.fun_meaning.specs.declared.tree.Expr.{Expr}
use Rattle.fun_meaning.specs.declared.tree.Expr.TheOpen.{Expr-F}
use Rattle.fun_meaning.specs.declared.tree.Expr.TheViews.{roll-Expr}
use Rattle.fun_meaning.specs.declared.tree.Equation.{Equation}
use Rattle.fun_meaning.specs.declared.tree.Fun.{Fun}
use Rattle.fun_meaning.specs.Names.{Spelling}
use Rattle.fun_meaning.specs.Values.{integer, word, made, HasValue}
use Rattle.fun_meaning.specs.Sound.{AreSound, AreSmall}
use Rattle.fun_meaning.specs.Spelt.{AreSpelt, AreLight}

-- A
abbrev pub name_a : Spelling
name_a = codes "A"

-- G
abbrev pub name_g : Spelling
name_g = codes "G"

-- H
abbrev pub name_h : Spelling
name_h = codes "H"

-- x
abbrev pub name_x : Spelling
name_x = codes "x"

-- the variable x
abbrev pub variable_x : Expr
variable_x = roll-Expr (Expr-F.Variable (word name_x))

-- G[x] = 5
abbrev pub equation_g : Equation
equation_g = record { head = word name_g; patterns = variable_x ∷ []; right = integer (pos 5) }

-- H[A] = A
abbrev pub equation_h : Equation
equation_h = record { head = word name_h; patterns = made name_a [] ∷ []; right = made name_a [] }

-- H[1]
abbrev pub call_h : Expr
call_h = made name_h (integer (pos 1) ∷ [])

-- all of it
abbrev pub example : Fun
example = record { constructors = word name_a ∷ []; equations = equation_g ∷ equation_h ∷ []; main = made name_g (call_h ∷ []) }

-- they have no fault, and are spelled and of a size as a text gives them
pub record ExampleIsSound : Type 0 where
  pub sound : AreSound example
  pub small : AreSmall example
  pub spelt : AreSpelt example
  pub light : AreLight example

-- and MAIN has no value, though a lazy reading would give 5
abbrev pub ExampleHasNoValue : Type 0
ExampleHasNoValue = (v : Expr) → ¬ HasValue example example.main v

-- but `H[A]` has the value A
abbrev pub ExampleHasValue : Type 0
ExampleHasValue = HasValue example (made name_h (made name_a [] ∷ [])) (made name_a [])
