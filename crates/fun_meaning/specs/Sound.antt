-- Equations without the faults that a text of equations may have.
use Rattle.std.specs.Prelude.{◌≡◌, ℕ, ◌+◌, ◌≤◌, Bool, true, false, not, ◌&&◌, List, [], map, length, ◌==◌, nat_lt, Option, Some, None, slice_get}
use Rattle.std.specs.List.{list_all, sum}
use Rattle.dactl_meaning.specs.Expansion.{is_among}
use Rattle.fun_meaning.specs.declared.tree.Expr.{Expr}
use Rattle.fun_meaning.specs.declared.tree.Expr.TheOpen.{Expr-F}
use Rattle.fun_meaning.specs.declared.tree.Expr.TheFolds.{fold-Expr}
use Rattle.fun_meaning.specs.declared.tree.Equation.{Equation}
use Rattle.fun_meaning.specs.declared.tree.Fun.{Fun}
use Rattle.fun_meaning.specs.Names.{Spelling, same_name, check_name, operation, place_of}
use Rattle.fun_meaning.specs.Values.{is_constructor, equation_names}
use Rattle.fun_meaning.specs.Translation.{arity, IsSound}
use Rattle.fun_meaning.specs.Functions.{functions, names_of, arithmetic_name, fun_name}

-- ---- names and arguments

-- the name is neither that of Arithmetic nor that of the module
abbrev pub IsApart : Spelling → Type 0
IsApart w = (same_name arithmetic_name w ≡ false) × (same_name fun_name w ≡ false)

-- each name stands there once
abbrev pub AreOnce : List Spelling → Type 0
AreOnce xs = (k : ℕ) (x : Spelling) → slice_get xs k ≡ Some x → place_of xs x ≡ k

-- One level: each variable is one of these, and each name has arguments as it may.
abbrev pub sound_level : (Spelling → ℕ → Bool) → List Spelling → Expr-F Bool → Bool
sound_level fits vars (Expr-F.Variable x) = is_among vars x.text
sound_level fits vars (Expr-F.Integer i) = true
sound_level fits vars (Expr-F.Made g args) = fits g.text (length args) && list_all (λ b. b) args

-- the expression is so, at every depth
abbrev pub is_sound : (Spelling → ℕ → Bool) → List Spelling → Expr → Bool
is_sound fits vars = fold-Expr Bool (sound_level fits vars)

-- One level: each name is a known one.
abbrev pub known_level : (Spelling → Bool) → Expr-F Bool → Bool
known_level knows (Expr-F.Variable x) = true
known_level knows (Expr-F.Integer i) = true
known_level knows (Expr-F.Made g args) = knows g.text && list_all (λ b. b) args

-- the expression is so, at every depth
abbrev pub is_known : (Spelling → Bool) → Expr → Bool
is_known knows = fold-Expr Bool (known_level knows)

-- so many arguments, where the name has a number of them
abbrev pub arity_fits : Option ℕ → ℕ → Bool
arity_fits None count = true
arity_fits (Some k) count = k == count

-- a constructor, function or operation with as many arguments as it has
abbrev pub fits_in : Fun → Spelling → ℕ → Bool
fits_in e g count = is_among (names_of e) g && (not (same_name g check_name) && arity_fits (arity e g) count)

-- each name is declared once and used as what it is, and each variable of a right side is bound
pub record AreSound (e : Fun) : Type 0 where
  pub heads : (i : ℕ) (eq : Equation) → slice_get e.equations i ≡ Some eq → IsSound e eq
  pub constructors : (g : Spelling) → is_constructor e g ≡ true → (operation g ≡ None) × (same_name g check_name ≡ false)
  pub once : AreOnce (names_of e)
  pub apart : (g : Spelling) → is_among (names_of e) g ≡ true → IsApart g
  pub patterns : (i : ℕ) (eq : Equation) → slice_get e.equations i ≡ Some eq → list_all (λ b. b) (map (is_known (is_among (names_of e))) eq.patterns) ≡ true
  pub rights : (i : ℕ) (eq : Equation) → slice_get e.equations i ≡ Some eq → is_sound (fits_in e) (equation_names eq) eq.right ≡ true
  pub main : is_sound (fits_in e) [] e.main ≡ true

-- ---- widths and counts

-- One level: no name has more than 16 arguments.
abbrev pub narrow_level : Expr-F Bool → Bool
narrow_level (Expr-F.Variable x) = true
narrow_level (Expr-F.Integer i) = true
narrow_level (Expr-F.Made g args) = not (nat_lt 16 (length args)) && list_all (λ b. b) args

-- no name of the expression has more than 16 arguments
abbrev pub is_narrow : Expr → Bool
is_narrow = fold-Expr Bool narrow_level

-- One level: how many names, integers and variables.
abbrev pub size_level : Expr-F ℕ → ℕ
size_level (Expr-F.Variable x) = 1
size_level (Expr-F.Integer i) = 1
size_level (Expr-F.Made g args) = 1 + sum args

-- how many names, integers and variables the expression has
abbrev pub size_of : Expr → ℕ
size_of = fold-Expr ℕ size_level

-- how many a left side has, its head included
abbrev pub left_size : Equation → ℕ
left_size eq = 1 + sum (map size_of eq.patterns)

-- nothing is too wide, and there are not too many names and rules
pub record AreSmall (e : Fun) : Type 0 where
  pub heads : (i : ℕ) (eq : Equation) → slice_get e.equations i ≡ Some eq → nat_lt 16 (length eq.patterns) ≡ false
  pub lefts : (i : ℕ) (eq : Equation) → slice_get e.equations i ≡ Some eq → nat_lt 64 (left_size eq) ≡ false
  pub patterns : (i : ℕ) (eq : Equation) → slice_get e.equations i ≡ Some eq → list_all (λ b. b) (map is_narrow eq.patterns) ≡ true
  pub rights : (i : ℕ) (eq : Equation) → slice_get e.equations i ≡ Some eq → is_narrow eq.right ≡ true
  pub main : is_narrow e.main ≡ true
  pub names : length (functions e) + length e.constructors ≤ 16382
  pub rules : length e.equations + length (functions e) ≤ 4094
