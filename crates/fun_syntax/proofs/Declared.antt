-- The steps of the loops over what is declared and bound.
use Rattle.std.proofs.Common.{◌≡◌, ℕ, ◌+◌, ◌-◌, ◌≤◌, List, [], ◌∷◌, length, take, drop, get_or, Option, sym, ap, ◌∙◌, subst, arith}
use Rattle.std.proofs.lemmas.List.{take_all}
use Rattle.dactl_base.specs.declared.refusal.Place.{Place}
use Rattle.dactl_base.specs.declared.refusal.Refusal.{Refusal}
use Rattle.dactl_meaning.specs.declared.tree.Name.{Name}
use Rattle.fun_meaning.specs.declared.tree.Equation.{Equation}
use Rattle.fun_syntax.specs.declared.pieces.Piece.{Piece}
use Rattle.fun_syntax.specs.declared.roles.Role.{Role}
use Rattle.fun_syntax.specs.Faults.{constructor_faults, data_faults, new_functions, declaring_faults, head_faults, with_piece, with_pieces, again_faults, twice_faults}
use Rattle.fun_syntax.specs.Least.{sooner, least}
use Rattle.fun_syntax.specs.Roles.{with_constructor, with_constructors, with_function, with_functions}
use Rattle.fun_syntax.specs.Words.{Known}
use Rattle.fun_syntax.proofs.Sooner.{step}

-- what stands behind the first
abbrev pub tail : {X : Type 0} → List X → List X
tail xs = take (length xs - 1) (drop 1 xs)

pub cells : {X : Type 0} (xs : List X) (x : X) → 1 ≤ length xs → x ≡ get_or xs 0 x → xs ≡ x ∷ tail xs
cells [] x h is = absurd (omega arith)
cells (y ∷ ys) x h is = λ j. sym is j ∷ sym (take_all (length (y ∷ ys) - 1) ys (omega arith)) j

module _ (roles next : Known Role) (room left : ℕ) (name : Name) (rest after : List Name) (cells : rest ≡ name ∷ after) (grown : next ≡ with_constructor roles name) where
  pub data_step : (told one more all : Option Refusal) → left ≡ room - 1 → one ≡ least (constructor_faults roles room name) → more ≡ sooner told one → sooner told (least (data_faults roles room rest)) ≡ all → sooner more (least (data_faults next left after)) ≡ all
  data_step told one more all less is first so_far =
      (λ j. sooner more (least (data_faults (grown j) (less j) after)))
      ∙ step (constructor_faults roles room name) (data_faults (with_constructor roles name) (room - 1) after) told one more all (subst (λ l. sooner told (least (data_faults roles room l)) ≡ all) cells so_far) is first

  pub data_roles : (all : Known Role) → with_constructors roles rest ≡ all → with_constructors next after ≡ all
  data_roles all so_far = (λ j. with_constructors (grown j) after) ∙ subst (λ l. with_constructors roles l ≡ all) cells so_far

module _ (roles next : Known Role) (eq : Equation) (rest after : List Equation) (cells : rest ≡ eq ∷ after) (grown : next ≡ with_function roles eq) where
  pub head_step : (names rules fewer left new : ℕ) (told one more all : Option Refusal) → new ≡ new_functions roles eq → fewer ≡ names - new → left ≡ rules - (1 + new) → one ≡ least (declaring_faults names rules eq.head new) → more ≡ sooner told one
      → sooner told (least (head_faults roles names rules rest)) ≡ all → sooner more (least (head_faults next fewer left after)) ≡ all
  head_step names rules fewer left new told one more all made less down is first so_far =
      (λ j. sooner more (least (head_faults (grown j) ((less ∙ ap (λ n. names - n) made) j) ((down ∙ ap (λ n. rules - (1 + n)) made) j) after)))
      ∙ step (declaring_faults names rules eq.head (new_functions roles eq)) (head_faults (with_function roles eq) (names - new_functions roles eq) (rules - (1 + new_functions roles eq)) after) told one more all
      (subst (λ l. sooner told (least (head_faults roles names rules l)) ≡ all) cells so_far) (is ∙ ap (λ n. least (declaring_faults names rules eq.head n)) made) first

  pub head_roles : (all : Known Role) → with_functions roles rest ≡ all → with_functions next after ≡ all
  head_roles all so_far = (λ j. with_functions (grown j) after) ∙ subst (λ l. with_functions roles l ≡ all) cells so_far

module _ (bound next : Known Place) (p : Piece) (rest after : List Piece) (cells : rest ≡ p ∷ after) (grown : next ≡ with_piece bound p) where
  pub twice_step : (told one more all : Option Refusal) → one ≡ least (again_faults bound p) → more ≡ sooner told one → sooner told (least (twice_faults bound rest)) ≡ all → sooner more (least (twice_faults next after)) ≡ all
  twice_step told one more all is first so_far =
      (λ j. sooner more (least (twice_faults (grown j) after)))
      ∙ step (again_faults bound p) (twice_faults (with_piece bound p) after) told one more all (subst (λ l. sooner told (least (twice_faults bound l)) ≡ all) cells so_far) is first

  pub twice_bound : (all : Known Place) → with_pieces bound rest ≡ all → with_pieces next after ≡ all
  twice_bound all so_far = (λ j. with_pieces (grown j) after) ∙ subst (λ l. with_pieces bound l ≡ all) cells so_far
