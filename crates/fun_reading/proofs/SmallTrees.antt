-- The pieces of expressions are as many as their sizes, and where none is too wide, the expressions are narrow.
use Rattle.std.proofs.Common.{◌≡◌, ℕ, suc, ◌+◌, Bool, true, false, not, List, [], ◌∷◌, ◌++◌, map, length, refl, sym, ◌∙◌, ap, arith, length-append}
use Rattle.std.specs.Prelude.{nat_lt, is_none, ◌&&◌}
use Rattle.std.specs.List.{flat_map, list_all, sum}
use Rattle.std.proofs.lemmas.Bool.{and_from}
use Rattle.std.proofs.lemmas.List.{length-map}
use Rattle.std.proofs.lemmas.List.Concat.{flat_map-append}
use Rattle.std.proofs.lemmas.List.Folds.{flat_map-map}
use Rattle.std.proofs.lemmas.List.Sums.{sum_by-cons}
use Rattle.dactl_base.specs.declared.refusal.Kind.TheVariants as kinds
use Rattle.dactl_meaning.specs.declared.tree.Name.{Name}
use Rattle.fun_meaning.specs.declared.tree.Expr.{Expr}
use Rattle.fun_meaning.specs.declared.tree.Expr.TheOpen.{Expr-F}
use Rattle.fun_meaning.specs.declared.tree.Expr.TheViews.{roll-Expr}
use Rattle.fun_meaning.specs.declared.tree.Expr.TheFolds.{fold-roll-Expr, map-Expr}
use Rattle.fun_meaning.specs.Sound.{narrow_level, is_narrow, size_level, size_of}
use Rattle.fun_syntax.specs.declared.pieces.Piece.{Piece}
use Rattle.fun_syntax.specs.declared.roles.Role.{Role}
use Rattle.fun_syntax.specs.Faults.{name_faults, piece_faults, use_faults}
use Rattle.fun_syntax.specs.Least.{when}
use Rattle.fun_syntax.specs.Pieces.{pieces_level, pieces_of}
use Rattle.fun_syntax.specs.Roles.{is_called, has_other_count}
use Rattle.fun_syntax.specs.Words.{Known}
use Rattle.fun_reading.proofs.Empty.{front_empty, back_empty, when_none}
use Rattle.fun_meaning.proofs.Inducing.{Each, expr_induction}

-- the pieces of these one after the other
abbrev joined : List Expr → List Piece
joined xs = flat_map (λ (u : List Piece). u) (map pieces_of xs)

pieces_roll : (y : Expr-F Expr) → pieces_of (roll-Expr y) ≡ pieces_level (map-Expr Expr (List Piece) pieces_of y)
pieces_roll y = fold-roll-Expr (List Piece) pieces_level y

joined_is : (xs : List Expr) → joined xs ≡ flat_map pieces_of xs
joined_is xs = flat_map-map (λ (u : List Piece). u) pieces_of xs

-- ---- sizes

abbrev IsSized : Expr → Type 0
IsSized x = length (pieces_of x) ≡ size_of x

all_sized : (xs : List Expr) → Each IsSized xs → length (joined xs) ≡ sum (map size_of xs)
all_sized [] each = refl
all_sized (x ∷ xs) each =
    let long = length-append (pieces_of x) (joined xs) in
    let total = sum_by-cons (λ (n : ℕ). n) (size_of x) (map size_of xs) in
    let here : length (pieces_of x) ≡ size_of x = each.0 in
    let rest : length (joined xs) ≡ sum (map size_of xs) = all_sized xs each.1 in
    omega (arith, long, total, here, rest)

made_sized : (g : Name) (xs : List Expr) → Each IsSized xs → IsSized (roll-Expr (Expr-F.Made g xs))
made_sized g xs each =
    let rest : length (joined xs) ≡ sum (map size_of xs) = all_sized xs each in
    let one : suc (length (joined xs)) ≡ 1 + sum (map size_of xs) = omega (arith, rest) in
    ap length (pieces_roll (Expr-F.Made g xs)) ∙ one ∙ sym (fold-roll-Expr ℕ size_level (Expr-F.Made g xs))

sized : (x : Expr) → IsSized x
sized = expr_induction IsSized (record {
  variable = λ x. ap length (pieces_roll (Expr-F.Variable x)) ∙ sym (fold-roll-Expr ℕ size_level (Expr-F.Variable x));
  integer = λ i. ap length (pieces_roll (Expr-F.Integer i)) ∙ sym (fold-roll-Expr ℕ size_level (Expr-F.Integer i));
  made = λ g xs each. made_sized g xs each;
})

each_sized : (xs : List Expr) → Each IsSized xs
each_sized [] = tt
each_sized (x ∷ xs) = (sized x, each_sized xs)

pub pieces_counted : (xs : List Expr) → length (flat_map pieces_of xs) ≡ sum (map size_of xs)
pieces_counted xs = ap length (sym (joined_is xs)) ∙ all_sized xs (each_sized xs)

-- ---- widths

few_by : (none called other : Bool) (g : Name) (count : ℕ)
    → when none kinds.UnknownName g ++ (when called kinds.NotAConstructor g ++ (when other kinds.WrongArity g ++ when (nat_lt 16 count) kinds.TooWide g)) ≡ [] → nat_lt 16 count ≡ false
few_by none called other g count empty =
    let first = back_empty (when none kinds.UnknownName g) (when called kinds.NotAConstructor g ++ (when other kinds.WrongArity g ++ when (nat_lt 16 count) kinds.TooWide g)) empty in
    let second = back_empty (when called kinds.NotAConstructor g) (when other kinds.WrongArity g ++ when (nat_lt 16 count) kinds.TooWide g) first in
    when_none (nat_lt 16 count) kinds.TooWide g (back_empty (when other kinds.WrongArity g) (when (nat_lt 16 count) kinds.TooWide g) second)

module _ (roles : Known Role) (in_pattern : Bool) where
  abbrev IsNarrowIn : Expr → Type 0
  IsNarrowIn x = use_faults roles in_pattern (pieces_of x) ≡ [] → is_narrow x ≡ true

  all_narrow : (xs : List Expr) → Each IsNarrowIn xs → use_faults roles in_pattern (joined xs) ≡ [] → list_all (λ b. b) (map is_narrow xs) ≡ true
  all_narrow [] each empty = refl
  all_narrow (x ∷ xs) each empty =
      let parts : use_faults roles in_pattern (pieces_of x) ++ use_faults roles in_pattern (joined xs) ≡ [] = sym (flat_map-append (piece_faults roles in_pattern) (pieces_of x) (joined xs)) ∙ empty in
      and_from _ _ (each.0 (front_empty _ _ parts)) (all_narrow xs each.1 (back_empty _ _ parts))

  few : (g : Name) (count : ℕ) → name_faults (roles g.text) in_pattern g count ≡ [] → nat_lt 16 count ≡ false
  few g count empty = few_by (is_none (roles g.text)) (in_pattern && is_called (roles g.text)) (has_other_count (roles g.text) count) g count empty

  made_narrow : (g : Name) (xs : List Expr) → Each IsNarrowIn xs → IsNarrowIn (roll-Expr (Expr-F.Made g xs))
  made_narrow g xs each empty =
      let parts : name_faults (roles g.text) in_pattern g (length (map pieces_of xs)) ++ use_faults roles in_pattern (joined xs) ≡ [] = ap (use_faults roles in_pattern) (sym (pieces_roll (Expr-F.Made g xs))) ∙ empty in
      let same : length (map is_narrow xs) ≡ length (map pieces_of xs) = length-map xs is_narrow ∙ sym (length-map xs pieces_of) in
      let narrow = few g (length (map pieces_of xs)) (front_empty _ _ parts) in
      fold-roll-Expr Bool narrow_level (Expr-F.Made g xs)
      ∙ and_from _ _ (ap (λ n. not (nat_lt 16 n)) same ∙ ap not narrow) (all_narrow xs each (back_empty _ _ parts))

  pub narrow : (x : Expr) → IsNarrowIn x
  narrow = expr_induction IsNarrowIn (record {
    variable = λ x empty. fold-roll-Expr Bool narrow_level (Expr-F.Variable x);
    integer = λ i empty. fold-roll-Expr Bool narrow_level (Expr-F.Integer i);
    made = λ g xs each empty. made_narrow g xs each empty;
  })

  each_narrow : (xs : List Expr) → Each IsNarrowIn xs
  each_narrow [] = tt
  each_narrow (x ∷ xs) = (narrow x, each_narrow xs)

  pub pieces_narrow : (xs : List Expr) → use_faults roles in_pattern (flat_map pieces_of xs) ≡ [] → list_all (λ b. b) (map is_narrow xs) ≡ true
  pieces_narrow xs empty = all_narrow xs (each_narrow xs) (ap (use_faults roles in_pattern) (joined_is xs) ∙ empty)
