-- Equations without a fault in their names are sound.
use Rattle.std.proofs.Common.{◌≡◌, ℕ, Bool, true, false, not, ◌&&◌, List, [], ◌∷◌, ◌++◌, map, length, Option, Some, is_some, is_none, nat_lt, slice_get, refl, sym, ap, ◌∙◌, subst}
use Rattle.std.specs.List.{AllByRecursion, flat_map, list_all}
use Rattle.dactl_base.specs.declared.refusal.Kind.TheVariants as kinds
use Rattle.dactl_base.specs.declared.refusal.Place.{Place}
use Rattle.dactl_meaning.specs.declared.tree.Name.{Name}
use Rattle.dactl_meaning.specs.Expansion.{is_among}
use Rattle.fun_meaning.specs.declared.tree.Expr.{Expr}
use Rattle.fun_meaning.specs.declared.tree.Equation.{Equation}
use Rattle.fun_meaning.specs.declared.tree.Fun.{Fun}
use Rattle.fun_meaning.specs.Names.{Spelling}
use Rattle.fun_meaning.specs.Values.{equation_names}
use Rattle.fun_meaning.specs.Functions.{names_of}
use Rattle.fun_meaning.specs.Translation.{IsSound}
use Rattle.fun_meaning.specs.Sound.{AreOnce, sound_level, is_sound, known_level, is_known, fits_in}
use Rattle.fun_meaning.proofs.Matches.{both_true}
use Rattle.fun_meaning.proofs.Zips.{each_at}
use Rattle.fun_syntax.specs.declared.pieces.Piece.{Piece}
use Rattle.fun_syntax.specs.declared.pieces.Piece.TheVariants as piece
use Rattle.fun_syntax.specs.declared.roles.Role.{Role}
use Rattle.fun_syntax.specs.Faults.{most_arguments, name_faults, piece_faults, use_faults, with_pieces, free_faults, unbound_faults, expression_faults, equation_faults}
use Rattle.fun_syntax.specs.Least.{when}
use Rattle.fun_syntax.specs.Pieces.{pieces_of, left_pieces}
use Rattle.fun_syntax.specs.Roles.{roles_of, is_called, has_other_count}
use Rattle.fun_syntax.specs.Words.{Known, nothing}
use Rattle.fun_reading.specs.Statements.{FaultlessAreSound}
use Rattle.fun_reading.proofs.Empty.{front_empty, back_empty, each_empty, when_none, not_none}
use Rattle.fun_reading.proofs.SoundPieces.{holds, all_hold, piece_names, left_names, bound_after, distinct_names}
use Rattle.fun_reading.proofs.SoundNames.{are_once}
use Rattle.fun_reading.proofs.SoundUses.{HasNone, has_none, HasNoneIn, has_none_in, IsOfEquations, heads_are, constructor_is, names_once, names_apart, known, fits}

-- ---- one name

record HasGoodName (r : Option Role) (count : ℕ) : Type 0 where
  pub there : is_none r ≡ false
  pub count_fits : has_other_count r count ≡ false

good_name : (r : Option Role) (in_pattern : Bool) (name : Name) (count : ℕ) → name_faults r in_pattern name count ≡ [] → HasGoodName r count
good_name r in_pattern name count none =
    let later : when (in_pattern && is_called r) kinds.NotAConstructor name ++ (when (has_other_count r count) kinds.WrongArity name ++ when (nat_lt most_arguments count) kinds.TooWide name) ≡ [] =
    back_empty (when (is_none r) kinds.UnknownName name) (when (in_pattern && is_called r) kinds.NotAConstructor name ++ (when (has_other_count r count) kinds.WrongArity name ++ when (nat_lt most_arguments count) kinds.TooWide name)) none in
    let last : when (has_other_count r count) kinds.WrongArity name ++ when (nat_lt most_arguments count) kinds.TooWide name ≡ [] =
    back_empty (when (in_pattern && is_called r) kinds.NotAConstructor name) (when (has_other_count r count) kinds.WrongArity name ++ when (nat_lt most_arguments count) kinds.TooWide name) later in
    record {
      there = when_none (is_none r) kinds.UnknownName name
          (front_empty (when (is_none r) kinds.UnknownName name) (when (in_pattern && is_called r) kinds.NotAConstructor name ++ (when (has_other_count r count) kinds.WrongArity name ++ when (nat_lt most_arguments count) kinds.TooWide name)) none);
      count_fits = when_none (has_other_count r count) kinds.WrongArity name (front_empty (when (has_other_count r count) kinds.WrongArity name) (when (nat_lt most_arguments count) kinds.TooWide name) last);
    }

each_both : {A : Type 0} (P Q : A → Type 0) (xs : List A) → AllByRecursion P xs → AllByRecursion Q xs → AllByRecursion (λ x. P x × Q x) xs
each_both P Q [] ps qs = tt
each_both P Q (x ∷ xs) ps qs = ((ps.0, qs.0), each_both P Q xs ps.1 qs.1)

module _ (e : Fun) (none : HasNone e) where
  -- ---- patterns

  abbrev IsKnownPiece : Piece → Type 0
  IsKnownPiece p = piece_faults (roles_of e) true p ≡ []

  known_made : (g : Name) (bs : List Bool) → IsKnownPiece (piece.Made g (length bs)) → list_all (λ b. b) bs ≡ true → (is_among (names_of e) g.text && list_all (λ b. b) bs) ≡ true
  known_made g bs fine all = both_true _ _ (known e none g.text (good_name (roles_of e g.text) true g (length bs) fine).there) all

  patterns_known : (xs : List Expr) → use_faults (roles_of e) true (flat_map pieces_of xs) ≡ [] → list_all (λ b. b) (map (is_known (is_among (names_of e))) xs) ≡ true
  patterns_known xs fine =
      all_hold IsKnownPiece (known_level (is_among (names_of e))) (λ x is. refl) (λ i. refl) known_made xs (each_empty (piece_faults (roles_of e) true) (flat_map pieces_of xs) fine)

  -- ---- expressions

  module _ (bound : Known Place) (vars : List Spelling) (are : (w : Spelling) → is_some (bound w) ≡ is_among vars w) where
    abbrev IsFine : Piece → Type 0
    IsFine p = (piece_faults (roles_of e) false p ≡ []) × (free_faults bound p ≡ [])

    variable_bound : (x : Name) → IsFine (piece.Variable x) → is_among vars x.text ≡ true
    variable_bound x fine = sym (are x.text) ∙ not_none (is_some (bound x.text)) (when_none (not (is_some (bound x.text))) kinds.Unbound x fine.1)

    name_fits : (g : Name) (bs : List Bool) → IsFine (piece.Made g (length bs)) → list_all (λ b. b) bs ≡ true → (fits_in e g.text (length bs) && list_all (λ b. b) bs) ≡ true
    name_fits g bs fine all =
        let good = good_name (roles_of e g.text) false g (length bs) fine.0 in
        both_true _ _ (fits e none g.text (length bs) good.there good.count_fits) all

    expression_sound : (x : Expr) → expression_faults (roles_of e) bound (pieces_of x) ≡ [] → is_sound (fits_in e) vars x ≡ true
    expression_sound x fine =
        holds IsFine (sound_level (fits_in e) vars) variable_bound (λ i. refl) name_fits x
        (each_both (λ p. piece_faults (roles_of e) false p ≡ []) (λ p. free_faults bound p ≡ []) (pieces_of x)
        (each_empty (piece_faults (roles_of e) false) (pieces_of x) (front_empty (use_faults (roles_of e) false (pieces_of x)) (unbound_faults bound (pieces_of x)) fine))
        (each_empty (free_faults bound) (pieces_of x) (back_empty (use_faults (roles_of e) false (pieces_of x)) (unbound_faults bound (pieces_of x)) fine)))

  -- ---- equations

  none_at : (i : ℕ) (eq : Equation) → slice_get e.equations i ≡ Some eq → HasNoneIn e eq
  none_at i eq at = has_none_in e eq (each_at (λ (x : Equation). equation_faults (roles_of e) x ≡ []) e.equations i eq none.equations at)

  variables_are : (eq : Equation) (w : Spelling) → is_some (with_pieces nothing (left_pieces eq) w) ≡ is_among (equation_names eq) w
  variables_are eq w = bound_after (left_pieces eq) nothing w ∙ ap (λ names. is_among names w) (left_names eq.patterns)

  heads_sound : (i : ℕ) (eq : Equation) → slice_get e.equations i ≡ Some eq → IsSound e eq
  heads_sound i eq at =
      let here = each_at (λ (x : Equation). IsOfEquations e x.head.text) e.equations i eq (heads_are e none) at in
      record {
        no_operation = here.no_operation;
        no_constructor = here.no_constructor;
        no_check = here.free.check;
        once = subst AreOnce (left_names eq.patterns) (are_once (piece_names (left_pieces eq)) (distinct_names (left_pieces eq) nothing (none_at i eq at).twice));
      }

  rights_sound : (i : ℕ) (eq : Equation) → slice_get e.equations i ≡ Some eq → is_sound (fits_in e) (equation_names eq) eq.right ≡ true
  rights_sound i eq at = expression_sound (with_pieces nothing (left_pieces eq)) (equation_names eq) (variables_are eq) eq.right (none_at i eq at).right

pub faultless_are_sound : FaultlessAreSound
faultless_are_sound e no_fault =
    let none = has_none e no_fault in
    record {
      heads = heads_sound e none;
      constructors = constructor_is e none;
      once = names_once e none;
      apart = names_apart e none;
      patterns = λ i eq at. patterns_known e none eq.patterns (none_at e none i eq at).lefts;
      rights = rights_sound e none;
      main = expression_sound e none nothing [] (λ w. refl) e.main none.main;
    }
