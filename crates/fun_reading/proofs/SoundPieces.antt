-- What holds of each piece of an expression holds of the expression at every depth; and the names among pieces.
use Rattle.std.proofs.Common.{◌≡◌, Bool, true, false, ◌||◌, List, [], ◌∷◌, ◌++◌, map, length, ℤ, Option, Some, None, is_some, refl, sym, ap, ◌∙◌, subst, if◌then◌else◌}
use Rattle.std.specs.List.{AllByRecursion, flat_map, list_all}
use Rattle.std.specs.Option.{option_or}
use Rattle.std.specs.Str.{bytes_eq}
use Rattle.std.proofs.lemmas.List.{length-map}
use Rattle.dactl_base.specs.declared.refusal.Kind.TheVariants as kinds
use Rattle.dactl_base.specs.declared.refusal.Place.{Place}
use Rattle.dactl_meaning.specs.declared.tree.Name.{Name}
use Rattle.dactl_meaning.specs.Expansion.{is_among}
use Rattle.fun_meaning.specs.declared.tree.Expr.{Expr}
use Rattle.fun_meaning.specs.declared.tree.Expr.TheOpen.{Expr-F}
use Rattle.fun_meaning.specs.declared.tree.Expr.TheFolds.{fold-Expr, fold-roll-Expr}
use Rattle.fun_meaning.specs.Names.{Spelling, same_name}
use Rattle.fun_meaning.specs.Values.{all_names, names_level, variables_of}
use Rattle.fun_meaning.proofs.Inducing.{Each, expr_induction}
use Rattle.fun_meaning.proofs.Matches.{both_true, same_name_refl, same_name_is}
use Rattle.fun_syntax.specs.declared.pieces.Piece.{Piece}
use Rattle.fun_syntax.specs.declared.pieces.Piece.TheVariants as piece
use Rattle.fun_syntax.specs.Faults.{with_piece, with_pieces, again_faults, twice_faults}
use Rattle.fun_syntax.specs.Pieces.{pieces_level, pieces_of}
use Rattle.fun_syntax.specs.Words.{Known, with_word}
use Rattle.fun_reading.proofs.Lists.{each_split}
use Rattle.fun_reading.proofs.Empty.{front_empty, back_empty, when_none}
use Rattle.fun_reading.proofs.Roles.{bytes_same, same_swapped}

-- ---- from pieces to expressions

module _ (P : Piece → Type 0) (level : Expr-F Bool → Bool) (variable : (x : Name) → P (piece.Variable x) → level (Expr-F.Variable x) ≡ true) (integer : (i : ℤ) → level (Expr-F.Integer i) ≡ true)
    (made : (g : Name) (bs : List Bool) → P (piece.Made g (length bs)) → list_all (λ b. b) bs ≡ true → level (Expr-F.Made g bs) ≡ true) where
  abbrev Holds : Expr → Type 0
  Holds x = AllByRecursion P (pieces_of x) → fold-Expr Bool level x ≡ true

  all_args : (xs : List Expr) → Each Holds xs → AllByRecursion P (flat_map (λ u. u) (map pieces_of xs)) → list_all (λ b. b) (map (fold-Expr Bool level) xs) ≡ true
  all_args [] each ps = refl
  all_args (x ∷ xs) each ps =
      let parts = each_split P (pieces_of x) (flat_map (λ u. u) (map pieces_of xs)) ps in
      both_true _ _ (each.0 parts.0) (all_args xs each.1 parts.1)

  holds_made : (g : Name) (xs : List Expr) → Each Holds xs → AllByRecursion P (piece.Made g (length (map pieces_of xs)) ∷ flat_map (λ u. u) (map pieces_of xs)) → level (Expr-F.Made g (map (fold-Expr Bool level) xs)) ≡ true
  holds_made g xs each ps =
      let long : length (map pieces_of xs) ≡ length (map (fold-Expr Bool level) xs) = length-map xs pieces_of ∙ sym (length-map xs (fold-Expr Bool level)) in
      made g (map (fold-Expr Bool level) xs) (subst (λ n. P (piece.Made g n)) long ps.0) (all_args xs each ps.1)

  -- one expression
  pub holds : (x : Expr) → AllByRecursion P (pieces_of x) → fold-Expr Bool level x ≡ true
  holds = expr_induction Holds (record {
    variable = λ x ps. fold-roll-Expr Bool level (Expr-F.Variable x) ∙ variable x (subst (AllByRecursion P) (fold-roll-Expr (List Piece) pieces_level (Expr-F.Variable x)) ps).0;
    integer = λ i ps. fold-roll-Expr Bool level (Expr-F.Integer i) ∙ integer i;
    made = λ g xs each ps. fold-roll-Expr Bool level (Expr-F.Made g xs) ∙ holds_made g xs each (subst (AllByRecursion P) (fold-roll-Expr (List Piece) pieces_level (Expr-F.Made g xs)) ps);
  })

  -- several
  pub all_hold : (xs : List Expr) → AllByRecursion P (flat_map pieces_of xs) → list_all (λ b. b) (map (fold-Expr Bool level) xs) ≡ true
  all_hold [] ps = refl
  all_hold (x ∷ xs) ps =
      let parts = each_split P (pieces_of x) (flat_map pieces_of xs) ps in
      both_true _ _ (holds x parts.0) (all_hold xs parts.1)

-- ---- the variables among pieces

abbrev named : Piece → List Spelling → List Spelling
named (piece.Variable name) more = name.text ∷ more
named piece.Integer more = more
named (piece.Made name count) more = more

abbrev pub piece_names : List Piece → List Spelling
piece_names [] = []
piece_names (p ∷ more) = named p (piece_names more)

named_append : (p : Piece) (xs ys : List Spelling) → named p (xs ++ ys) ≡ named p xs ++ ys
named_append (piece.Variable name) xs ys = refl
named_append piece.Integer xs ys = refl
named_append (piece.Made name count) xs ys = refl

names_append : (ps qs : List Piece) → piece_names (ps ++ qs) ≡ piece_names ps ++ piece_names qs
names_append [] qs = refl
names_append (p ∷ ps) qs = ap (named p) (names_append ps qs) ∙ named_append p (piece_names ps) (piece_names qs)

abbrev IsNamed : Expr → Type 0
IsNamed x = piece_names (pieces_of x) ≡ variables_of x

names_args : (xs : List Expr) → Each IsNamed xs → piece_names (flat_map (λ u. u) (map pieces_of xs)) ≡ all_names (map variables_of xs)
names_args [] each = refl
names_args (x ∷ xs) each =
    names_append (pieces_of x) (flat_map (λ u. u) (map pieces_of xs))
    ∙ ap (λ ns. ns ++ piece_names (flat_map (λ u. u) (map pieces_of xs))) each.0
    ∙ ap (λ ns. variables_of x ++ ns) (names_args xs each.1)

names_are : (x : Expr) → IsNamed x
names_are = expr_induction IsNamed (record {
  variable = λ x. ap piece_names (fold-roll-Expr (List Piece) pieces_level (Expr-F.Variable x)) ∙ sym (fold-roll-Expr (List Spelling) names_level (Expr-F.Variable x));
  integer = λ i. ap piece_names (fold-roll-Expr (List Piece) pieces_level (Expr-F.Integer i)) ∙ sym (fold-roll-Expr (List Spelling) names_level (Expr-F.Integer i));
  made = λ g xs each. ap piece_names (fold-roll-Expr (List Piece) pieces_level (Expr-F.Made g xs)) ∙ names_args xs each ∙ sym (fold-roll-Expr (List Spelling) names_level (Expr-F.Made g xs));
})

-- those of a left side
pub left_names : (xs : List Expr) → piece_names (flat_map pieces_of xs) ≡ all_names (map variables_of xs)
left_names [] = refl
left_names (x ∷ xs) =
    names_append (pieces_of x) (flat_map pieces_of xs)
    ∙ ap (λ ns. ns ++ piece_names (flat_map pieces_of xs)) (names_are x)
    ∙ ap (λ ns. variables_of x ++ ns) (left_names xs)

-- ---- the variables that are bound

some_more : {A : Type 0} (o : Option A) (b : Bool) (v : A) → is_some (option_or o (if b then Some v else None)) ≡ (is_some o || b)
some_more (Some x) b v = refl
some_more None true v = refl
some_more None false v = refl

or_false : (b : Bool) → b ≡ (b || false)
or_false true = refl
or_false false = refl

or_assoc : (a b c : Bool) → ((a || b) || c) ≡ (a || (b || c))
or_assoc true b c = refl
or_assoc false b c = refl

one_bound : (p : Piece) (bound : Known Place) (w : Spelling) (more : List Spelling) → (is_some (with_piece bound p w) || is_among more w) ≡ (is_some (bound w) || is_among (named p more) w)
unfolding with_word
one_bound (piece.Variable x) bound w more =
    ap (λ b. b || is_among more w) (some_more (bound w) (bytes_eq w x.text) x.place)
    ∙ or_assoc (is_some (bound w)) (bytes_eq w x.text) (is_among more w)
    ∙ ap (λ b. is_some (bound w) || (b || is_among more w)) (bytes_same w x.text ∙ same_swapped w x.text ∙ sym (bytes_same x.text w))
one_bound piece.Integer bound w more = refl
one_bound (piece.Made name count) bound w more = refl

-- what is bound after pieces
pub bound_after : (ps : List Piece) (bound : Known Place) (w : Spelling) → is_some (with_pieces bound ps w) ≡ (is_some (bound w) || is_among (piece_names ps) w)
bound_after [] bound w = or_false (is_some (bound w))
bound_after (p ∷ ps) bound w = bound_after ps (with_piece bound p) w ∙ one_bound p bound w (piece_names ps)

-- ---- names that stand once

abbrev pub AreDistinct : List Spelling → Type 0
AreDistinct [] = Unit {0}
AreDistinct (x ∷ xs) = (is_among xs x ≡ false) × AreDistinct xs

unlike_by : (P : Spelling → Bool) (v w : Spelling) (b : Bool) → same_name v w ≡ b → P v ≡ false → P w ≡ true → b ≡ false
unlike_by P v w true same lacks has =
    let one : v ≡ w = same_name_is v w same in
    let clash : true ≡ false = sym has ∙ sym (ap P one) ∙ lacks in
    clash
unlike_by P v w false same lacks has = refl

-- words that a test tells apart
pub unlike : (P : Spelling → Bool) (v w : Spelling) → P v ≡ false → P w ≡ true → same_name v w ≡ false
unlike P v w lacks has = unlike_by P v w (same_name v w) refl lacks has

record AreFresh (bound : Known Place) (names : List Spelling) : Type 0 where
  pub distinct : AreDistinct names
  pub new : (w : Spelling) → is_some (bound w) ≡ true → is_among names w ≡ false

neither : (a b : Bool) → a ≡ false → b ≡ false → (a || b) ≡ false
neither true b one two = one
neither false b one two = two

pub or_left : (a b : Bool) → a ≡ true → (a || b) ≡ true
or_left true b is = refl
or_left false b is = absurd (cc is)

pub or_right : (a b : Bool) → b ≡ true → (a || b) ≡ true
or_right true b is = refl
or_right false b is = is

fresh_one : (p : Piece) (bound : Known Place) (names : List Spelling) → again_faults bound p ≡ [] → AreFresh (with_piece bound p) names → AreFresh bound (named p names)
unfolding with_word
fresh_one (piece.Variable x) bound names none rest =
    let free : is_some (bound x.text) ≡ false = when_none (is_some (bound x.text)) kinds.NamedTwice x none in
    let itself : is_some (option_or (bound x.text) (if bytes_eq x.text x.text then Some x.place else None)) ≡ true = some_more (bound x.text) (bytes_eq x.text x.text) x.place ∙ or_right (is_some (bound x.text)) (bytes_eq x.text x.text) (bytes_same x.text x.text ∙ same_name_refl x.text) in
    record {
      distinct = (rest.new x.text itself, rest.distinct);
      new = λ w is. neither (bytes_eq x.text w) (is_among names w) (bytes_same x.text w ∙ unlike (λ v. is_some (bound v)) x.text w free is)
          (rest.new w (some_more (bound w) (bytes_eq w x.text) x.place ∙ or_left (is_some (bound w)) (bytes_eq w x.text) is));
    }
fresh_one piece.Integer bound names none rest = record { distinct = rest.distinct; new = rest.new }
fresh_one (piece.Made name count) bound names none rest = record { distinct = rest.distinct; new = rest.new }

fresh_names : (ps : List Piece) (bound : Known Place) → twice_faults bound ps ≡ [] → AreFresh bound (piece_names ps)
fresh_names [] bound none = record { distinct = tt; new = λ w is. refl }
fresh_names (p ∷ ps) bound none =
    fresh_one p bound (piece_names ps) (front_empty (again_faults bound p) (twice_faults (with_piece bound p) ps) none) (fresh_names ps (with_piece bound p) (back_empty (again_faults bound p) (twice_faults (with_piece bound p) ps) none))

-- the variables of pieces of which none stands there twice
pub distinct_names : (ps : List Piece) (bound : Known Place) → twice_faults bound ps ≡ [] → AreDistinct (piece_names ps)
distinct_names ps bound none = (fresh_names ps bound none).distinct
