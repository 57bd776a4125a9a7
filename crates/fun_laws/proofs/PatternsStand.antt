-- The patterns that a translation expands to are the equations' patterns.
use Rattle.std.proofs.Common.{◌≡◌, ℕ, zero, suc, Bool, true, ◌&&◌, List, [], ◌∷◌, ◌++◌, map, Option, Some, slice_get, refl, sym, ◌∙◌, ap, subst, ℤ}
use Rattle.std.specs.List.{AllZip, flat_map, list_all}
use Rattle.std.proofs.lemmas.List.{map-append}
use Rattle.dactl_model.specs.declared.program.Class.{Class}
use Rattle.dactl_model.proofs.Unique.{left_true, right_true}
use Rattle.dactl_model.specs.declared.program.Pat.{Pat}
use Rattle.dactl_model.specs.declared.program.Pat.TheOpen.{Pat-F}
use Rattle.dactl_model.specs.declared.program.Pat.TheViews.{roll-Pat}
use Rattle.dactl_meaning.specs.declared.tree.Name.{Name}
use Rattle.dactl_meaning.specs.declared.tree.PatternTree.{PatternTree}
use Rattle.dactl_meaning.specs.declared.tree.PatternTree.TheOpen.{PatternTree-F}
use Rattle.dactl_meaning.specs.declared.tree.PatternTree.TheViews.{roll-PatternTree}
use Rattle.dactl_meaning.specs.declared.tree.PatternTree.TheFolds.{fold-roll-PatternTree, map-PatternTree}
use Rattle.dactl_meaning.specs.Sight.{Seen, SeenSymbol}
use Rattle.dactl_meaning.specs.Expansion.{Occurrence, occurrences_level, occurrences_in, at_name, expansion_level, expansion_by}
use Rattle.fun_meaning.specs.declared.tree.Expr.{Expr}
use Rattle.fun_meaning.specs.declared.tree.Expr.TheOpen.{Expr-F}
use Rattle.fun_meaning.specs.declared.tree.Expr.TheViews.{roll-Expr, out-Expr, out-roll-Expr}
use Rattle.fun_meaning.specs.declared.tree.Expr.TheFolds.{fold-roll-Expr}
use Rattle.fun_meaning.specs.Names.{Spelling}
use Rattle.fun_meaning.specs.Values.{all_names, names_level, variables_of, word}
use Rattle.fun_meaning.specs.Translation.{PatternLevel, IsPatternAt}
use Rattle.fun_meaning.proofs.Zips.{zip_weaken}
use Rattle.fun_meaning.proofs.Depths.{deeper}
use Rattle.fun_compile.specs.Translated.{pattern_level, pattern_tree}
use Rattle.fun_meaning.specs.Sound.{known_level, is_known}
use Rattle.fun_meaning.proofs.Inducing.{Each, expr_induction}
use Rattle.fun_laws.proofs.DrawnStands.{number_place}

-- ---- depths

abbrev Patterns : Type 1
Patterns = Expr → Pat → Type 0

level_more : (symbols names : List Spelling) (R S : Patterns) → ((x : Expr) (p : Pat) → R x p → S x p) → (y : Expr-F Expr) (p : Pat) → PatternLevel symbols names R y p → PatternLevel symbols names S y p
level_more symbols names R S more (Expr-F.Variable x) p is = is
level_more symbols names R S more (Expr-F.Integer i) p is = is
level_more symbols names R S more (Expr-F.Made g args) p is = (is.0, is.1, is.2, zip_weaken R S more args is.1 is.3, is.4)

pattern_more : (d : ℕ) (symbols names : List Spelling) (x : Expr) (p : Pat) → IsPatternAt d symbols names x p → IsPatternAt (suc d) symbols names x p
pattern_more zero symbols names x p is = absurd is
pattern_more (suc d) symbols names x p is = level_more symbols names (IsPatternAt d symbols names) (IsPatternAt (suc d) symbols names) (pattern_more d symbols names) (out-Expr x) p is

pattern_up : (k d : ℕ) (symbols names : List Spelling) (x : Expr) (p : Pat) → IsPatternAt k symbols names x p → IsPatternAt (deeper k d) symbols names x p
pattern_up k zero symbols names x p is = is
pattern_up k (suc d) symbols names x p is = pattern_more (deeper k d) symbols names x p (pattern_up k d symbols names x p is)

pattern_deeper : (k d : ℕ) (symbols names : List Spelling) (x : Expr) (p : Pat) → IsPatternAt d symbols names x p → IsPatternAt (deeper k d) symbols names x p
pattern_deeper k zero symbols names x p is = absurd is
pattern_deeper k (suc d) symbols names x p is = level_more symbols names (IsPatternAt d symbols names) (IsPatternAt (deeper k d) symbols names) (pattern_deeper k d symbols names) (out-Expr x) p is

abbrev pub IsPattern : List Spelling → List Spelling → Expr → Pat → Type 0
IsPattern symbols names x p = (d : ℕ) × IsPatternAt d symbols names x p

pub pattern_depth : (symbols names : List Spelling) (xs : List Expr) (ps : List Pat) → AllZip (IsPattern symbols names) xs ps → (d : ℕ) × AllZip (IsPatternAt d symbols names) xs ps
pattern_depth symbols names [] [] all = (0, tt)
pattern_depth symbols names [] (p ∷ ps) all = absurd all
pattern_depth symbols names (x ∷ xs) [] all = absurd all
pattern_depth symbols names (x ∷ xs) (p ∷ ps) all =
    let rest = pattern_depth symbols names xs ps all.1 in
    (deeper all.0.0 rest.0, (pattern_up all.0.0 rest.0 symbols names x p all.0.1, zip_weaken (IsPatternAt rest.0 symbols names) (IsPatternAt (deeper all.0.0 rest.0) symbols names) (pattern_deeper all.0.0 rest.0 symbols names) xs ps rest.1))

-- the name is seen as the symbol of that name
pub record IsSeen (symbols : List Spelling) (look : List ℕ → Option Seen) (g : Spelling) : Type 0 where
  pub number : ℕ
  pub class : Class
  pub seen : look g ≡ Some (SeenSymbol number class)
  pub named : slice_get symbols number ≡ Some g

module _ (symbols : List Spelling) (look : List ℕ → Option Seen) (expansion : ℕ → ℕ → Pat) (vars : List Spelling) (knows : Spelling → Bool) (seen : (g : Spelling) → knows g ≡ true → IsSeen symbols look g) where
  abbrev expand : PatternTree → Pat
  expand = expansion_by look expansion (Some vars)

  abbrev IsClaim : Expr → Type 0
  IsClaim x = is_known knows x ≡ true → IsPattern symbols vars x (expand (pattern_tree x))

  expand_roll : (y : PatternTree-F PatternTree) → expand (roll-PatternTree y) ≡ expansion_level look expansion (Some vars) (map-PatternTree PatternTree Pat expand y)
  expand_roll y = fold-roll-PatternTree Pat (expansion_level look expansion (Some vars)) y

  pub all_expanded : (xs : List Expr) → Each IsClaim xs → list_all (λ b. b) (map (is_known knows) xs) ≡ true → AllZip (IsPattern symbols vars) xs (map expand (map pattern_tree xs))
  all_expanded [] each known = tt
  all_expanded (x ∷ xs) each known = (each.0 (left_true _ _ known), all_expanded xs each.1 (right_true _ _ known))

  variable_case : (x : Name) → IsClaim (roll-Expr (Expr-F.Variable x))
  variable_case x known =
      let tree = fold-roll-Expr PatternTree pattern_level (Expr-F.Variable x) in (
        1,
        subst (λ y. PatternLevel symbols vars (IsPatternAt 0 symbols vars) y (expand (pattern_tree (roll-Expr (Expr-F.Variable x))))) (sym (out-roll-Expr (Expr-F.Variable x)))
            (ap expand tree ∙ expand_roll (PatternTree-F.Variable (word x.text)) ∙ ap (λ v. roll-Pat (Pat-F.Bind v (roll-Pat Pat-F.Any))) (number_place vars x.text)),
      )

  integer_case : (i : ℤ) → IsClaim (roll-Expr (Expr-F.Integer i))
  integer_case i known =
      let tree = fold-roll-Expr PatternTree pattern_level (Expr-F.Integer i) in (
        1,
        subst (λ y. PatternLevel symbols vars (IsPatternAt 0 symbols vars) y (expand (pattern_tree (roll-Expr (Expr-F.Integer i))))) (sym (out-roll-Expr (Expr-F.Integer i)))
            (ap expand tree ∙ expand_roll (PatternTree-F.Integer i)),
      )

  pub symbol_expanded : (g : Spelling) (args : List PatternTree) (s : IsSeen symbols look g) → expand (roll-PatternTree (PatternTree-F.Sym (word g) args)) ≡ roll-Pat (Pat-F.Sym s.number (map expand args))
  symbol_expanded g args s = expand_roll (PatternTree-F.Sym (word g) args) ∙ ap (λ o. at_name expansion o (map expand args)) s.seen

  made_case : (g : Name) (args : List Expr) → Each IsClaim args → IsClaim (roll-Expr (Expr-F.Made g args))
  made_case g args each known =
      let level : (knows g.text && list_all (λ b. b) (map (is_known knows) args)) ≡ true = sym (fold-roll-Expr Bool (known_level knows) (Expr-F.Made g args)) ∙ known in
      let s = seen g.text (left_true _ _ level) in
      let deep = pattern_depth symbols vars args (map expand (map pattern_tree args)) (all_expanded args each (right_true _ _ level)) in
      let tree = fold-roll-Expr PatternTree pattern_level (Expr-F.Made g args) in (
        suc deep.0,
        subst (λ y. PatternLevel symbols vars (IsPatternAt deep.0 symbols vars) y (expand (pattern_tree (roll-Expr (Expr-F.Made g args))))) (sym (out-roll-Expr (Expr-F.Made g args)))
            (s.number, map expand (map pattern_tree args), s.named, deep.1, ap expand tree ∙ symbol_expanded g.text (map pattern_tree args) s),
      )

  pub expanded : (x : Expr) → IsClaim x
  expanded = expr_induction IsClaim (record { variable = variable_case; integer = integer_case; made = made_case })

  each_expanded : (xs : List Expr) → Each IsClaim xs
  each_expanded [] = tt
  each_expanded (x ∷ xs) = (expanded x, each_expanded xs)

  pub patterns_expanded : (xs : List Expr) → list_all (λ b. b) (map (is_known knows) xs) ≡ true → AllZip (IsPattern symbols vars) xs (map expand (map pattern_tree xs))
  patterns_expanded xs known = all_expanded xs (each_expanded xs) known

-- ---- the variables of a pattern

abbrev texts : List Occurrence → List Spelling
texts os = map (λ (o : Occurrence). o.name.text) os

abbrev AreNamed : Expr → Type 0
AreNamed x = (choice : Bool) → texts (occurrences_in (pattern_tree x) choice) ≡ variables_of x

pub occurs_roll : (y : PatternTree-F PatternTree) (choice : Bool) → occurrences_in (roll-PatternTree y) choice ≡ occurrences_level (map-PatternTree PatternTree (Bool → List Occurrence) occurrences_in y) choice
occurs_roll y choice = ap (λ f. f choice) (fold-roll-PatternTree (Bool → List Occurrence) occurrences_level y)

pub all_named : (xs : List Expr) → Each AreNamed xs → (choice : Bool) → texts (flat_map (λ (a : Bool → List Occurrence). a choice) (map occurrences_in (map pattern_tree xs))) ≡ all_names (map variables_of xs)
all_named [] each choice = refl
all_named (x ∷ xs) each choice =
    map-append (λ (o : Occurrence). o.name.text) (occurrences_in (pattern_tree x) choice) (flat_map (λ (a : Bool → List Occurrence). a choice) (map occurrences_in (map pattern_tree xs)))
    ∙ ap (λ ns. ns ++ texts (flat_map (λ (a : Bool → List Occurrence). a choice) (map occurrences_in (map pattern_tree xs)))) (each.0 choice)
    ∙ ap (λ ns. variables_of x ++ ns) (all_named xs each.1 choice)

are_named : (x : Expr) → AreNamed x
are_named = expr_induction AreNamed (record {
  variable = λ x choice.
      ap (λ t. texts (occurrences_in t choice)) (fold-roll-Expr PatternTree pattern_level (Expr-F.Variable x)) ∙ ap texts (occurs_roll (PatternTree-F.Variable (word x.text)) choice)
      ∙ sym (fold-roll-Expr (List Spelling) names_level (Expr-F.Variable x));
  integer = λ i choice.
      ap (λ t. texts (occurrences_in t choice)) (fold-roll-Expr PatternTree pattern_level (Expr-F.Integer i)) ∙ ap texts (occurs_roll (PatternTree-F.Integer i) choice)
      ∙ sym (fold-roll-Expr (List Spelling) names_level (Expr-F.Integer i));
  made = λ g args each choice.
      ap (λ t. texts (occurrences_in t choice)) (fold-roll-Expr PatternTree pattern_level (Expr-F.Made g args)) ∙ ap texts (occurs_roll (PatternTree-F.Sym (word g.text) (map pattern_tree args)) choice)
      ∙ all_named args each choice ∙ sym (fold-roll-Expr (List Spelling) names_level (Expr-F.Made g args));
})

each_named : (xs : List Expr) → Each AreNamed xs
each_named [] = tt
each_named (x ∷ xs) = (are_named x, each_named xs)

-- the variables of a rule's pattern, each place of one, are those of the equation's patterns
pub rule_named : (g : Spelling) (xs : List Expr) (choice : Bool) → texts (occurrences_in (roll-PatternTree (PatternTree-F.Sym (word g) (map pattern_tree xs))) choice) ≡ all_names (map variables_of xs)
rule_named g xs choice = ap texts (occurs_roll (PatternTree-F.Sym (word g) (map pattern_tree xs)) choice) ∙ all_named xs (each_named xs) choice
