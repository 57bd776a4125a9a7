-- A translation has integers of 64 bits alone, and no character.
use Rattle.std.proofs.Common.{◌≡◌, ℕ, zero, suc, Bool, true, false, not, ◌&&◌, List, [], ◌∷◌, ◌++◌, map, length, replicate, All, IsTrue, Option, Some, None, slice_get, refl, sym, ◌∙◌, ap, subst, ℤ}
use Rattle.std.specs.List.{AllByRecursion, filter_map, list_all}
use Rattle.std.proofs.lemmas.List.Elements.{All-from_recursion}
use Rattle.dactl_model.specs.declared.program.Op.{Op}
use Rattle.dactl_model.specs.Integers.{is_word}
use Rattle.dactl_model.proofs.Unique.{left_true, right_true}
use Rattle.dactl_meaning.specs.declared.tree.Name.{Name}
use Rattle.dactl_meaning.specs.declared.tree.Marks.{Marks}
use Rattle.dactl_meaning.specs.declared.tree.Marks.TheVariants as marks
use Rattle.dactl_meaning.specs.declared.tree.Sign.TheVariants as signs
use Rattle.dactl_meaning.specs.declared.tree.Item.TheVariants as item
use Rattle.dactl_meaning.specs.declared.tree.Group.{Group}
use Rattle.dactl_meaning.specs.declared.tree.RuleTree.{RuleTree}
use Rattle.dactl_meaning.specs.declared.tree.PatternTree.{PatternTree}
use Rattle.dactl_meaning.specs.declared.tree.PatternTree.TheOpen.{PatternTree-F}
use Rattle.dactl_meaning.specs.declared.tree.PatternTree.TheViews.{roll-PatternTree}
use Rattle.dactl_meaning.specs.declared.tree.PatternTree.TheFolds.{fold-roll-PatternTree, map-PatternTree}
use Rattle.dactl_meaning.specs.declared.tree.TermTree.{TermTree}
use Rattle.dactl_meaning.specs.declared.tree.NodeTree.{NodeTree}
use Rattle.dactl_meaning.specs.declared.tree.ArgTree.{ArgTree}
use Rattle.dactl_meaning.specs.declared.tree.NodeTree.TheOpen.{NodeTree-F}
use Rattle.dactl_meaning.specs.declared.tree.NodeTree.TheViews.{roll-NodeTree, roll-ArgTree}
use Rattle.dactl_meaning.specs.declared.tree.NodeTree.TheFolds.{fold-NodeTree, fold-ArgTree, fold-roll-NodeTree, fold-roll-ArgTree, fold-roll-TermTree}
use Rattle.dactl_meaning.specs.Unplaced.{nowhere}
use Rattle.dactl_meaning.specs.Declarations.{Placed, PlacedRule, items, item_pattern, rules}
use Rattle.dactl_meaning.specs.Contractum.{term_of_part}
use Rattle.dactl_meaning.specs.Meaning.{PlacedInitial, all_initials}
use Rattle.dactl_meaning.specs.Spelling.{contracta, pattern_narrow, is_narrow_pattern, node_narrow, arg_narrow, term_narrow, is_narrow_term, all_patterns, IsNarrowText}
use Rattle.fun_meaning.specs.declared.tree.Expr.{Expr}
use Rattle.fun_meaning.specs.declared.tree.Expr.TheOpen.{Expr-F}
use Rattle.fun_meaning.specs.declared.tree.Expr.TheViews.{roll-Expr}
use Rattle.fun_meaning.specs.declared.tree.Expr.TheFolds.{fold-roll-Expr}
use Rattle.fun_meaning.specs.declared.tree.Equation.{Equation}
use Rattle.fun_meaning.specs.declared.tree.Fun.{Fun}
use Rattle.fun_meaning.specs.Names.{Spelling, true_name, false_name, check_name, operation}
use Rattle.fun_meaning.specs.Values.{is_constructor, word}
use Rattle.fun_meaning.specs.Functions.{functions, first_ones}
use Rattle.fun_meaning.specs.Spelt.{words_level, has_words, AreSpelt}
use Rattle.fun_meaning.proofs.Matches.{both_true}
use Rattle.fun_meaning.proofs.Zips.{each_map, each_append, each_weaken}
use Rattle.fun_compile.specs.Translated.{pattern_level, pattern_tree, Put, bare, marked, arg_put, node_over, marks_for, waiting, checked, wrapped, made_put, put_level, put, top_of, top, root_name, value_name, equation_tree, rest_tree, truth_tree, check_tree, trees_of, groups_of, translated}
use Rattle.fun_meaning.proofs.Inducing.{Each, expr_induction}
use Rattle.fun_laws.proofs.Starred.{starred_marked, starred_bare}
use Rattle.fun_laws.proofs.NoRuleFaults.{placed_rule, rules_are}
use Rattle.fun_laws.proofs.Whole.{items_by, items_are, initials_are}
use Rattle.fun_laws.proofs.Lists.{all_at}

words_made : (g : Name) (xs : List Expr) → has_words (roll-Expr (Expr-F.Made g xs)) ≡ true → list_all (λ b. b) (map has_words xs) ≡ true
words_made g xs words = sym (fold-roll-Expr Bool words_level (Expr-F.Made g xs)) ∙ words

words_integer : (i : ℤ) → has_words (roll-Expr (Expr-F.Integer i)) ≡ true → is_word i ≡ true
words_integer i words = sym (fold-roll-Expr Bool words_level (Expr-F.Integer i)) ∙ words

-- ---- patterns

narrow_roll : (y : PatternTree-F PatternTree) → is_narrow_pattern (roll-PatternTree y) ≡ pattern_narrow (map-PatternTree PatternTree Bool is_narrow_pattern y)
narrow_roll y = fold-roll-PatternTree Bool pattern_narrow y

abbrev IsNarrowIn : Expr → Type 0
IsNarrowIn x = has_words x ≡ true → is_narrow_pattern (pattern_tree x) ≡ true

all_patterns_narrow : (xs : List Expr) → Each IsNarrowIn xs → list_all (λ b. b) (map has_words xs) ≡ true → list_all (λ b. b) (map is_narrow_pattern (map pattern_tree xs)) ≡ true
all_patterns_narrow [] each words = refl
all_patterns_narrow (x ∷ xs) each words = both_true _ _ (each.0 (left_true _ _ words)) (all_patterns_narrow xs each.1 (right_true _ _ words))

symbol_narrow : (g : Spelling) (args : List PatternTree) → list_all (λ b. b) (map is_narrow_pattern args) ≡ true → is_narrow_pattern (roll-PatternTree (PatternTree-F.Sym (word g) args)) ≡ true
symbol_narrow g args narrow = narrow_roll (PatternTree-F.Sym (word g) args) ∙ narrow

patterns_narrow : (x : Expr) → IsNarrowIn x
patterns_narrow = expr_induction IsNarrowIn (record {
  variable = λ x words. ap is_narrow_pattern (fold-roll-Expr PatternTree pattern_level (Expr-F.Variable x)) ∙ narrow_roll (PatternTree-F.Variable (word x.text));
  integer = λ i words. ap is_narrow_pattern (fold-roll-Expr PatternTree pattern_level (Expr-F.Integer i)) ∙ narrow_roll (PatternTree-F.Integer i) ∙ words_integer i words;
  made = λ g args each words. ap is_narrow_pattern (fold-roll-Expr PatternTree pattern_level (Expr-F.Made g args)) ∙ symbol_narrow g.text (map pattern_tree args) (all_patterns_narrow args each (words_made g args words));
})

each_pattern : (xs : List Expr) → Each IsNarrowIn xs
each_pattern [] = tt
each_pattern (x ∷ xs) = (patterns_narrow x, each_pattern xs)

anys_narrow : (count : ℕ) → list_all (λ b. b) (map is_narrow_pattern (replicate count (roll-PatternTree PatternTree-F.Any))) ≡ true
anys_narrow zero = refl
anys_narrow (suc count) = both_true _ _ (narrow_roll PatternTree-F.Any) (anys_narrow count)

rest_narrow : (g : Spelling) (count : ℕ) → is_narrow_pattern (rest_tree g count).pattern ≡ true
rest_narrow g count =
    narrow_roll (PatternTree-F.Binder (word root_name) (roll-PatternTree (PatternTree-F.Sym (word g) (replicate count (roll-PatternTree PatternTree-F.Any)))))
    ∙ symbol_narrow g (replicate count (roll-PatternTree PatternTree-F.Any)) (anys_narrow count)

abbrev check_chain : PatternTree
check_chain = roll-PatternTree (PatternTree-F.Chain (roll-PatternTree PatternTree-F.Int) ((signs.Plus, truth_tree true_name) ∷ (signs.Plus, truth_tree false_name) ∷ []))

chain_narrow : is_narrow_pattern check_chain ≡ true
chain_narrow =
    narrow_roll (PatternTree-F.Chain (roll-PatternTree PatternTree-F.Int) ((signs.Plus, truth_tree true_name) ∷ (signs.Plus, truth_tree false_name) ∷ []))
    ∙ both_true _ _ (narrow_roll PatternTree-F.Int) (both_true _ _ (symbol_narrow true_name [] refl) (both_true _ _ (symbol_narrow false_name [] refl) refl))

check_narrow : is_narrow_pattern check_tree.pattern ≡ true
check_narrow = symbol_narrow check_name (roll-PatternTree (PatternTree-F.Binder (word value_name) check_chain) ∷ []) (both_true _ _ (narrow_roll (PatternTree-F.Binder (word value_name) check_chain) ∙ chain_narrow) refl)

-- ---- terms

abbrev narrow_node : NodeTree → Bool
narrow_node = fold-NodeTree Bool Bool Bool node_narrow arg_narrow term_narrow

abbrev narrow_arg : ArgTree → Bool
narrow_arg = fold-ArgTree Bool Bool Bool node_narrow arg_narrow term_narrow

bare_narrow : (m : Marks) (x : Spelling) → is_narrow_term (bare m x) ≡ true
bare_narrow m x = fold-roll-TermTree Bool Bool Bool node_narrow arg_narrow term_narrow (record { marks = m; name = Some (word x); node = None })

marked_narrow : (m : Marks) (node : NodeTree) → is_narrow_term (marked m node) ≡ narrow_node node
marked_narrow m node = fold-roll-TermTree Bool Bool Bool node_narrow arg_narrow term_narrow (record { marks = m; name = None; node = Some node })

integer_narrow : (m : Marks) (i : ℤ) → is_word i ≡ true → is_narrow_term (marked m (roll-NodeTree (NodeTree-F.Integer i nowhere))) ≡ true
integer_narrow m i words = marked_narrow m (roll-NodeTree (NodeTree-F.Integer i nowhere)) ∙ fold-roll-NodeTree Bool Bool Bool node_narrow arg_narrow term_narrow (NodeTree-F.Integer i nowhere) ∙ words

arg_is : (waits : Bool) (t : TermTree) → narrow_arg (roll-ArgTree (record { waits = waits; term = t })) ≡ is_narrow_term t
arg_is waits t = fold-roll-ArgTree Bool Bool Bool node_narrow arg_narrow term_narrow (record { waits = waits; term = t })

checked_narrow : (t : TermTree) → is_narrow_term t ≡ true → is_narrow_term (checked t) ≡ true
checked_narrow t narrow =
    marked_narrow (marks.Hashes nowhere 1) (roll-NodeTree (NodeTree-F.Sym (word check_name) (roll-ArgTree (record { waits = true; term = t }) ∷ [])))
    ∙ fold-roll-NodeTree Bool Bool Bool node_narrow arg_narrow term_narrow (NodeTree-F.Sym (word check_name) (roll-ArgTree (record { waits = true; term = t }) ∷ []))
    ∙ both_true _ _ (arg_is true t ∙ narrow) refl

wrapped_narrow : (o : Option Op) (t : TermTree) → is_narrow_term t ≡ true → is_narrow_term (wrapped o t) ≡ true
wrapped_narrow None t narrow = narrow
wrapped_narrow (Some o) t narrow = checked_narrow t narrow

module _ (e : Fun) where
  abbrev IsClaim : Expr → Type 0
  IsClaim x = has_words x ≡ true → is_narrow_term (put e x).term ≡ true

  all_narrow : (xs : List Expr) → Each IsClaim xs → list_all (λ b. b) (map has_words xs) ≡ true → list_all (λ b. b) (map narrow_arg (map arg_put (map (put e) xs))) ≡ true
  all_narrow [] each words = refl
  all_narrow (x ∷ xs) each words = both_true _ _ (arg_is (not (put e x).pure) (put e x).term ∙ each.0 (left_true _ _ words)) (all_narrow xs each.1 (right_true _ _ words))

  over_narrow : (m : Marks) (g : Spelling) (xs : List Expr) → Each IsClaim xs → list_all (λ b. b) (map has_words xs) ≡ true → is_narrow_term (marked m (node_over g (map (put e) xs))) ≡ true
  over_narrow m g xs each words =
      marked_narrow m (node_over g (map (put e) xs)) ∙ fold-roll-NodeTree Bool Bool Bool node_narrow arg_narrow term_narrow (NodeTree-F.Sym (word g) (map arg_put (map (put e) xs))) ∙ all_narrow xs each words

  either_narrow : (b : Bool) (g : Spelling) (xs : List Expr) → Each IsClaim xs → list_all (λ b. b) (map has_words xs) ≡ true → is_narrow_term (made_put b g (map (put e) xs)).term ≡ true
  either_narrow true g xs each words = over_narrow marks.Plain g xs each words
  either_narrow false g xs each words = wrapped_narrow (operation g) (marked (marks_for (waiting (map (put e) xs))) (node_over g (map (put e) xs))) (over_narrow (marks_for (waiting (map (put e) xs))) g xs each words)

  puts_narrow : (x : Expr) → IsClaim x
  puts_narrow = expr_induction IsClaim (record {
    variable = λ x words. ap (λ (a : Put). is_narrow_term a.term) (fold-roll-Expr Put (put_level e) (Expr-F.Variable x)) ∙ bare_narrow marks.Plain x.text;
    integer = λ i words. ap (λ (a : Put). is_narrow_term a.term) (fold-roll-Expr Put (put_level e) (Expr-F.Integer i)) ∙ integer_narrow marks.Plain i (words_integer i words);
    made = λ g xs each words. ap (λ (a : Put). is_narrow_term a.term) (fold-roll-Expr Put (put_level e) (Expr-F.Made g xs))
        ∙ either_narrow (is_constructor e g.text && list_all (λ (a : Put). a.pure) (map (put e) xs)) g.text xs each (words_made g xs words);
  })

  each_narrow : (xs : List Expr) → Each IsClaim xs
  each_narrow [] = tt
  each_narrow (x ∷ xs) = (puts_narrow x, each_narrow xs)

  top_either : (b : Bool) (g : Spelling) (xs : List Expr) → list_all (λ b. b) (map has_words xs) ≡ true → is_narrow_term (top_of (made_put b g (map (put e) xs))) ≡ true
  top_either true g xs words = ap is_narrow_term (starred_marked (node_over g (map (put e) xs))) ∙ over_narrow (marks.Star nowhere) g xs (each_narrow xs) words
  top_either false g xs words =
      wrapped_narrow (operation g) (marked (marks_for (waiting (map (put e) xs))) (node_over g (map (put e) xs))) (over_narrow (marks_for (waiting (map (put e) xs))) g xs (each_narrow xs) words)

  abbrev IsTop : Expr → Type 0
  IsTop x = has_words x ≡ true → is_narrow_term (top e x) ≡ true

  tops_narrow : (x : Expr) → IsTop x
  tops_narrow = expr_induction IsTop (record {
    variable = λ x words. ap (λ (a : Put). is_narrow_term (top_of a)) (fold-roll-Expr Put (put_level e) (Expr-F.Variable x)) ∙ ap is_narrow_term (starred_bare x.text) ∙ bare_narrow (marks.Star nowhere) x.text;
    integer = λ i words. ap (λ (a : Put). is_narrow_term (top_of a)) (fold-roll-Expr Put (put_level e) (Expr-F.Integer i)) ∙ ap is_narrow_term (starred_marked (roll-NodeTree (NodeTree-F.Integer i nowhere)))
        ∙ integer_narrow (marks.Star nowhere) i (words_integer i words);
    made = λ g xs each words. ap (λ (a : Put). is_narrow_term (top_of a)) (fold-roll-Expr Put (put_level e) (Expr-F.Made g xs))
        ∙ top_either (is_constructor e g.text && list_all (λ (a : Put). a.pure) (map (put e) xs)) g.text xs (words_made g xs words);
  })

  -- ---- the text

  abbrev HasNarrow : RuleTree → Type 0
  HasNarrow t = (is_narrow_pattern t.pattern ≡ true) × AllByRecursion (λ (x : TermTree). is_narrow_term x ≡ true) (map term_of_part t.parts)

  rests_narrow : (eqs : List Equation) → AllByRecursion HasNarrow (map (λ (eq : Equation). rest_tree eq.head.text (length eq.patterns)) eqs)
  rests_narrow [] = tt
  rests_narrow (eq ∷ eqs) = ((rest_narrow eq.head.text (length eq.patterns), (bare_narrow marks.Plain root_name, tt)), rests_narrow eqs)

  module _ (spelt : AreSpelt e) where
    equation_narrow : (i : ℕ) (eq : Equation) → slice_get e.equations i ≡ Some eq → HasNarrow (equation_tree e eq)
    equation_narrow i eq at =
        (symbol_narrow eq.head.text (map pattern_tree eq.patterns) (all_patterns_narrow eq.patterns (each_pattern eq.patterns) (spelt.patterns i eq at)), (tops_narrow eq.right (spelt.rights i eq at), tt))

    trees_narrow : AllByRecursion HasNarrow (trees_of e)
    trees_narrow =
        each_append HasNarrow (map (equation_tree e) e.equations) (map (λ (eq : Equation). rest_tree eq.head.text (length eq.patterns)) (first_ones e.equations) ++ check_tree ∷ rest_tree check_name 1 ∷ [])
        (each_map (equation_tree e) (λ (eq : Equation). HasNarrow (equation_tree e eq)) HasNarrow (λ eq is. is) e.equations (all_at (λ (eq : Equation). HasNarrow (equation_tree e eq)) e.equations equation_narrow))
        (each_append HasNarrow (map (λ (eq : Equation). rest_tree eq.head.text (length eq.patterns)) (first_ones e.equations)) (check_tree ∷ rest_tree check_name 1 ∷ []) (rests_narrow (first_ones e.equations))
        ((check_narrow, (bare_narrow (marks.Star nowhere) value_name, tt)), ((rest_narrow check_name 1, (bare_narrow marks.Plain root_name, tt)), tt)))

    rules_narrow : AllByRecursion (λ (r : PlacedRule). HasNarrow r.rule) (rules (translated e))
    rules_narrow = subst (AllByRecursion (λ (r : PlacedRule). HasNarrow r.rule)) (sym (rules_are e)) (each_map placed_rule HasNarrow (λ (r : PlacedRule). HasNarrow r.rule) (λ t is. is) (trees_of e) trees_narrow)

    none_named : (heads : List Spelling) (names : List Name) (gs : List Group) (terms : List TermTree) → filter_map (λ (i : Placed). item_pattern i.item) (items_by heads names (item.Rules gs ∷ item.Initial nowhere terms ∷ [])) ≡ []
    none_named heads [] gs terms = refl
    none_named heads (g ∷ names) gs terms = refl

    no_named : filter_map (λ (i : Placed). item_pattern i.item) (items (translated e)) ≡ []
    no_named = ap (filter_map (λ (i : Placed). item_pattern i.item)) (items_are e) ∙ none_named (functions e ++ check_name ∷ []) e.constructors (groups_of e) (top e e.main ∷ [])

    abbrev IsNarrowTree : PatternTree → Type 0
    IsNarrowTree p = is_narrow_pattern p ≡ true

    text_patterns : AllByRecursion IsNarrowTree (all_patterns (translated e))
    text_patterns =
        each_append IsNarrowTree (map (λ (r : PlacedRule). r.rule.pattern) (rules (translated e))) (filter_map (λ (i : Placed). item_pattern i.item) (items (translated e)))
        (each_map (λ (r : PlacedRule). r.rule.pattern) (λ (r : PlacedRule). HasNarrow r.rule) IsNarrowTree (λ r is. is.0) (rules (translated e)) rules_narrow)
        (subst (AllByRecursion IsNarrowTree) (sym no_named) tt)

    abbrev AreNarrow : List TermTree → Type 0
    AreNarrow terms = AllByRecursion (λ (t : TermTree). is_narrow_term t ≡ true) terms

    text_terms : AllByRecursion AreNarrow (contracta (translated e))
    text_terms =
        each_append AreNarrow (map (λ (r : PlacedRule). map term_of_part r.rule.parts) (rules (translated e))) (map (λ (i : PlacedInitial). i.terms) (all_initials (translated e)))
        (each_map (λ (r : PlacedRule). map term_of_part r.rule.parts) (λ (r : PlacedRule). HasNarrow r.rule) AreNarrow (λ r is. is.1) (rules (translated e)) rules_narrow)
        (subst (λ (is : List PlacedInitial). AllByRecursion AreNarrow (map (λ (i : PlacedInitial). i.terms) is)) (sym (initials_are e)) ((tops_narrow e.main spelt.main, tt), tt))

    pub narrow_text : IsNarrowText (translated e)
    narrow_text = record {
      patterns = All-from_recursion (λ (p : PatternTree). IsTrue (is_narrow_pattern p)) (all_patterns (translated e)) text_patterns;
      terms = All-from_recursion (λ (terms : List TermTree). All (λ (t : TermTree). IsTrue (is_narrow_term t)) terms) (contracta (translated e))
          (each_weaken AreNarrow (λ (terms : List TermTree). All (λ (t : TermTree). IsTrue (is_narrow_term t)) terms) (λ terms is. All-from_recursion (λ (t : TermTree). IsTrue (is_narrow_term t)) terms is) (contracta (translated e)) text_terms);
    }
