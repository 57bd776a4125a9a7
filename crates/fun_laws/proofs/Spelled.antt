-- A translation is spelled as a text: its terms are whole, and its symbols have upper names.
use Rattle.std.proofs.Common.{◌≡◌, ℕ, zero, suc, ◌<◌, Bool, true, false, not, ◌&&◌, List, [], ◌∷◌, ◌++◌, map, length, All, IsTrue, Option, Some, None, refl, sym, ◌∙◌, ap, subst, arith, ℤ}
use Rattle.std.specs.List.{AllByRecursion, list_all}
use Rattle.std.proofs.lemmas.List.Elements.{All-from_recursion}
use Rattle.dactl_model.specs.declared.program.Op.{Op}
use Rattle.dactl_model.specs.Names.{is_upper_name}
use Rattle.dactl_meaning.specs.declared.tree.Marks.{Marks}
use Rattle.dactl_meaning.specs.declared.tree.Marks.TheVariants as marks
use Rattle.dactl_meaning.specs.declared.tree.RuleTree.{RuleTree}
use Rattle.dactl_meaning.specs.declared.tree.TermTree.{TermTree}
use Rattle.dactl_meaning.specs.declared.tree.NodeTree.{NodeTree}
use Rattle.dactl_meaning.specs.declared.tree.ArgTree.{ArgTree}
use Rattle.dactl_meaning.specs.declared.tree.NodeTree.TheOpen.{NodeTree-F}
use Rattle.dactl_meaning.specs.declared.tree.NodeTree.TheViews.{roll-NodeTree, roll-ArgTree}
use Rattle.dactl_meaning.specs.declared.tree.NodeTree.TheFolds.{fold-NodeTree, fold-ArgTree, fold-roll-NodeTree, fold-roll-ArgTree, fold-roll-TermTree}
use Rattle.dactl_meaning.specs.Declarations.{Declaration, PlacedRule, rules, symbol_names}
use Rattle.dactl_meaning.specs.Contractum.{term_of_part}
use Rattle.dactl_meaning.specs.Meaning.{PlacedInitial, all_initials}
use Rattle.dactl_meaning.specs.Spelling.{is_counted, node_whole, arg_whole, term_whole, is_whole, contracta, IsSpelled}
use Rattle.fun_meaning.specs.declared.tree.Expr.{Expr}
use Rattle.fun_meaning.specs.declared.tree.Expr.TheOpen.{Expr-F}
use Rattle.fun_meaning.specs.declared.tree.Expr.TheFolds.{fold-roll-Expr}
use Rattle.fun_meaning.specs.declared.tree.Equation.{Equation}
use Rattle.fun_meaning.specs.declared.tree.Fun.{Fun}
use Rattle.fun_meaning.specs.Names.{Spelling, check_name, operation}
use Rattle.fun_meaning.specs.Values.{is_constructor, word}
use Rattle.fun_meaning.proofs.Matches.{both_true}
use Rattle.fun_meaning.proofs.Zips.{each_map, each_append, each_weaken}
use Rattle.fun_compile.specs.Translated.{Put, bare, marked, arg_put, node_over, marks_for, waiting, checked, wrapped, made_put, put_level, put, top_of, top, equation_tree, rest_tree, check_tree, trees_of, translated}
use Rattle.dactl_meaning.specs.Unplaced.{nowhere}
use Rattle.fun_meaning.specs.Functions.{first_ones}
use Rattle.fun_meaning.specs.Spelt.{AreSpelt}
use Rattle.fun_laws.proofs.Narrowed.{narrow_text}
use Rattle.fun_meaning.proofs.Inducing.{Each, expr_induction}
use Rattle.fun_laws.proofs.SeenNames.{symbol_texts}
use Rattle.fun_laws.proofs.NoRuleFaults.{placed_rule, rules_are}
use Rattle.fun_laws.proofs.Whole.{initials_are}
use Rattle.fun_laws.proofs.Starred.{starred_marked, starred_bare}

abbrev whole_node : NodeTree → Bool
whole_node = fold-NodeTree Bool Bool Bool node_whole arg_whole term_whole

abbrev whole_arg : ArgTree → Bool
whole_arg = fold-ArgTree Bool Bool Bool node_whole arg_whole term_whole

bare_whole : (m : Marks) (x : Spelling) → is_counted m ≡ true → is_whole (bare m x) ≡ true
bare_whole m x counted = fold-roll-TermTree Bool Bool Bool node_whole arg_whole term_whole (record { marks = m; name = Some (word x); node = None }) ∙ ap (λ b. b && true) counted

marked_whole : (m : Marks) (node : NodeTree) → is_counted m ≡ true → whole_node node ≡ true → is_whole (marked m node) ≡ true
marked_whole m node counted whole =
    fold-roll-TermTree Bool Bool Bool node_whole arg_whole term_whole (record { marks = m; name = None; node = Some node }) ∙ ap (λ b. b && whole_node node) counted ∙ whole

integer_whole : (m : Marks) (i : ℤ) → is_counted m ≡ true → is_whole (marked m (roll-NodeTree (NodeTree-F.Integer i nowhere))) ≡ true
integer_whole m i counted = marked_whole m (roll-NodeTree (NodeTree-F.Integer i nowhere)) counted (fold-roll-NodeTree Bool Bool Bool node_whole arg_whole term_whole (NodeTree-F.Integer i nowhere))

arg_is : (waits : Bool) (t : TermTree) → whole_arg (roll-ArgTree (record { waits = waits; term = t })) ≡ is_whole t
arg_is waits t = fold-roll-ArgTree Bool Bool Bool node_whole arg_whole term_whole (record { waits = waits; term = t })

counted_for : (n : ℕ) → is_counted (marks_for n) ≡ true
counted_for zero = refl
counted_for (suc n) = grind arith

module _ (e : Fun) where
  abbrev IsClaim : Expr → Type 0
  IsClaim x = is_whole (put e x).term ≡ true

  all_whole : (xs : List Expr) → Each IsClaim xs → list_all (λ b. b) (map whole_arg (map arg_put (map (put e) xs))) ≡ true
  all_whole [] each = refl
  all_whole (x ∷ xs) each = both_true _ _ (arg_is (not (put e x).pure) (put e x).term ∙ each.0) (all_whole xs each.1)

  over_whole : (m : Marks) (g : Spelling) (xs : List Expr) → is_counted m ≡ true → Each IsClaim xs → is_whole (marked m (node_over g (map (put e) xs))) ≡ true
  over_whole m g xs counted each = marked_whole m (node_over g (map (put e) xs)) counted (fold-roll-NodeTree Bool Bool Bool node_whole arg_whole term_whole (NodeTree-F.Sym (word g) (map arg_put (map (put e) xs))) ∙ all_whole xs each)

  checked_whole : (t : TermTree) → is_whole t ≡ true → is_whole (checked t) ≡ true
  checked_whole t whole =
      marked_whole (marks.Hashes nowhere 1) (roll-NodeTree (NodeTree-F.Sym (word check_name) (roll-ArgTree (record { waits = true; term = t }) ∷ []))) refl
      (fold-roll-NodeTree Bool Bool Bool node_whole arg_whole term_whole (NodeTree-F.Sym (word check_name) (roll-ArgTree (record { waits = true; term = t }) ∷ [])) ∙ ap (λ b. b && true) (arg_is true t ∙ whole))

  wrapped_whole : (o : Option Op) (t : TermTree) → is_whole t ≡ true → is_whole (wrapped o t) ≡ true
  wrapped_whole None t whole = whole
  wrapped_whole (Some o) t whole = checked_whole t whole

  either_whole : (b : Bool) (g : Spelling) (xs : List Expr) → Each IsClaim xs → is_whole (made_put b g (map (put e) xs)).term ≡ true
  either_whole true g xs each = over_whole marks.Plain g xs refl each
  either_whole false g xs each = wrapped_whole (operation g) (marked (marks_for (waiting (map (put e) xs))) (node_over g (map (put e) xs))) (over_whole (marks_for (waiting (map (put e) xs))) g xs (counted_for (waiting (map (put e) xs))) each)

  puts_whole : (x : Expr) → IsClaim x
  puts_whole = expr_induction IsClaim (record {
    variable = λ x. ap (λ (a : Put). is_whole a.term) (fold-roll-Expr Put (put_level e) (Expr-F.Variable x)) ∙ bare_whole marks.Plain x.text refl;
    integer = λ i. ap (λ (a : Put). is_whole a.term) (fold-roll-Expr Put (put_level e) (Expr-F.Integer i)) ∙ integer_whole marks.Plain i refl;
    made = λ g xs each. ap (λ (a : Put). is_whole a.term) (fold-roll-Expr Put (put_level e) (Expr-F.Made g xs)) ∙ either_whole (is_constructor e g.text && list_all (λ (a : Put). a.pure) (map (put e) xs)) g.text xs each;
  })

  each_whole : (xs : List Expr) → Each IsClaim xs
  each_whole [] = tt
  each_whole (x ∷ xs) = (puts_whole x, each_whole xs)

  top_either : (b : Bool) (g : Spelling) (xs : List Expr) → is_whole (top_of (made_put b g (map (put e) xs))) ≡ true
  top_either true g xs = ap is_whole (starred_marked (node_over g (map (put e) xs))) ∙ over_whole (marks.Star nowhere) g xs refl (each_whole xs)
  top_either false g xs = wrapped_whole (operation g) (marked (marks_for (waiting (map (put e) xs))) (node_over g (map (put e) xs))) (over_whole (marks_for (waiting (map (put e) xs))) g xs (counted_for (waiting (map (put e) xs))) (each_whole xs))

  abbrev IsTop : Expr → Type 0
  IsTop x = is_whole (top e x) ≡ true

  tops_whole : (x : Expr) → IsTop x
  tops_whole = expr_induction IsTop (record {
    variable = λ x. ap (λ (a : Put). is_whole (top_of a)) (fold-roll-Expr Put (put_level e) (Expr-F.Variable x)) ∙ ap is_whole (starred_bare x.text) ∙ bare_whole (marks.Star nowhere) x.text refl;
    integer = λ i. ap (λ (a : Put). is_whole (top_of a)) (fold-roll-Expr Put (put_level e) (Expr-F.Integer i)) ∙ ap is_whole (starred_marked (roll-NodeTree (NodeTree-F.Integer i nowhere))) ∙ integer_whole (marks.Star nowhere) i refl;
    made = λ g xs each. ap (λ (a : Put). is_whole (top_of a)) (fold-roll-Expr Put (put_level e) (Expr-F.Made g xs)) ∙ top_either (is_constructor e g.text && list_all (λ (a : Put). a.pure) (map (put e) xs)) g.text xs;
  })

  -- ---- the contracta

  abbrev AreWhole : List TermTree → Type 0
  AreWhole terms = AllByRecursion (λ (t : TermTree). is_whole t ≡ true) terms

  abbrev HasWhole : RuleTree → Type 0
  HasWhole t = AreWhole (map term_of_part t.parts)

  equations_whole : (eqs : List Equation) → AllByRecursion HasWhole (map (equation_tree e) eqs)
  equations_whole [] = tt
  equations_whole (eq ∷ eqs) = ((tops_whole eq.right, tt), equations_whole eqs)

  rests_whole : (eqs : List Equation) → AllByRecursion HasWhole (map (λ (eq : Equation). rest_tree eq.head.text (length eq.patterns)) eqs)
  rests_whole [] = tt
  rests_whole (eq ∷ eqs) = ((bare_whole marks.Plain _ refl, tt), rests_whole eqs)

  trees_whole : AllByRecursion HasWhole (trees_of e)
  trees_whole =
      each_append HasWhole (map (equation_tree e) e.equations) (map (λ (eq : Equation). rest_tree eq.head.text (length eq.patterns)) (first_ones e.equations) ++ check_tree ∷ rest_tree check_name 1 ∷ []) (equations_whole e.equations)
      (each_append HasWhole (map (λ (eq : Equation). rest_tree eq.head.text (length eq.patterns)) (first_ones e.equations)) (check_tree ∷ rest_tree check_name 1 ∷ []) (rests_whole (first_ones e.equations))
      ((bare_whole (marks.Star nowhere) _ refl, tt), ((bare_whole marks.Plain _ refl, tt), tt)))

  contracta_whole : AllByRecursion AreWhole (contracta (translated e))
  contracta_whole =
      each_append AreWhole (map (λ (r : PlacedRule). map term_of_part r.rule.parts) (rules (translated e))) (map (λ (i : PlacedInitial). i.terms) (all_initials (translated e)))
      (subst (λ (rs : List PlacedRule). AllByRecursion AreWhole (map (λ (r : PlacedRule). map term_of_part r.rule.parts) rs)) (sym (rules_are e))
      (each_map (λ (r : PlacedRule). map term_of_part r.rule.parts) (λ (r : PlacedRule). HasWhole r.rule) AreWhole (λ r is. is) (map placed_rule (trees_of e)) (each_map placed_rule HasWhole (λ (r : PlacedRule). HasWhole r.rule) (λ t is. is) (trees_of e) trees_whole)))
      (subst (λ (is : List PlacedInitial). AllByRecursion AreWhole (map (λ (i : PlacedInitial). i.terms) is)) (sym (initials_are e)) ((tops_whole e.main, tt), tt))

  unmapped : (ds : List Declaration) → AllByRecursion (λ (w : Spelling). is_upper_name false w ≡ true) (map (λ (d : Declaration). d.name.text) ds) → AllByRecursion (λ (d : Declaration). IsTrue (is_upper_name false d.name.text)) ds
  unmapped [] all = tt
  unmapped (d ∷ ds) all = (all.0, unmapped ds all.1)

  pub spelled : AreSpelt e → IsSpelled (translated e)
  spelled upper = record {
    narrow = λ is. narrow_text e upper;
    names = All-from_recursion (λ (d : Declaration). IsTrue (is_upper_name false d.name.text)) (symbol_names (translated e)) (unmapped (symbol_names (translated e)) (subst (AllByRecursion (λ (w : Spelling). is_upper_name false w ≡ true)) (sym (symbol_texts e)) upper.names));
    initials = All-from_recursion (λ (i : PlacedInitial). 0 < length i.terms) (all_initials (translated e)) (subst (AllByRecursion (λ (i : PlacedInitial). 0 < length i.terms)) (sym (initials_are e)) (omega arith, tt));
    whole = All-from_recursion (λ (terms : List TermTree). All (λ (t : TermTree). IsTrue (is_whole t)) terms) (contracta (translated e))
        (each_weaken AreWhole (λ (terms : List TermTree). All (λ (t : TermTree). IsTrue (is_whole t)) terms) (λ terms is. All-from_recursion (λ (t : TermTree). IsTrue (is_whole t)) terms is) (contracta (translated e)) contracta_whole);
  }
