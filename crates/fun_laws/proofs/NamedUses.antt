-- Each name that a translation uses is one of its symbols.
use Rattle.std.proofs.Common.{◌≡◌, ℕ, zero, suc, Bool, true, false, not, ◌&&◌, List, [], ◌∷◌, ◌++◌, map, length, replicate, Option, Some, None, refl, sym, ◌∙◌, ap, subst, ℤ}
use Rattle.std.specs.List.{AllByRecursion, flat_map, list_all}
use Rattle.dactl_model.specs.declared.program.Op.{Op}
use Rattle.dactl_model.proofs.Unique.{left_true, right_true}
use Rattle.dactl_meaning.specs.declared.tree.Name.{Name}
use Rattle.dactl_meaning.specs.declared.tree.Marks.{Marks}
use Rattle.dactl_meaning.specs.declared.tree.Marks.TheVariants as marks
use Rattle.dactl_meaning.specs.declared.tree.Sign.TheVariants as signs
use Rattle.dactl_meaning.specs.declared.tree.PatternTree.{PatternTree}
use Rattle.dactl_meaning.specs.declared.tree.PatternTree.TheOpen.{PatternTree-F}
use Rattle.dactl_meaning.specs.declared.tree.PatternTree.TheViews.{roll-PatternTree}
use Rattle.dactl_meaning.specs.declared.tree.PatternTree.TheFolds.{fold-roll-PatternTree, map-PatternTree}
use Rattle.dactl_meaning.specs.declared.tree.TermTree.{TermTree}
use Rattle.dactl_meaning.specs.declared.tree.NodeTree.{NodeTree}
use Rattle.dactl_meaning.specs.declared.tree.ArgTree.{ArgTree}
use Rattle.dactl_meaning.specs.declared.tree.NodeTree.TheOpen.{NodeTree-F}
use Rattle.dactl_meaning.specs.declared.tree.NodeTree.TheViews.{roll-NodeTree, roll-ArgTree}
use Rattle.dactl_meaning.specs.declared.tree.NodeTree.TheFolds.{fold-NodeTree, fold-ArgTree, fold-roll-NodeTree, fold-roll-ArgTree, fold-roll-TermTree}
use Rattle.dactl_meaning.specs.Expansion.{is_among}
use Rattle.dactl_meaning.specs.Uses.{Use, joined, pattern_uses_level, pattern_uses, node_uses_level, arg_uses_level, term_uses_level, term_uses}
use Rattle.fun_meaning.specs.declared.tree.Expr.{Expr}
use Rattle.fun_meaning.specs.declared.tree.Expr.TheOpen.{Expr-F}
use Rattle.fun_meaning.specs.declared.tree.Expr.TheViews.{roll-Expr}
use Rattle.fun_meaning.specs.declared.tree.Expr.TheFolds.{fold-roll-Expr}
use Rattle.fun_meaning.specs.declared.tree.Fun.{Fun}
use Rattle.fun_meaning.specs.Names.{Spelling, true_name, false_name, check_name, operation}
use Rattle.fun_meaning.specs.Values.{is_constructor, word}
use Rattle.fun_compile.specs.Translated.{pattern_level, pattern_tree, Put, bare, marked, arg_put, node_over, marks_for, waiting, checked, wrapped, made_put, put_level, put, top_of, top, root_name, value_name, truth_tree, rest_tree, check_tree}
use Rattle.dactl_meaning.specs.Unplaced.{nowhere}
use Rattle.fun_meaning.specs.Sound.{known_level, is_known, sound_level, is_sound}
use Rattle.fun_meaning.proofs.Inducing.{Each, expr_induction}
use Rattle.fun_laws.proofs.Starred.{starred_marked, starred_bare}
use Rattle.fun_meaning.proofs.Zips.{each_append}

uses_roll : (y : PatternTree-F PatternTree) → pattern_uses (roll-PatternTree y) ≡ pattern_uses_level (map-PatternTree PatternTree (List Use) pattern_uses y)
uses_roll y = fold-roll-PatternTree (List Use) pattern_uses_level y

abbrev node_uses : NodeTree → List Use
node_uses = fold-NodeTree (List Use) (List Use) (List Use) node_uses_level arg_uses_level term_uses_level

abbrev arg_uses : ArgTree → List Use
arg_uses = fold-ArgTree (List Use) (List Use) (List Use) node_uses_level arg_uses_level term_uses_level

bare_uses : (m : Marks) (x : Spelling) → term_uses (bare m x) ≡ []
bare_uses m x = fold-roll-TermTree (List Use) (List Use) (List Use) node_uses_level arg_uses_level term_uses_level (record { marks = m; name = Some (word x); node = None })

marked_uses : (m : Marks) (node : NodeTree) → term_uses (marked m node) ≡ node_uses node
marked_uses m node = fold-roll-TermTree (List Use) (List Use) (List Use) node_uses_level arg_uses_level term_uses_level (record { marks = m; name = None; node = Some node })

integer_uses : (m : Marks) (i : ℤ) → term_uses (marked m (roll-NodeTree (NodeTree-F.Integer i nowhere))) ≡ []
integer_uses m i = marked_uses m (roll-NodeTree (NodeTree-F.Integer i nowhere)) ∙ fold-roll-NodeTree (List Use) (List Use) (List Use) node_uses_level arg_uses_level term_uses_level (NodeTree-F.Integer i nowhere)

arg_uses_is : (waits : Bool) (t : TermTree) → arg_uses (roll-ArgTree (record { waits = waits; term = t })) ≡ term_uses t
arg_uses_is waits t = fold-roll-ArgTree (List Use) (List Use) (List Use) node_uses_level arg_uses_level term_uses_level (record { waits = waits; term = t })

puts_use : (args : List Put) → joined (map arg_uses (map arg_put args)) ≡ flat_map (λ (a : Put). term_uses a.term) args
puts_use [] = refl
puts_use (a ∷ args) = ap (λ (us : List Use). us ++ joined (map arg_uses (map arg_put args))) (arg_uses_is (not a.pure) a.term) ∙ ap (λ (us : List Use). term_uses a.term ++ us) (puts_use args)

over_uses : (m : Marks) (g : Spelling) (args : List Put) → term_uses (marked m (node_over g args)) ≡ record { name = word g; given = false } ∷ flat_map (λ (a : Put). term_uses a.term) args
over_uses m g args =
    marked_uses m (node_over g args) ∙ fold-roll-NodeTree (List Use) (List Use) (List Use) node_uses_level arg_uses_level term_uses_level (NodeTree-F.Sym (word g) (map arg_put args))
    ∙ ap (λ (us : List Use). record { name = word g; given = false } ∷ us) (puts_use args)

checked_uses : (t : TermTree) → term_uses (checked t) ≡ record { name = word check_name; given = false } ∷ (term_uses t ++ [])
checked_uses t =
    marked_uses (marks.Hashes nowhere 1) (roll-NodeTree (NodeTree-F.Sym (word check_name) (roll-ArgTree (record { waits = true; term = t }) ∷ [])))
    ∙ fold-roll-NodeTree (List Use) (List Use) (List Use) node_uses_level arg_uses_level term_uses_level (NodeTree-F.Sym (word check_name) (roll-ArgTree (record { waits = true; term = t }) ∷ []))
    ∙ ap (λ (us : List Use). record { name = word check_name; given = false } ∷ (us ++ [])) (arg_uses_is true t)

module _ (names : List Spelling) where
  -- the name that is used is one of these
  abbrev pub IsNamed : Use → Type 0
  IsNamed u = is_among names u.name.text ≡ true

  -- ---- patterns

  abbrev IsClaim : Expr → Type 0
  IsClaim x = is_known (is_among names) x ≡ true → AllByRecursion IsNamed (pattern_uses (pattern_tree x))

  all_named : (xs : List Expr) → Each IsClaim xs → list_all (λ b. b) (map (is_known (is_among names)) xs) ≡ true → AllByRecursion IsNamed (joined (map pattern_uses (map pattern_tree xs)))
  all_named [] each known = tt
  all_named (x ∷ xs) each known = each_append IsNamed (pattern_uses (pattern_tree x)) (joined (map pattern_uses (map pattern_tree xs))) (each.0 (left_true _ _ known)) (all_named xs each.1 (right_true _ _ known))

  sym_named : (g : Spelling) (xs : List Expr) → Each IsClaim xs → is_among names g ≡ true → list_all (λ b. b) (map (is_known (is_among names)) xs) ≡ true → AllByRecursion IsNamed (pattern_uses (roll-PatternTree (PatternTree-F.Sym (word g) (map pattern_tree xs))))
  sym_named g xs each among known = subst (AllByRecursion IsNamed) (sym (uses_roll (PatternTree-F.Sym (word g) (map pattern_tree xs)))) (among, all_named xs each known)

  patterns_named : (x : Expr) → IsClaim x
  patterns_named = expr_induction IsClaim (record {
    variable = λ x known. subst (λ t. AllByRecursion IsNamed (pattern_uses t)) (sym (fold-roll-Expr PatternTree pattern_level (Expr-F.Variable x))) (subst (AllByRecursion IsNamed) (sym (uses_roll (PatternTree-F.Variable (word x.text)))) tt);
    integer = λ i known. subst (λ t. AllByRecursion IsNamed (pattern_uses t)) (sym (fold-roll-Expr PatternTree pattern_level (Expr-F.Integer i))) (subst (AllByRecursion IsNamed) (sym (uses_roll (PatternTree-F.Integer i))) tt);
    made = λ g args each known.
        let level : (is_among names g.text && list_all (λ b. b) (map (is_known (is_among names)) args)) ≡ true = sym (fold-roll-Expr Bool (known_level (is_among names)) (Expr-F.Made g args)) ∙ known in
        subst (λ t. AllByRecursion IsNamed (pattern_uses t)) (sym (fold-roll-Expr PatternTree pattern_level (Expr-F.Made g args))) (sym_named g.text args each (left_true _ _ level) (right_true _ _ level));
  })

  each_named : (xs : List Expr) → Each IsClaim xs
  each_named [] = tt
  each_named (x ∷ xs) = (patterns_named x, each_named xs)

  pub rule_uses_named : (g : Spelling) (xs : List Expr) → is_among names g ≡ true → list_all (λ b. b) (map (is_known (is_among names)) xs) ≡ true → AllByRecursion IsNamed (pattern_uses (roll-PatternTree (PatternTree-F.Sym (word g) (map pattern_tree xs))))
  rule_uses_named g xs among known = sym_named g xs (each_named xs) among known

  any_uses : (count : ℕ) → joined (map pattern_uses (replicate count (roll-PatternTree PatternTree-F.Any))) ≡ []
  any_uses zero = refl
  any_uses (suc count) = ap (λ (us : List Use). us ++ joined (map pattern_uses (replicate count (roll-PatternTree PatternTree-F.Any)))) (uses_roll PatternTree-F.Any) ∙ any_uses count

  pub rest_uses_named : (g : Spelling) (count : ℕ) → is_among names g ≡ true → AllByRecursion IsNamed (pattern_uses (rest_tree g count).pattern)
  rest_uses_named g count among =
      subst (AllByRecursion IsNamed) (sym (uses_roll (PatternTree-F.Binder (word root_name) (roll-PatternTree (PatternTree-F.Sym (word g) (replicate count (roll-PatternTree PatternTree-F.Any)))))
      ∙ uses_roll (PatternTree-F.Sym (word g) (replicate count (roll-PatternTree PatternTree-F.Any)))))
      (among, subst (AllByRecursion IsNamed) (sym (any_uses count)) tt)

  truth_named : (g : Spelling) → is_among names g ≡ true → AllByRecursion IsNamed (pattern_uses (truth_tree g))
  truth_named g among = subst (AllByRecursion IsNamed) (sym (uses_roll (PatternTree-F.Sym (word g) []))) (among, tt)

  pub check_uses_named : is_among names check_name ≡ true → is_among names true_name ≡ true → is_among names false_name ≡ true → AllByRecursion IsNamed (pattern_uses check_tree.pattern)
  check_uses_named check truth falsity =
      let chain = roll-PatternTree (PatternTree-F.Chain (roll-PatternTree PatternTree-F.Int) ((signs.Plus, truth_tree true_name) ∷ (signs.Plus, truth_tree false_name) ∷ [])) in
      let chained : AllByRecursion IsNamed (pattern_uses (roll-PatternTree (PatternTree-F.Chain (roll-PatternTree PatternTree-F.Int) ((signs.Plus, truth_tree true_name) ∷ (signs.Plus, truth_tree false_name) ∷ [])))) =
      subst (AllByRecursion IsNamed) (sym (uses_roll (PatternTree-F.Chain (roll-PatternTree PatternTree-F.Int) ((signs.Plus, truth_tree true_name) ∷ (signs.Plus, truth_tree false_name) ∷ []))))
      (each_append IsNamed (pattern_uses (roll-PatternTree PatternTree-F.Int)) (pattern_uses (truth_tree true_name) ++ (pattern_uses (truth_tree false_name) ++ [])) (subst (AllByRecursion IsNamed) (sym (uses_roll PatternTree-F.Int)) tt)
      (each_append IsNamed (pattern_uses (truth_tree true_name)) (pattern_uses (truth_tree false_name) ++ []) (truth_named true_name truth) (each_append IsNamed (pattern_uses (truth_tree false_name)) [] (truth_named false_name falsity) tt))) in
      let bound : AllByRecursion IsNamed (pattern_uses (roll-PatternTree (PatternTree-F.Binder (word value_name) chain))) = subst (AllByRecursion IsNamed) (sym (uses_roll (PatternTree-F.Binder (word value_name) chain))) chained in
      subst (AllByRecursion IsNamed) (sym (uses_roll (PatternTree-F.Sym (word check_name) (roll-PatternTree (PatternTree-F.Binder (word value_name) chain) ∷ [])))) (check, each_append IsNamed (pattern_uses (roll-PatternTree (PatternTree-F.Binder (word value_name) chain))) [] bound tt)

  -- ---- terms

  pub bare_uses_named : (m : Marks) (x : Spelling) → AllByRecursion IsNamed (term_uses (bare m x))
  bare_uses_named m x = subst (AllByRecursion IsNamed) (sym (bare_uses m x)) tt

  module _ (e : Fun) (fits : Spelling → ℕ → Bool) (vars : List Spelling) (fits_among : (g : Spelling) (count : ℕ) → fits g count ≡ true → is_among names g ≡ true) (check : is_among names check_name ≡ true) where
    abbrev IsTerm : Expr → Type 0
    IsTerm x = is_sound fits vars x ≡ true → AllByRecursion IsNamed (term_uses (put e x).term)

    all_terms : (xs : List Expr) → Each IsTerm xs → list_all (λ b. b) (map (is_sound fits vars) xs) ≡ true → AllByRecursion IsNamed (flat_map (λ (a : Put). term_uses a.term) (map (put e) xs))
    all_terms [] each sound = tt
    all_terms (x ∷ xs) each sound = each_append IsNamed (term_uses (put e x).term) (flat_map (λ (a : Put). term_uses a.term) (map (put e) xs)) (each.0 (left_true _ _ sound)) (all_terms xs each.1 (right_true _ _ sound))

    over_named : (m : Marks) (g : Spelling) (xs : List Expr) → is_among names g ≡ true → Each IsTerm xs → list_all (λ b. b) (map (is_sound fits vars) xs) ≡ true → AllByRecursion IsNamed (term_uses (marked m (node_over g (map (put e) xs))))
    over_named m g xs among each sound = subst (AllByRecursion IsNamed) (sym (over_uses m g (map (put e) xs))) (among, all_terms xs each sound)

    checked_named : (t : TermTree) → AllByRecursion IsNamed (term_uses t) → AllByRecursion IsNamed (term_uses (checked t))
    checked_named t named = subst (AllByRecursion IsNamed) (sym (checked_uses t)) (check, each_append IsNamed (term_uses t) [] named tt)

    wrapped_named : (o : Option Op) (t : TermTree) → AllByRecursion IsNamed (term_uses t) → AllByRecursion IsNamed (term_uses (wrapped o t))
    wrapped_named None t named = named
    wrapped_named (Some o) t named = checked_named t named

    either_named : (b : Bool) (g : Spelling) (xs : List Expr) → is_among names g ≡ true → Each IsTerm xs → list_all (λ b. b) (map (is_sound fits vars) xs) ≡ true → AllByRecursion IsNamed (term_uses (made_put b g (map (put e) xs)).term)
    either_named true g xs among each sound = over_named marks.Plain g xs among each sound
    either_named false g xs among each sound = wrapped_named (operation g) (marked (marks_for (waiting (map (put e) xs))) (node_over g (map (put e) xs))) (over_named (marks_for (waiting (map (put e) xs))) g xs among each sound)

    record MadeParts (g : Name) (xs : List Expr) : Type 0 where
      pub among : is_among names g.text ≡ true
      pub sound : list_all (λ b. b) (map (is_sound fits vars) xs) ≡ true

    made_parts : (g : Name) (xs : List Expr) → is_sound fits vars (roll-Expr (Expr-F.Made g xs)) ≡ true → MadeParts g xs
    made_parts g xs sound =
        let one : (fits g.text (length (map (is_sound fits vars) xs)) && list_all (λ b. b) (map (is_sound fits vars) xs)) ≡ true = sym (fold-roll-Expr Bool (sound_level fits vars) (Expr-F.Made g xs)) ∙ sound in
        record { among = fits_among g.text (length (map (is_sound fits vars) xs)) (left_true _ _ one); sound = right_true _ _ one }

    terms_named : (x : Expr) → IsTerm x
    terms_named = expr_induction IsTerm (record {
      variable = λ x sound. subst (λ (a : Put). AllByRecursion IsNamed (term_uses a.term)) (sym (fold-roll-Expr Put (put_level e) (Expr-F.Variable x))) (bare_uses_named marks.Plain x.text);
      integer = λ i sound. subst (λ (a : Put). AllByRecursion IsNamed (term_uses a.term)) (sym (fold-roll-Expr Put (put_level e) (Expr-F.Integer i))) (subst (AllByRecursion IsNamed) (sym (integer_uses marks.Plain i)) tt);
      made = λ g xs each sound.
          let parts = made_parts g xs sound in
          subst (λ (a : Put). AllByRecursion IsNamed (term_uses a.term)) (sym (fold-roll-Expr Put (put_level e) (Expr-F.Made g xs)))
          (either_named (is_constructor e g.text && list_all (λ (a : Put). a.pure) (map (put e) xs)) g.text xs parts.among each parts.sound);
    })

    each_term : (xs : List Expr) → Each IsTerm xs
    each_term [] = tt
    each_term (x ∷ xs) = (terms_named x, each_term xs)

    top_either : (b : Bool) (g : Spelling) (xs : List Expr) → is_among names g ≡ true → list_all (λ b. b) (map (is_sound fits vars) xs) ≡ true → AllByRecursion IsNamed (term_uses (top_of (made_put b g (map (put e) xs))))
    top_either true g xs among sound = subst (λ t. AllByRecursion IsNamed (term_uses t)) (sym (starred_marked (node_over g (map (put e) xs)))) (over_named (marks.Star nowhere) g xs among (each_term xs) sound)
    top_either false g xs among sound = wrapped_named (operation g) (marked (marks_for (waiting (map (put e) xs))) (node_over g (map (put e) xs))) (over_named (marks_for (waiting (map (put e) xs))) g xs among (each_term xs) sound)

    abbrev IsTop : Expr → Type 0
    IsTop x = is_sound fits vars x ≡ true → AllByRecursion IsNamed (term_uses (top e x))

    pub tops_named : (x : Expr) → IsTop x
    tops_named = expr_induction IsTop (record {
      variable = λ x sound. subst (λ (a : Put). AllByRecursion IsNamed (term_uses (top_of a))) (sym (fold-roll-Expr Put (put_level e) (Expr-F.Variable x)))
          (subst (λ t. AllByRecursion IsNamed (term_uses t)) (sym (starred_bare x.text)) (bare_uses_named (marks.Star nowhere) x.text));
      integer = λ i sound. subst (λ (a : Put). AllByRecursion IsNamed (term_uses (top_of a))) (sym (fold-roll-Expr Put (put_level e) (Expr-F.Integer i)))
          (subst (λ t. AllByRecursion IsNamed (term_uses t)) (sym (starred_marked (roll-NodeTree (NodeTree-F.Integer i nowhere)))) (subst (AllByRecursion IsNamed) (sym (integer_uses (marks.Star nowhere) i)) tt));
      made = λ g xs each sound.
          let parts = made_parts g xs sound in
          subst (λ (a : Put). AllByRecursion IsNamed (term_uses (top_of a))) (sym (fold-roll-Expr Put (put_level e) (Expr-F.Made g xs)))
          (top_either (is_constructor e g.text && list_all (λ (a : Put). a.pure) (map (put e) xs)) g.text xs parts.among parts.sound);
    })
