-- The rule that an equation's tree means is the equation's rule.
use Rattle.std.proofs.Common.{◌≡◌, ℕ, suc, ◌+◌, ◌<◌, Bool, true, false, not, cond, ◌&&◌, List, [], ◌∷◌, ◌++◌, map, length, Option, Some, None, slice_get, unwrap_or, refl, sym, ◌∙◌, ap, subst, arith, if◌then◌else◌}
use Rattle.std.specs.List.{AllByRecursion, list_all, filter}
use Rattle.std.specs.Str.{bytes_eq}
use Rattle.dactl_model.specs.declared.program.Mention.{Mention}
use Rattle.dactl_model.specs.declared.program.Pat.TheOpen.{Pat-F}
use Rattle.dactl_model.specs.declared.program.Pat.TheViews.{roll-Pat}
use Rattle.dactl_model.specs.declared.program.Pat.TheFolds.{fold-roll-Pat}
use Rattle.dactl_model.specs.declared.program.Body.TheVariants.{Written}
use Rattle.dactl_model.specs.declared.program.Rule.{Rule}
use Rattle.dactl_model.specs.Binders.{head, head_level}
use Rattle.dactl_model.proofs.Unique.{right_true}
use Rattle.dactl_meaning.specs.declared.tree.PatternTree.TheOpen.{PatternTree-F}
use Rattle.dactl_meaning.specs.declared.tree.PatternTree.TheViews.{roll-PatternTree}
use Rattle.dactl_meaning.specs.declared.tree.Part.TheVariants as parts
use Rattle.dactl_meaning.specs.declared.tree.Text.{Text}
use Rattle.dactl_meaning.specs.Sight.{sees}
use Rattle.dactl_meaning.specs.Expansion.{is_among, number_in, each_once, variables_of, expansion_by, named_count, named_expansion}
use Rattle.dactl_meaning.specs.Contractum.{Sketch, MentionTree, term_draws, made_by, mentions_of, denotes, fresh_of, fresh_nodes, moves_of, has_star, wakes_of, suspend_of}
use Rattle.dactl_meaning.specs.Meaning.{rule_of}
use Rattle.fun_meaning.specs.declared.tree.Expr.{Expr}
use Rattle.fun_meaning.specs.declared.tree.Equation.{Equation}
use Rattle.fun_meaning.specs.declared.tree.Fun.{Fun}
use Rattle.fun_meaning.specs.Names.{Spelling, same_name, check_name, operation, place_of}
use Rattle.fun_meaning.specs.Values.{is_constructor, equation_names, word}
use Rattle.fun_meaning.specs.Translation.{IsEquationRule, IsTidyFresh}
use Rattle.fun_meaning.proofs.Zips.{each_map}
use Rattle.fun_compile.specs.Translated.{pattern_tree, top, equation_tree}
use Rattle.fun_meaning.specs.Sound.{AreOnce, is_sound, is_known}
use Rattle.fun_laws.proofs.DrawnStands.{bytes_same, number_place, place_below, IsSeenName, IsPut, tops}
use Rattle.fun_laws.proofs.Suspended.{no_suspension}
use Rattle.fun_laws.proofs.PatternsStand.{pattern_depth, IsSeen, symbol_expanded, patterns_expanded, rule_named}
use Rattle.fun_laws.proofs.Lists.{get_in_left}

-- ---- distinct names

filter_all : (test : Spelling → Bool) (xs : List Spelling) → ((k : ℕ) (x : Spelling) → slice_get xs k ≡ Some x → test x ≡ true) → filter test xs ≡ xs
filter_all test [] passes = refl
filter_all test (x ∷ xs) passes = ap (λ b. cond b (x ∷ filter test xs) (filter test xs)) (passes 0 x refl) ∙ ap (λ ys. x ∷ ys) (filter_all test xs (λ k y at. passes (suc k) y at))

later_place : (w : Spelling) (names : List Spelling) (x : Spelling) (k : ℕ) (b : Bool) → same_name w x ≡ b → (if b then 0 else suc (place_of names x)) ≡ suc k → (same_name w x ≡ false) × (place_of names x ≡ k)
later_place w names x k true same is = absurd (omega arith)
later_place w names x k false same is = (same, omega arith)

later : (w : Spelling) (names : List Spelling) → AreOnce (w ∷ names) → (k : ℕ) (x : Spelling) → slice_get names k ≡ Some x → (same_name w x ≡ false) × (place_of names x ≡ k)
later w names once k x at = later_place w names x k (same_name w x) refl (once (suc k) x at)

pub each_is_once : (xs : List Spelling) → AreOnce xs → each_once xs ≡ xs
each_is_once [] once = refl
each_is_once (w ∷ names) once =
    ap (λ ys. w ∷ filter (λ v. not (bytes_eq w v)) ys) (each_is_once names (λ k x at. (later w names once k x at).1))
    ∙ ap (λ ys. w ∷ ys) (filter_all (λ v. not (bytes_eq w v)) names (λ k x at. ap not (bytes_same w x ∙ (later w names once k x at).0)))

-- ---- wakes

woken_one : (names : List Spelling) (m : MentionTree) (rest : List MentionTree) (b : Bool) → (has_star m.marks && is_among names m.name.text) ≡ b → AllByRecursion (λ v. v < length names) (map (λ (n : MentionTree). number_in names n.name.text) rest)
    → AllByRecursion (λ v. v < length names) (map (λ (n : MentionTree). number_in names n.name.text) (cond b (m ∷ rest) rest))
woken_one names m rest true is all = (subst (λ v. v < length names) (sym (number_place names m.name.text)) (place_below names m.name.text (right_true _ _ is)), all)
woken_one names m rest false is all = all

pub woken_below : (names : List Spelling) (ms : List MentionTree) → AllByRecursion (λ v. v < length names) (map (λ (n : MentionTree). number_in names n.name.text) (filter (λ (m : MentionTree). has_star m.marks && is_among names m.name.text) ms))
woken_below names [] = tt
woken_below names (m ∷ ms) = woken_one names m (filter (λ (n : MentionTree). has_star n.marks && is_among names n.name.text) ms) (has_star m.marks && is_among names m.name.text) refl (woken_below names ms)

each_more : {A : Type 0} (P : A → Type 0) (xs : List A) → AllByRecursion P xs → AllByRecursion P (xs ++ [])
each_more P [] all = tt
each_more P (x ∷ xs) all = (all.0, each_more P xs all.1)

module _ (e : Fun) (symbols : List Spelling) (text : Text) (fits : Spelling → ℕ → Bool) (knows : Spelling → Bool)
    (seen : (g : Spelling) (count : ℕ) → fits g count ≡ true → IsSeenName e symbols (sees text 0) g count × (same_name g check_name ≡ false)) (check_seen : IsSeenName e symbols (sees text 0) check_name 1)
    (plain : (g : Spelling) → is_constructor e g ≡ true → operation g ≡ None) (known : (g : Spelling) → knows g ≡ true → IsSeen symbols (sees text 0) g) where
  -- what an equation or MAIN makes, where the variables have these names
  pub record IsContractum (names : List Spelling) (x : Expr) : Type 0 where
    pub first : Mention
    pub is : first ≡ denotes names (made_by (top e x ∷ [])) (term_draws (top e x) 0).target
    pub put : IsPut e symbols (sees text 0) fits names (made_by (top e x ∷ [])) seen check_seen plain x false (term_draws (top e x) 0)
    pub tidy : AllByRecursion (IsTidyFresh e symbols (length names) (fresh_nodes (sees text 0) names (top e x ∷ []))) (fresh_nodes (sees text 0) names (top e x ∷ []))

  pub contractum : (names : List Spelling) (x : Expr) → is_sound fits names x ≡ true → IsContractum names x
  contractum names x sound =
      let all = made_by (top e x ∷ []) in
      let is = tops e symbols (sees text 0) fits names (made_by (top e x ∷ [])) seen check_seen plain x sound 0
      (λ j s at. let number : 0 + j ≡ j = omega arith in ap (slice_get (made_by (top e x ∷ []))) number ∙ get_in_left (term_draws (top e x) 0).made [] j s at) in
      record {
        first = denotes names all (term_draws (top e x) 0).target;
        is = refl;
        put = is;
        tidy = each_map (fresh_of (sees text 0) names (made_by (top e x ∷ [])))
            (λ (s : Sketch). IsTidyFresh e symbols (length names) (fresh_nodes (sees text 0) names (top e x ∷ [])) (fresh_of (sees text 0) names (made_by (top e x ∷ [])) s))
            (IsTidyFresh e symbols (length names) (fresh_nodes (sees text 0) names (top e x ∷ []))) (λ s was. was) (made_by (top e x ∷ []))
            (each_more (λ (s : Sketch). IsTidyFresh e symbols (length names) (fresh_nodes (sees text 0) names (top e x ∷ [])) (fresh_of (sees text 0) names (made_by (top e x ∷ [])) s)) (term_draws (top e x) 0).made is.tidy);
      }

  -- the rule, where its variables have these names
  abbrev rule_by : List Spelling → ℕ → Equation → Rule
  rule_by names group eq =
      let tree = roll-PatternTree (PatternTree-F.Sym (word eq.head.text) (map pattern_tree eq.patterns)) in
      let pattern = expansion_by (sees text 0) (named_expansion text (named_count text)) (Some names) tree in
      record {
        symbol = unwrap_or (head pattern) 0;
        group = group;
        variables = length names;
        pattern = pattern;
        body = Written (fresh_nodes (sees text 0) names (top e eq.right ∷ [])) (moves_of names true (parts.Term (top e eq.right) ∷ [])) (wakes_of names (top e eq.right ∷ [])) (suspend_of [] (top e eq.right ∷ []));
      }

  rule_is_by : (group : ℕ) (eq : Equation) → rule_of text 0 group (equation_tree e eq) ≡ rule_by (variables_of (equation_tree e eq).pattern) group eq
  rule_is_by group eq = refl

  names_are : (eq : Equation) → AreOnce (equation_names eq) → variables_of (equation_tree e eq).pattern ≡ equation_names eq
  names_are eq once = ap each_once (rule_named eq.head.text eq.patterns false) ∙ each_is_once (equation_names eq) once

  by_names : (i : ℕ) (eq : Equation) (s : IsSeen symbols (sees text 0) eq.head.text) → list_all (λ b. b) (map (is_known knows) eq.patterns) ≡ true → is_sound fits (equation_names eq) eq.right ≡ true → IsEquationRule e symbols i eq (rule_by (equation_names eq) (5 + i) eq)
  by_names i eq s patterns_known sound =
      let names = equation_names eq in
      let expand = expansion_by (sees text 0) (named_expansion text (named_count text)) (Some (equation_names eq)) in
      let pattern_is : expand (roll-PatternTree (PatternTree-F.Sym (word eq.head.text) (map pattern_tree eq.patterns))) ≡ roll-Pat (Pat-F.Sym s.number (map expand (map pattern_tree eq.patterns))) =
      symbol_expanded symbols (sees text 0) (named_expansion text (named_count text)) (equation_names eq) knows known eq.head.text (map pattern_tree eq.patterns) s in
      let number : (rule_by (equation_names eq) (5 + i) eq).symbol ≡ s.number =
      ap (λ q. unwrap_or (head q) 0) pattern_is ∙ ap (λ o. unwrap_or o 0) (fold-roll-Pat (Option ℕ) head_level (Pat-F.Sym s.number (map expand (map pattern_tree eq.patterns)))) in
      let deep = pattern_depth symbols names eq.patterns (map expand (map pattern_tree eq.patterns)) (patterns_expanded symbols (sees text 0) (named_expansion text (named_count text)) (equation_names eq) knows known eq.patterns patterns_known) in
      let made = contractum (equation_names eq) eq.right sound in
      record {
        head = ap (slice_get symbols) number ∙ s.named;
        group = refl;
        variables = refl;
        depth = deep.0;
        args = map expand (map pattern_tree eq.patterns);
        patterns = deep.1;
        pattern = pattern_is ∙ ap (λ f. roll-Pat (Pat-F.Sym f (map expand (map pattern_tree eq.patterns)))) (sym number);
        fresh = fresh_nodes (sees text 0) (equation_names eq) (top e eq.right ∷ []);
        first = denotes (equation_names eq) (made_by (top e eq.right ∷ [])) (term_draws (top e eq.right) 0).target;
        wakes = wakes_of (equation_names eq) (top e eq.right ∷ []);
        body = ap (λ k. Written (fresh_nodes (sees text 0) (equation_names eq) (top e eq.right ∷ [])) (moves_of (equation_names eq) true (parts.Term (top e eq.right) ∷ [])) (wakes_of (equation_names eq) (top e eq.right ∷ [])) k) (no_suspension (top e eq.right ∷ []));
        height = made.put.stands.0;
        right = made.put.stands.1;
        tidy = made.tidy;
        first_tidy = made.put.no_operation;
        woken = woken_below (equation_names eq) (mentions_of (top e eq.right ∷ []));
      }

  pub equation_rule : (i : ℕ) (eq : Equation) (s : IsSeen symbols (sees text 0) eq.head.text) → AreOnce (equation_names eq) → list_all (λ b. b) (map (is_known knows) eq.patterns) ≡ true → is_sound fits (equation_names eq) eq.right ≡ true
      → IsEquationRule e symbols i eq (rule_of text 0 (5 + i) (equation_tree e eq))
  equation_rule i eq s once patterns_known sound = subst (λ names. IsEquationRule e symbols i eq (rule_by names (5 + i) eq)) (sym (names_are eq once)) (by_names i eq s patterns_known sound)
