-- No rule of a translation has a fault, and no INITIAL.
use Rattle.std.proofs.Common.{◌≡◌, ℕ, zero, suc, ◌+◌, ◌<◌, ◌≤◌, true, false, List, [], ◌∷◌, ◌++◌, map, length, replicate, Option, Some, None, slice_get, refl, sym, ◌∙◌, ap, subst, arith, nat_lt, inl, inr}
use Rattle.std.specs.List.{Contains, AllByRecursion, flat_map, filter, sum}
use Rattle.std.proofs.lemmas.List.Sums.{sum_by-cons}
use Rattle.dactl_base.specs.declared.refusal.Refusal.{Refusal}
use Rattle.dactl_model.specs.declared.program.Class.TheVariants as classes
use Rattle.dactl_model.specs.declared.program.Pat.{Pat}
use Rattle.dactl_model.specs.declared.program.Pat.TheOpen.{Pat-F}
use Rattle.dactl_model.specs.declared.program.Pat.TheViews.{roll-Pat}
use Rattle.dactl_model.specs.declared.program.Pat.TheFolds.{fold-roll-Pat, map-Pat}
use Rattle.dactl_model.specs.Binders.{head, head_level}
use Rattle.dactl_meaning.specs.declared.tree.Name.{Name}
use Rattle.dactl_meaning.specs.declared.tree.Marks.TheVariants as marks
use Rattle.dactl_meaning.specs.declared.tree.Sign.TheVariants as signs
use Rattle.dactl_meaning.specs.declared.tree.PatternTree.{PatternTree}
use Rattle.dactl_meaning.specs.declared.tree.PatternTree.TheOpen.{PatternTree-F}
use Rattle.dactl_meaning.specs.declared.tree.PatternTree.TheViews.{roll-PatternTree}
use Rattle.dactl_meaning.specs.declared.tree.PatternTree.TheFolds.{fold-roll-PatternTree, map-PatternTree}
use Rattle.dactl_meaning.specs.declared.tree.Item.TheVariants as item
use Rattle.dactl_meaning.specs.declared.tree.Group.{Group}
use Rattle.dactl_meaning.specs.declared.tree.RuleTree.{RuleTree}
use Rattle.dactl_meaning.specs.declared.tree.TermTree.{TermTree}
use Rattle.dactl_meaning.specs.declared.tree.Text.{Text}
use Rattle.dactl_meaning.specs.Declarations.{items, PlacedGroup, PlacedRule, rules}
use Rattle.dactl_meaning.specs.Sight.{sees, class_for}
use Rattle.dactl_meaning.specs.Expansion.{is_among, Occurrence, occurrences, each_once, variables_of, pattern_nodes_level, pattern_nodes, rule_expansion, pattern_expansion, named_count, named_expansion, expansion_level, expansion_by, at_name}
use Rattle.dactl_meaning.specs.RuleFaults.{again, widths_level, widths, is_pattern, is_class, head_is, contractum_faults, rule_faults, suspendable}
use Rattle.dactl_meaning.specs.Meaning.{rule_of, PlacedInitial, all_initials, named_faults, faults_of_rules, RuleFault}
use Rattle.fun_meaning.specs.declared.tree.Equation.{Equation}
use Rattle.fun_meaning.specs.declared.tree.Fun.{Fun}
use Rattle.fun_meaning.specs.Names.{Spelling, true_name, false_name, check_name}
use Rattle.fun_meaning.specs.Values.{all_names, variables_of as expression_variables, equation_names, word}
use Rattle.fun_meaning.proofs.Zips.{each_map}
use Rattle.fun_compile.specs.Translated.{bare, root_name, value_name, top, truth_tree, equation_tree, rest_tree, check_tree, group_of, trees_of, groups_of, translated}
use Rattle.dactl_meaning.specs.Unplaced.{nowhere}
use Rattle.fun_meaning.specs.Functions.{functions, first_ones, names_of, constructors}
use Rattle.fun_meaning.specs.Sound.{size_of, left_size, fits_in, AreSound, AreSmall}
use Rattle.fun_laws.proofs.PatternsStand.{IsSeen, rule_named}
use Rattle.fun_laws.proofs.EquationRules.{each_is_once}
use Rattle.fun_laws.proofs.LastRules.{rest_is, rest_occurs, rest_variables, check_rule, check_occurs, check_variables}
use Rattle.fun_laws.proofs.SeenNames.{class_of}
use Rattle.fun_laws.proofs.ContractumFaults.{tops_good, bare_good, no_contractum_faults}
use Rattle.fun_laws.proofs.PatternFaults.{rule_bare, rule_thin, rule_sized, rule_more}
use Rattle.fun_laws.proofs.RuleFaultsNone.{IsFine, bare_once, bare_choice, no_rule_faults}
use Rattle.fun_laws.proofs.Heads.{first_stood, first_of, head_has, placed}
use Rattle.fun_laws.proofs.Whole.{built, items_by, groups_are, initials_are, items_are, seen_of, seen_as, check_in, head_in, true_in, false_in, true_number, false_number, equation_is, rest_trees, last_trees}
use Rattle.fun_laws.proofs.Lists.{append_cases, get_in_left, get_in_right, flat_none, all_at}
use Rattle.fun_meaning.proofs.After.{get_map}
use Rattle.fun_meaning.proofs.FireTidy.{get_unmap}

fewer_than : (n k : ℕ) → n ≤ k → nat_lt 64 k ≡ false → nat_lt 64 n ≡ false
fewer_than n k below not_more = grind arith

few_rest : (count : ℕ) → nat_lt 16 count ≡ false → nat_lt 64 (1 + count) ≡ false
few_rest count not_more = grind arith

-- each rule of the text, with its module
abbrev pub placed_rule : RuleTree → PlacedRule
placed_rule t = record { owner = 0; rule = t }

rules_by : (trees : List RuleTree) → flat_map (λ (g : PlacedGroup). map (λ (r : RuleTree). record { owner = g.owner; rule = r }) g.group.rules) (map placed (map group_of trees)) ≡ map placed_rule trees
rules_by [] = refl
rules_by (t ∷ trees) = ap (λ (rs : List PlacedRule). placed_rule t ∷ rs) (rules_by trees)

pub rules_are : (e : Fun) → rules (translated e) ≡ map placed_rule (trees_of e)
rules_are e = ap (flat_map (λ (g : PlacedGroup). map (λ (r : RuleTree). record { owner = g.owner; rule = r }) g.group.rules)) (groups_are e) ∙ rules_by (trees_of e)

head_roll : (y : Pat-F Pat) → head (roll-Pat y) ≡ head_level (map-Pat Pat (Option ℕ) head y)
head_roll y = fold-roll-Pat (Option ℕ) head_level y

widths_roll : (y : PatternTree-F PatternTree) → widths (roll-PatternTree y) ≡ widths_level (map-PatternTree PatternTree (List (Name × ℕ)) widths y)
widths_roll y = fold-roll-PatternTree (List (Name × ℕ)) widths_level y

any_widths : (count : ℕ) → flat_map (λ (a : List (Name × ℕ)). a) (map widths (replicate count (roll-PatternTree PatternTree-F.Any))) ≡ []
any_widths zero = refl
any_widths (suc count) = ap (λ ws. ws ++ flat_map (λ (a : List (Name × ℕ)). a) (map widths (replicate count (roll-PatternTree PatternTree-F.Any)))) (widths_roll PatternTree-F.Any) ∙ any_widths count

any_long : (count : ℕ) → length (map widths (replicate count (roll-PatternTree PatternTree-F.Any))) ≡ count
any_long zero = refl
any_long (suc count) = ap suc (any_long count)

nodes_roll : (y : Pat-F Pat) → pattern_nodes (roll-Pat y) ≡ pattern_nodes_level (map-Pat Pat ℕ pattern_nodes y)
nodes_roll y = fold-roll-Pat ℕ pattern_nodes_level y

named_by : (text : Text) (heads : List Spelling) (names : List Name) (gs : List Group) (terms : List TermTree) → flat_map (named_faults text) (items_by heads names (item.Rules gs ∷ item.Initial nowhere terms ∷ [])) ≡ []
named_by text heads [] gs terms = refl
named_by text heads (g ∷ names) gs terms = refl

three_none : (a b c : List Refusal) → a ≡ [] → b ≡ [] → c ≡ [] → a ++ b ++ c ≡ []
three_none a b c one two three = rw (one, two, three) refl

module _ (e : Fun) (s : AreSound e) (m : AreSmall e) where
  -- ---- the root

  root_ok : (q : Pat) (f : ℕ) (g : Spelling) (j : ℕ) → head q ≡ Some f → slice_get (names_of e) f ≡ Some g → slice_get (functions e ++ check_name ∷ []) j ≡ Some g → head_is (λ k. is_class classes.Rewritable (class_for (translated e) 0 k)) (head q) ≡ true
  root_ok q f g j is named at =
      let place : slice_get (names_of e) (7 + j) ≡ Some g = get_in_right built ((functions e ++ check_name ∷ []) ++ constructors e) j ∙ get_in_left (functions e ++ check_name ∷ []) (constructors e) j g at in
      let number : f ≡ 7 + j = sym (s.once f g named) ∙ s.once (7 + j) g place in
      ap (head_is (λ k. is_class classes.Rewritable (class_for (translated e) 0 k))) (is ∙ ap Some number) ∙ ap (is_class classes.Rewritable) (class_of e j g at)

  -- where a head stands among the functions
  head_place : (i : ℕ) (eq : Equation) → slice_get e.equations i ≡ Some eq → (j : ℕ) × (slice_get (functions e ++ check_name ∷ []) j ≡ Some eq.head.text)
  head_place i eq at =
      let has = head_has e.equations i eq at in
      let first = first_of e.equations eq.head.text has.0 has.1 in
      (first.place, get_in_left (functions e) (check_name ∷ []) first.place eq.head.text (get_map (λ (x : Equation). x.head.text) (first_ones e.equations) first.place first.equation first.at ∙ ap Some first.head))

  check_place : slice_get (functions e ++ check_name ∷ []) (length (functions e) + 0) ≡ Some check_name
  check_place = get_in_right (functions e) (check_name ∷ []) 0

  -- ---- contracta

  sees_symbol : (g : Spelling) (count : ℕ) → fits_in e g count ≡ true → is_pattern (sees (translated e) 0 g) ≡ false
  sees_symbol g count fits = let is = seen_as e s g count fits in ap is_pattern is.0.seen

  sees_check : is_pattern (sees (translated e) 0 check_name) ≡ false
  sees_check = let is = seen_of e s check_name (check_in e s) in ap is_pattern is.seen

  -- ---- an equation

  names_are : (i : ℕ) (eq : Equation) → slice_get e.equations i ≡ Some eq → variables_of (equation_tree e eq).pattern ≡ equation_names eq
  names_are i eq at = ap each_once (rule_named eq.head.text eq.patterns false) ∙ each_is_once (equation_names eq) (s.heads i eq at).once

  equation_fine : (i : ℕ) (eq : Equation) → slice_get e.equations i ≡ Some eq → IsFine (translated e) (equation_tree e eq).pattern
  equation_fine i eq at =
      let nodes : pattern_nodes (pattern_expansion (translated e) 0 (equation_tree e eq).pattern) ≡ left_size eq =
      rule_sized (names_of e) (sees (translated e) 0) (named_expansion (translated e) (named_count (translated e))) (is_among (names_of e)) (seen_of e s) eq.head.text eq.patterns (head_in e s i eq at) (s.patterns i eq at) in
      let more : length (all_names (map expression_variables eq.patterns)) ≤ sum (map size_of eq.patterns) = rule_more eq.patterns in
      record {
        choice = bare_choice (occurrences (equation_tree e eq).pattern) (rule_bare eq.head.text eq.patterns);
        once = bare_once (occurrences (equation_tree e eq).pattern) (rule_bare eq.head.text eq.patterns);
        thin = rule_thin eq.head.text eq.patterns (m.heads i eq at) (m.patterns i eq at);
        nodes = ap (nat_lt 64) nodes ∙ m.lefts i eq at;
        variables = ap (λ (ns : List Spelling). nat_lt 64 (length ns)) (names_are i eq at) ∙ fewer_than (length (equation_names eq)) (left_size eq) (omega arith) (m.lefts i eq at);
      }

  equation_none : (i : ℕ) (eq : Equation) → slice_get e.equations i ≡ Some eq → rule_faults (translated e) 0 (equation_tree e eq) ≡ []
  equation_none i eq at =
      let is = equation_is e s i eq at in
      let place = head_place i eq at in
      let q = rule_expansion (translated e) 0 (equation_tree e eq).pattern in
      let head_is_it : head (rule_expansion (translated e) 0 (equation_tree e eq).pattern) ≡ Some (rule_of (translated e) 0 (5 + i) (equation_tree e eq)).symbol = ap head is.pattern ∙ head_roll (Pat-F.Sym (rule_of (translated e) 0 (5 + i) (equation_tree e eq)).symbol is.args) in
      no_rule_faults (translated e) (equation_tree e eq) (root_ok q (rule_of (translated e) 0 (5 + i) (equation_tree e eq)).symbol eq.head.text place.0 head_is_it is.head place.1) (equation_fine i eq at)
      (subst (λ ns. contractum_faults (sees (translated e) 0) ns (suspendable (equation_tree e eq)) (top e eq.right ∷ []) ≡ []) (sym (names_are i eq at))
      (no_contractum_faults e (sees (translated e) 0) (fits_in e) (equation_names eq) sees_symbol sees_check (suspendable (equation_tree e eq)) (top e eq.right) (tops_good e (sees (translated e) 0) (fits_in e) (equation_names eq) sees_symbol sees_check eq.right (s.rights i eq at) (m.rights i eq at))))
      refl

  -- ---- a last group

  rest_widths : (g : Spelling) (count : ℕ) → widths (rest_tree g count).pattern ≡ (word g, count) ∷ []
  rest_widths g count =
      widths_roll (PatternTree-F.Binder (word root_name) (roll-PatternTree (PatternTree-F.Sym (word g) (replicate count (roll-PatternTree PatternTree-F.Any)))))
      ∙ widths_roll (PatternTree-F.Sym (word g) (replicate count (roll-PatternTree PatternTree-F.Any)))
      ∙ ap (λ (ws : List (Name × ℕ)). (word g, length (map widths (replicate count (roll-PatternTree PatternTree-F.Any)))) ∷ ws) (any_widths count) ∙ ap (λ (k : ℕ). (word g, k) ∷ []) (any_long count)

  abbrev expand : PatternTree → Pat
  expand = expansion_by (sees (translated e) 0) (named_expansion (translated e) (named_count (translated e))) None

  expand_roll : (y : PatternTree-F PatternTree) → expand (roll-PatternTree y) ≡ expansion_level (sees (translated e) 0) (named_expansion (translated e) (named_count (translated e))) None (map-PatternTree PatternTree Pat expand y)
  expand_roll y = fold-roll-PatternTree Pat (expansion_level (sees (translated e) 0) (named_expansion (translated e) (named_count (translated e))) None) y

  symbol_expanded : (g : Spelling) (args : List PatternTree) (is : IsSeen (names_of e) (sees (translated e) 0) g) → expand (roll-PatternTree (PatternTree-F.Sym (word g) args)) ≡ roll-Pat (Pat-F.Sym is.number (map expand args))
  symbol_expanded g args is = expand_roll (PatternTree-F.Sym (word g) args) ∙ ap (λ o. at_name (named_expansion (translated e) (named_count (translated e))) o (map expand args)) is.seen

  any_nodes : (count : ℕ) → sum (map pattern_nodes (map expand (replicate count (roll-PatternTree PatternTree-F.Any)))) ≡ count
  any_nodes zero = refl
  any_nodes (suc count) =
      let one : pattern_nodes (expand (roll-PatternTree PatternTree-F.Any)) ≡ 1 = ap pattern_nodes (expand_roll PatternTree-F.Any) ∙ nodes_roll Pat-F.Any in
      let rest : sum (map pattern_nodes (map expand (replicate count (roll-PatternTree PatternTree-F.Any)))) ≡ count = any_nodes count in
      let total : 1 + sum (map pattern_nodes (map expand (replicate count (roll-PatternTree PatternTree-F.Any)))) ≡ suc count = omega arith in
      sum_by-cons (λ (n : ℕ). n) (pattern_nodes (expand (roll-PatternTree PatternTree-F.Any))) (map pattern_nodes (map expand (replicate count (roll-PatternTree PatternTree-F.Any))))
      ∙ ap (λ n. n + sum (map pattern_nodes (map expand (replicate count (roll-PatternTree PatternTree-F.Any))))) one ∙ total

  rest_nodes : (g : Spelling) (count : ℕ) → IsSeen (names_of e) (sees (translated e) 0) g → pattern_nodes (pattern_expansion (translated e) 0 (rest_tree g count).pattern) ≡ 1 + count
  rest_nodes g count is =
      ap pattern_nodes (expand_roll (PatternTree-F.Binder (word root_name) (roll-PatternTree (PatternTree-F.Sym (word g) (replicate count (roll-PatternTree PatternTree-F.Any)))))
      ∙ symbol_expanded g (replicate count (roll-PatternTree PatternTree-F.Any)) is)
      ∙ nodes_roll (Pat-F.Sym is.number (map expand (replicate count (roll-PatternTree PatternTree-F.Any)))) ∙ ap (λ n. 1 + n) (any_nodes count)

  rest_fine : (g : Spelling) (count : ℕ) → IsSeen (names_of e) (sees (translated e) 0) g → nat_lt 16 count ≡ false → IsFine (translated e) (rest_tree g count).pattern
  rest_fine g count is few =
      let occurs : occurrences (rest_tree g count).pattern ≡ record { name = word root_name; given = true; in_choice = false } ∷ [] = rest_occurs g count in
      record {
        choice = subst (AllByRecursion (λ (o : Occurrence). o.in_choice ≡ false)) (sym occurs) (refl, tt);
        once = ap (λ (os : List Occurrence). again [] (map (λ (o : Occurrence). o.name) (filter (λ (o : Occurrence). o.given) os))) occurs;
        thin = subst (AllByRecursion (λ (w : Name × ℕ). nat_lt 16 w.1 ≡ false)) (sym (rest_widths g count)) (few, tt);
        nodes = ap (nat_lt 64) (rest_nodes g count is) ∙ few_rest count few;
        variables = ap (λ (ns : List Spelling). nat_lt 64 (length ns)) (rest_variables g count);
      }

  rest_none : (g : Spelling) (count j : ℕ) → IsSeen (names_of e) (sees (translated e) 0) g → nat_lt 16 count ≡ false → slice_get (functions e ++ check_name ∷ []) j ≡ Some g → rule_faults (translated e) 0 (rest_tree g count) ≡ []
  rest_none g count j is few at =
      let rest = rest_is (names_of e) (translated e) 0 g count is in
      let head_is_it : head (rule_expansion (translated e) 0 (rest_tree g count).pattern) ≡ Some is.number =
      ap head rest.pattern ∙ head_roll (Pat-F.Bind 0 (roll-Pat (Pat-F.Sym is.number (replicate count (roll-Pat Pat-F.Any))))) ∙ head_roll (Pat-F.Sym is.number (replicate count (roll-Pat Pat-F.Any))) in
      no_rule_faults (translated e) (rest_tree g count) (root_ok (rule_expansion (translated e) 0 (rest_tree g count).pattern) is.number g j head_is_it is.named at) (rest_fine g count is few)
      (subst (λ ns. contractum_faults (sees (translated e) 0) ns (suspendable (rest_tree g count)) (bare marks.Plain root_name ∷ []) ≡ []) (sym (rest_variables g count))
      (no_contractum_faults e (sees (translated e) 0) (fits_in e) (root_name ∷ []) sees_symbol sees_check (suspendable (rest_tree g count)) (bare marks.Plain root_name) (bare_good e (sees (translated e) 0) (fits_in e) (root_name ∷ []) sees_symbol sees_check marks.Plain root_name 0 refl refl)))
      refl

  -- ---- Chk

  abbrev check_chain : PatternTree
  check_chain = roll-PatternTree (PatternTree-F.Chain (roll-PatternTree PatternTree-F.Int) ((signs.Plus, truth_tree true_name) ∷ (signs.Plus, truth_tree false_name) ∷ []))

  abbrev check_binder : PatternTree
  check_binder = roll-PatternTree (PatternTree-F.Binder (word value_name) check_chain)

  truth_widths : (g : Spelling) → widths (truth_tree g) ≡ (word g, 0) ∷ []
  truth_widths g = widths_roll (PatternTree-F.Sym (word g) [])

  check_widths : widths check_tree.pattern ≡ (word check_name, 1) ∷ (word true_name, 0) ∷ (word false_name, 0) ∷ []
  check_widths =
      widths_roll (PatternTree-F.Sym (word check_name) (check_binder ∷ []))
      ∙ ap (λ (ws : List (Name × ℕ)). (word check_name, 1) ∷ (ws ++ [])) (widths_roll (PatternTree-F.Binder (word value_name) check_chain)
      ∙ widths_roll (PatternTree-F.Chain (roll-PatternTree PatternTree-F.Int) ((signs.Plus, truth_tree true_name) ∷ (signs.Plus, truth_tree false_name) ∷ []))
      ∙ ap (λ (ws : List (Name × ℕ)). ws ++ (widths (truth_tree true_name) ++ (widths (truth_tree false_name) ++ []))) (widths_roll PatternTree-F.Int)
      ∙ ap (λ (ws : List (Name × ℕ)). ws ++ (widths (truth_tree false_name) ++ [])) (truth_widths true_name) ∙ ap (λ (ws : List (Name × ℕ)). (word true_name, 0) ∷ (ws ++ [])) (truth_widths false_name))

  truth_nodes : (g : Spelling) → IsSeen (names_of e) (sees (translated e) 0) g → pattern_nodes (expand (truth_tree g)) ≡ 1
  truth_nodes g is = ap pattern_nodes (symbol_expanded g [] is) ∙ nodes_roll (Pat-F.Sym is.number [])

  check_nodes : pattern_nodes (pattern_expansion (translated e) 0 check_tree.pattern) ≡ 6
  check_nodes =
      let is = seen_of e s check_name (check_in e s) in
      let chained : pattern_nodes (expand check_chain) ≡ 5 =
      ap pattern_nodes (expand_roll (PatternTree-F.Chain (roll-PatternTree PatternTree-F.Int) ((signs.Plus, truth_tree true_name) ∷ (signs.Plus, truth_tree false_name) ∷ [])))
      ∙ nodes_roll (Pat-F.Union (roll-Pat (Pat-F.Union (expand (roll-PatternTree PatternTree-F.Int)) (expand (truth_tree true_name)))) (expand (truth_tree false_name)))
      ∙ ap (λ n. 1 + (n + pattern_nodes (expand (truth_tree false_name)))) (nodes_roll (Pat-F.Union (expand (roll-PatternTree PatternTree-F.Int)) (expand (truth_tree true_name))))
      ∙ ap (λ n. 1 + (1 + (n + pattern_nodes (expand (truth_tree true_name))) + pattern_nodes (expand (truth_tree false_name)))) (ap pattern_nodes (expand_roll PatternTree-F.Int) ∙ nodes_roll Pat-F.Int)
      ∙ ap (λ n. 1 + (1 + (1 + n) + pattern_nodes (expand (truth_tree false_name)))) (truth_nodes true_name (seen_of e s true_name (true_in e s))) ∙ ap (λ n. 1 + (1 + (1 + 1) + n)) (truth_nodes false_name (seen_of e s false_name (false_in e s))) in
      ap pattern_nodes (symbol_expanded check_name (check_binder ∷ []) is) ∙ nodes_roll (Pat-F.Sym is.number (expand check_binder ∷ [])) ∙ ap (λ q. 1 + sum (pattern_nodes q ∷ [])) (expand_roll (PatternTree-F.Binder (word value_name) check_chain)) ∙ ap (λ n. 1 + sum (n ∷ [])) chained

  check_fine : IsFine (translated e) check_tree.pattern
  check_fine =
      let occurs : occurrences check_tree.pattern ≡ record { name = word value_name; given = true; in_choice = false } ∷ [] = check_occurs (names_of e) (translated e) in
      record {
        choice = subst (AllByRecursion (λ (o : Occurrence). o.in_choice ≡ false)) (sym occurs) (refl, tt);
        once = ap (λ (os : List Occurrence). again [] (map (λ (o : Occurrence). o.name) (filter (λ (o : Occurrence). o.given) os))) occurs;
        thin = subst (AllByRecursion (λ (w : Name × ℕ). nat_lt 16 w.1 ≡ false)) (sym check_widths) (refl, (refl, (refl, tt)));
        nodes = ap (nat_lt 64) check_nodes;
        variables = ap (λ (ns : List Spelling). nat_lt 64 (length ns)) (check_variables (names_of e) (translated e));
      }

  check_none : rule_faults (translated e) 0 check_tree ≡ []
  check_none =
      let here = seen_of e s check_name (check_in e s) in
      let is = check_rule (names_of e) (translated e) 0 here (seen_of e s true_name (true_in e s)) (seen_of e s false_name (false_in e s)) (true_number e s) (false_number e s) in
      let q = rule_expansion (translated e) 0 check_tree.pattern in
      let head_is_it : head (rule_expansion (translated e) 0 check_tree.pattern) ≡ Some (rule_of (translated e) 0 0 check_tree).symbol = ap head is.pattern ∙ head_roll (Pat-F.Sym (rule_of (translated e) 0 0 check_tree).symbol _) in
      no_rule_faults (translated e) check_tree (root_ok q (rule_of (translated e) 0 0 check_tree).symbol check_name (length (functions e) + 0) head_is_it is.named check_place) check_fine
      (subst (λ ns. contractum_faults (sees (translated e) 0) ns (suspendable check_tree) (bare (marks.Star nowhere) value_name ∷ []) ≡ []) (sym (check_variables (names_of e) (translated e)))
      (no_contractum_faults e (sees (translated e) 0) (fits_in e) (value_name ∷ []) sees_symbol sees_check (suspendable check_tree) (bare (marks.Star nowhere) value_name) (bare_good e (sees (translated e) 0) (fits_in e) (value_name ∷ []) sees_symbol sees_check (marks.Star nowhere) value_name 0 refl refl)))
      refl

  -- ---- all of them

  last_none : (k : ℕ) (t : RuleTree) → slice_get (last_trees e s) k ≡ Some t → rule_faults (translated e) 0 t ≡ []
  last_none zero t at = let same : check_tree ≡ t = cc in subst (λ z. rule_faults (translated e) 0 z ≡ []) same check_none
  last_none (suc zero) t at =
      let same : rest_tree check_name 1 ≡ t = cc in
      subst (λ z. rule_faults (translated e) 0 z ≡ []) same (rest_none check_name 1 (length (functions e) + 0) (seen_of e s check_name (check_in e s)) refl check_place)
  last_none (suc (suc k)) t at = absurd (cc at)

  tree_none : (j : ℕ) (t : RuleTree) → slice_get (trees_of e) j ≡ Some t → rule_faults (translated e) 0 t ≡ []
  tree_none j t at =
      elim (append_cases (map (equation_tree e) e.equations) (rest_trees e s ++ last_trees e s) j t at) [
        | inl here ↦ let from = get_unmap (equation_tree e) e.equations j t here in subst (λ z. rule_faults (translated e) 0 z ≡ []) (sym from.2) (equation_none j from.0 from.1)
        | inr (i, there, total) ↦
            elim (append_cases (rest_trees e s) (last_trees e s) i t there) [
              | inl here ↦
                  let from = get_unmap (λ (eq : Equation). rest_tree eq.head.text (length eq.patterns)) (first_ones e.equations) i t here in
                  let stood = first_stood e.equations i from.0 from.1 in
                  let place = head_place stood.0 from.0 stood.1 in
                  subst (λ z. rule_faults (translated e) 0 z ≡ []) (sym from.2) (rest_none from.0.head.text (length from.0.patterns) place.0 (seen_of e s from.0.head.text (head_in e s stood.0 from.0 stood.1)) (m.heads stood.0 from.0 stood.1) place.1)
              | inr (k, last, sum) ↦ last_none k t last
            ]
      ]

  rules_none : flat_map (λ (r : PlacedRule). rule_faults (translated e) r.owner r.rule) (rules (translated e)) ≡ []
  rules_none =
      ap (flat_map (λ (r : PlacedRule). rule_faults (translated e) r.owner r.rule)) (rules_are e)
      ∙ flat_none (λ (r : PlacedRule). rule_faults (translated e) r.owner r.rule) (map placed_rule (trees_of e))
      (each_map placed_rule (λ (t : RuleTree). rule_faults (translated e) 0 t ≡ []) (λ (r : PlacedRule). rule_faults (translated e) r.owner r.rule ≡ []) (λ t is. is) (trees_of e) (all_at (λ (t : RuleTree). rule_faults (translated e) 0 t ≡ []) (trees_of e) tree_none))

  initial_none : flat_map (λ (i : PlacedInitial). contractum_faults (sees (translated e) i.owner) [] [] i.terms) (all_initials (translated e)) ≡ []
  initial_none =
      ap (flat_map (λ (i : PlacedInitial). contractum_faults (sees (translated e) i.owner) [] [] i.terms)) (initials_are e)
      ∙ ap (λ (rs : List Refusal). rs ++ []) (no_contractum_faults e (sees (translated e) 0) (fits_in e) [] sees_symbol sees_check [] (top e e.main) (tops_good e (sees (translated e) 0) (fits_in e) [] sees_symbol sees_check e.main s.main m.main))

  faults_none : faults_of_rules (translated e) ≡ []
  faults_none = three_none (flat_map (named_faults (translated e)) (items (translated e))) _ _ (ap (flat_map (named_faults (translated e))) (items_are e) ∙ named_by (translated e) (functions e ++ check_name ∷ []) e.constructors (groups_of e) (top e e.main ∷ [])) rules_none initial_none

  -- no rule, named pattern or INITIAL has a fault
  pub no_rule_fault : (r : Refusal) → RuleFault (translated e) r → ⊥
  no_rule_fault r is =
      let none : Contains [] r = subst (λ (rs : List Refusal). Contains rs r) faults_none is in
      absurd (let below : none.0 < 0 = none.1 in omega arith)
