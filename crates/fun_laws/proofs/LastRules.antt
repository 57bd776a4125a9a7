-- The rules of the last groups, and that of Chk.
use Rattle.std.proofs.Common.{◌≡◌, ℕ, zero, suc, Bool, true, false, ◌&&◌, List, [], ◌∷◌, ◌++◌, map, length, replicate, Option, Some, None, slice_get, unwrap_or, refl, sym, ◌∙◌, ap, subst}
use Rattle.std.specs.List.{flat_map, filter}
use Rattle.dactl_model.specs.declared.program.Mention.TheVariants.{Old}
use Rattle.dactl_model.specs.declared.program.FreshNode.{FreshNode}
use Rattle.dactl_model.specs.declared.program.Move.{Move}
use Rattle.dactl_model.specs.declared.program.Pat.{Pat}
use Rattle.dactl_model.specs.declared.program.Pat.TheOpen.{Pat-F}
use Rattle.dactl_model.specs.declared.program.Pat.TheViews.{roll-Pat}
use Rattle.dactl_model.specs.declared.program.Pat.TheFolds.{fold-roll-Pat}
use Rattle.dactl_model.specs.declared.program.Body.TheVariants.{Written}
use Rattle.dactl_model.specs.declared.program.Rule.{Rule}
use Rattle.dactl_model.specs.Binders.{head, head_level}
use Rattle.dactl_meaning.specs.declared.tree.Marks.{Marks}
use Rattle.dactl_meaning.specs.declared.tree.Marks.TheVariants as marks
use Rattle.dactl_meaning.specs.declared.tree.Sign.TheVariants as signs
use Rattle.dactl_meaning.specs.declared.tree.PatternTree.{PatternTree}
use Rattle.dactl_meaning.specs.declared.tree.PatternTree.TheOpen.{PatternTree-F}
use Rattle.dactl_meaning.specs.declared.tree.PatternTree.TheViews.{roll-PatternTree}
use Rattle.dactl_meaning.specs.declared.tree.PatternTree.TheFolds.{fold-roll-PatternTree, map-PatternTree}
use Rattle.dactl_meaning.specs.declared.tree.Part.TheVariants as parts
use Rattle.dactl_meaning.specs.declared.tree.Text.{Text}
use Rattle.dactl_meaning.specs.Sight.{Seen, sees}
use Rattle.dactl_meaning.specs.Expansion.{is_among, number_in, each_once, Occurrence, occurrences_in, variables_of, at_name, expansion_level, expansion_by, named_count, named_expansion}
use Rattle.dactl_meaning.specs.Contractum.{Sketch, Drawn, MentionTree, made_by, denotes, fresh_of, fresh_nodes, moves_of, has_star, wakes_of, has_hashes, asked_by, suspend_of}
use Rattle.dactl_meaning.specs.Meaning.{rule_of}
use Rattle.fun_meaning.specs.Names.{Spelling, true_name, false_name, check_name, operation}
use Rattle.fun_meaning.specs.Translation.{IsRestRule, IsCheckRule, plain_pattern, root_to}
use Rattle.fun_compile.specs.Translated.{bare, root_name, value_name, rest_tree, truth_tree, check_tree}
use Rattle.dactl_meaning.specs.Unplaced.{nowhere}
use Rattle.fun_meaning.specs.Values.{word}
use Rattle.fun_laws.proofs.Drawing.{bare_draws}
use Rattle.fun_laws.proofs.PatternsStand.{IsSeen, occurs_roll}
use Rattle.fun_laws.proofs.Suspended.{no_suspension}
use Rattle.dactl_meaning.specs.RuleFaults.{suspendable}
use Rattle.fun_laws.proofs.ContractumFaults.{bare_mentions}

-- ---- a term that is a name

bare_made : (m : Marks) (x : Spelling) → made_by (bare m x ∷ []) ≡ []
bare_made m x = ap (λ (d : Drawn). d.made ++ []) (bare_draws m x 0)

bare_fresh : (look : List ℕ → Option Seen) (names : List Spelling) (m : Marks) (x : Spelling) → fresh_nodes look names (bare m x ∷ []) ≡ []
bare_fresh look names m x = ap (λ (made : List Sketch). map (fresh_of look names made) made) (bare_made m x)

written_is : (a b : List FreshNode) (c d : List Move) (f g : List ℕ) (k : ℕ) → a ≡ b → c ≡ d → f ≡ g → k ≡ 0 → Written a c f k ≡ Written b d g 0
written_is a b c d f g k one two three four = ap (λ x. Written x c f k) one ∙ ap (λ x. Written b x f k) two ∙ ap (λ x. Written b d x k) three ∙ ap (λ x. Written b d g x) four

-- ---- the last group of a function

none_occur : (count : ℕ) → flat_map (λ (a : Bool → List Occurrence). a false) (map occurrences_in (replicate count (roll-PatternTree PatternTree-F.Any))) ≡ []
none_occur zero = refl
none_occur (suc count) = ap (λ os. os ++ flat_map (λ (a : Bool → List Occurrence). a false) (map occurrences_in (replicate count (roll-PatternTree PatternTree-F.Any)))) (occurs_roll PatternTree-F.Any false) ∙ none_occur count

abbrev rest_inner : Spelling → ℕ → PatternTree
rest_inner g count = roll-PatternTree (PatternTree-F.Sym (word g) (replicate count (roll-PatternTree PatternTree-F.Any)))

pub rest_occurs : (g : Spelling) (count : ℕ) → occurrences_in (rest_tree g count).pattern false ≡ record { name = word root_name; given = true; in_choice = false } ∷ []
rest_occurs g count =
    occurs_roll (PatternTree-F.Binder (word root_name) (rest_inner g count)) false
    ∙ ap (λ (os : List Occurrence). record { name = word root_name; given = true; in_choice = false } ∷ os) (occurs_roll (PatternTree-F.Sym (word g) (replicate count (roll-PatternTree PatternTree-F.Any))) false ∙ none_occur count)

pub rest_variables : (g : Spelling) (count : ℕ) → variables_of (rest_tree g count).pattern ≡ root_name ∷ []
rest_variables g count = ap (λ (os : List Occurrence). each_once (map (λ (o : Occurrence). o.name.text) os)) (rest_occurs g count)

-- what the rule of a last group is
pub record IsRest (f : ℕ) (count : ℕ) (rule : Rule) : Type 0 where
  pub symbol : rule.symbol ≡ f
  pub variables : rule.variables ≡ 1
  pub pattern : rule.pattern ≡ roll-Pat (Pat-F.Bind 0 (roll-Pat (Pat-F.Sym f (replicate count (roll-Pat Pat-F.Any)))))
  pub body : rule.body ≡ Written [] [] [] 0

module _ (symbols : List Spelling) (text : Text) where
  abbrev expand : List Spelling → PatternTree → Pat
  expand names = expansion_by (sees text 0) (named_expansion text (named_count text)) (Some names)

  expand_roll : (names : List Spelling) (y : PatternTree-F PatternTree) → expand names (roll-PatternTree y) ≡ expansion_level (sees text 0) (named_expansion text (named_count text)) (Some names) (map-PatternTree PatternTree Pat (expand names) y)
  expand_roll names y = fold-roll-PatternTree Pat (expansion_level (sees text 0) (named_expansion text (named_count text)) (Some names)) y

  symbol_expanded : (names : List Spelling) (g : Spelling) (args : List PatternTree) (s : IsSeen symbols (sees text 0) g) → expand names (roll-PatternTree (PatternTree-F.Sym (word g) args)) ≡ roll-Pat (Pat-F.Sym s.number (map (expand names) args))
  symbol_expanded names g args s = expand_roll names (PatternTree-F.Sym (word g) args) ∙ ap (λ o. at_name (named_expansion text (named_count text)) o (map (expand names) args)) s.seen

  any_expanded : (names : List Spelling) (count : ℕ) → map (expand names) (replicate count (roll-PatternTree PatternTree-F.Any)) ≡ replicate count (roll-Pat Pat-F.Any)
  any_expanded names zero = refl
  any_expanded names (suc count) =
      ap (λ p. p ∷ map (expand names) (replicate count (roll-PatternTree PatternTree-F.Any))) (expand_roll names PatternTree-F.Any) ∙ ap (λ ps. roll-Pat Pat-F.Any ∷ ps) (any_expanded names count)

  abbrev rest_by : List Spelling → ℕ → Spelling → ℕ → Rule
  rest_by names group g count =
      let pattern = expansion_by (sees text 0) (named_expansion text (named_count text)) (Some names) (rest_tree g count).pattern in
      record {
        symbol = unwrap_or (head pattern) 0;
        group = group;
        variables = length names;
        pattern = pattern;
        body = Written (fresh_nodes (sees text 0) names (bare marks.Plain root_name ∷ [])) (moves_of names false (parts.Term (bare marks.Plain root_name) ∷ [])) (wakes_of names (bare marks.Plain root_name ∷ [])) (suspend_of (suspendable (rest_tree g count)) (bare marks.Plain root_name ∷ []));
      }

  rest_is_by : (group : ℕ) (g : Spelling) (count : ℕ) → rule_of text 0 group (rest_tree g count) ≡ rest_by (variables_of (rest_tree g count).pattern) group g count
  rest_is_by group g count = refl

  rest_wakes : (names : List Spelling) → wakes_of names (bare marks.Plain root_name ∷ []) ≡ []
  rest_wakes names =
      ap (λ (ms : List MentionTree). map (λ (n : MentionTree). number_in names n.name.text) (filter (λ (m : MentionTree). has_star m.marks && is_among names m.name.text) (ms ++ []))) (bare_mentions marks.Plain root_name)

  rest_suspends : (roots : List Spelling) → suspend_of roots (bare marks.Plain root_name ∷ []) ≡ 0
  rest_suspends roots = ap (λ (ms : List MentionTree). asked_by (filter (λ (m : MentionTree). has_hashes m.marks && is_among roots m.name.text) (ms ++ []))) (bare_mentions marks.Plain root_name)

  rest_names : (group : ℕ) (g : Spelling) (count : ℕ) (s : IsSeen symbols (sees text 0) g) → IsRest s.number count (rest_by (root_name ∷ []) group g count)
  rest_names group g count s =
      let names : List Spelling = root_name ∷ [] in
      let inner : expand (root_name ∷ []) (rest_inner g count) ≡ roll-Pat (Pat-F.Sym s.number (replicate count (roll-Pat Pat-F.Any))) =
      symbol_expanded (root_name ∷ []) g (replicate count (roll-PatternTree PatternTree-F.Any)) s ∙ ap (λ ps. roll-Pat (Pat-F.Sym s.number ps)) (any_expanded (root_name ∷ []) count) in
      let pattern : expand (root_name ∷ []) (rest_tree g count).pattern ≡ roll-Pat (Pat-F.Bind 0 (roll-Pat (Pat-F.Sym s.number (replicate count (roll-Pat Pat-F.Any))))) =
      expand_roll (root_name ∷ []) (PatternTree-F.Binder (word root_name) (rest_inner g count)) ∙ ap (λ q. roll-Pat (Pat-F.Bind 0 q)) inner in
      record {
        symbol = ap (λ q. unwrap_or (head q) 0) pattern ∙ ap (λ o. unwrap_or o 0) (fold-roll-Pat (Option ℕ) head_level (Pat-F.Bind 0 (roll-Pat (Pat-F.Sym s.number (replicate count (roll-Pat Pat-F.Any)))))
            ∙ fold-roll-Pat (Option ℕ) head_level (Pat-F.Sym s.number (replicate count (roll-Pat Pat-F.Any))));
        variables = refl;
        pattern = pattern;
        body = written_is _ [] _ [] _ [] _ (bare_fresh (sees text 0) (root_name ∷ []) marks.Plain root_name) refl (rest_wakes (root_name ∷ [])) (rest_suspends (suspendable (rest_tree g count)));
      }

  pub rest_is : (group : ℕ) (g : Spelling) (count : ℕ) (s : IsSeen symbols (sees text 0) g) → IsRest s.number count (rule_of text 0 group (rest_tree g count))
  rest_is group g count s = subst (λ names. IsRest s.number count (rest_by names group g count)) (sym (rest_variables g count)) (rest_names group g count s)

  pub rest_rule : (group : ℕ) (g : Spelling) (count : ℕ) → IsSeen symbols (sees text 0) g → operation g ≡ None → IsRestRule symbols (rule_of text 0 group (rest_tree g count))
  rest_rule group g count s none =
      let is = rest_is group g count s in
      record {
        name = g;
        named = ap (slice_get symbols) is.symbol ∙ s.named;
        no_operation = none;
        count = count;
        pattern = is.pattern ∙ ap (λ f. roll-Pat (Pat-F.Bind 0 (roll-Pat (Pat-F.Sym f (replicate count (roll-Pat Pat-F.Any)))))) (sym is.symbol);
        body = is.body;
      }

  -- ---- Chk

  abbrev check_chain : PatternTree
  check_chain = roll-PatternTree (PatternTree-F.Chain (roll-PatternTree PatternTree-F.Int) ((signs.Plus, truth_tree true_name) ∷ (signs.Plus, truth_tree false_name) ∷ []))

  abbrev check_binder : PatternTree
  check_binder = roll-PatternTree (PatternTree-F.Binder (word value_name) check_chain)

  truth_none : (g : Spelling) (b : Bool) → occurrences_in (truth_tree g) b ≡ []
  truth_none g b = occurs_roll (PatternTree-F.Sym (word g) []) b

  chain_none : occurrences_in check_chain false ≡ []
  chain_none =
      occurs_roll (PatternTree-F.Chain (roll-PatternTree PatternTree-F.Int) ((signs.Plus, truth_tree true_name) ∷ (signs.Plus, truth_tree false_name) ∷ [])) false
      ∙ ap (λ os. os ++ (occurrences_in (truth_tree true_name) true ++ (occurrences_in (truth_tree false_name) true ++ []))) (occurs_roll PatternTree-F.Int true)
      ∙ ap (λ os. os ++ (occurrences_in (truth_tree false_name) true ++ [])) (truth_none true_name true) ∙ ap (λ os. os ++ []) (truth_none false_name true)

  pub check_occurs : occurrences_in check_tree.pattern false ≡ record { name = word value_name; given = true; in_choice = false } ∷ []
  check_occurs =
      occurs_roll (PatternTree-F.Sym (word check_name) (check_binder ∷ [])) false
      ∙ ap (λ (os : List Occurrence). os ++ []) (occurs_roll (PatternTree-F.Binder (word value_name) check_chain) false)
      ∙ ap (λ (os : List Occurrence). record { name = word value_name; given = true; in_choice = false } ∷ (os ++ [])) chain_none

  pub check_variables : variables_of check_tree.pattern ≡ value_name ∷ []
  check_variables = ap (λ (os : List Occurrence). each_once (map (λ (o : Occurrence). o.name.text) os)) check_occurs

  abbrev check_by : List Spelling → ℕ → Rule
  check_by names group =
      let pattern = expansion_by (sees text 0) (named_expansion text (named_count text)) (Some names) check_tree.pattern in
      record {
        symbol = unwrap_or (head pattern) 0;
        group = group;
        variables = length names;
        pattern = pattern;
        body = Written (fresh_nodes (sees text 0) names (bare (marks.Star nowhere) value_name ∷ [])) (moves_of names true (parts.Term (bare (marks.Star nowhere) value_name) ∷ [])) (wakes_of names (bare (marks.Star nowhere) value_name ∷ [])) (suspend_of [] (bare (marks.Star nowhere) value_name ∷ []));
      }

  check_names : (group : ℕ) (s : IsSeen symbols (sees text 0) check_name) (t : IsSeen symbols (sees text 0) true_name) (f : IsSeen symbols (sees text 0) false_name) → t.number ≡ 5 → f.number ≡ 6 → IsCheckRule symbols (check_by (value_name ∷ []) group)
  check_names group s t f five six =
      let truth : expand (value_name ∷ []) (truth_tree true_name) ≡ roll-Pat (Pat-F.Sym 5 []) = symbol_expanded (value_name ∷ []) true_name [] t ∙ ap (λ k. roll-Pat (Pat-F.Sym k [])) five in
      let falsity : expand (value_name ∷ []) (truth_tree false_name) ≡ roll-Pat (Pat-F.Sym 6 []) = symbol_expanded (value_name ∷ []) false_name [] f ∙ ap (λ k. roll-Pat (Pat-F.Sym k [])) six in
      let chained : expand (value_name ∷ []) check_chain ≡ plain_pattern =
      expand_roll (value_name ∷ []) (PatternTree-F.Chain (roll-PatternTree PatternTree-F.Int) ((signs.Plus, truth_tree true_name) ∷ (signs.Plus, truth_tree false_name) ∷ []))
      ∙ ap (λ q. roll-Pat (Pat-F.Union (roll-Pat (Pat-F.Union q (expand (value_name ∷ []) (truth_tree true_name)))) (expand (value_name ∷ []) (truth_tree false_name)))) (expand_roll (value_name ∷ []) PatternTree-F.Int)
      ∙ ap (λ q. roll-Pat (Pat-F.Union (roll-Pat (Pat-F.Union (roll-Pat Pat-F.Int) q)) (expand (value_name ∷ []) (truth_tree false_name)))) truth
      ∙ ap (λ q. roll-Pat (Pat-F.Union (roll-Pat (Pat-F.Union (roll-Pat Pat-F.Int) (roll-Pat (Pat-F.Sym 5 [])))) q)) falsity in
      let bound : expand (value_name ∷ []) check_binder ≡ roll-Pat (Pat-F.Bind 0 plain_pattern) = expand_roll (value_name ∷ []) (PatternTree-F.Binder (word value_name) check_chain) ∙ ap (λ q. roll-Pat (Pat-F.Bind 0 q)) chained in
      let pattern : expand (value_name ∷ []) check_tree.pattern ≡ roll-Pat (Pat-F.Sym s.number (roll-Pat (Pat-F.Bind 0 plain_pattern) ∷ [])) =
      symbol_expanded (value_name ∷ []) check_name (check_binder ∷ []) s ∙ ap (λ q. roll-Pat (Pat-F.Sym s.number (q ∷ []))) bound in
      let number : (check_by (value_name ∷ []) group).symbol ≡ s.number =
      ap (λ q. unwrap_or (head q) 0) pattern ∙ ap (λ o. unwrap_or o 0) (fold-roll-Pat (Option ℕ) head_level (Pat-F.Sym s.number (roll-Pat (Pat-F.Bind 0 plain_pattern) ∷ []))) in
      record {
        named = ap (slice_get symbols) number ∙ s.named;
        pattern = pattern ∙ ap (λ k. roll-Pat (Pat-F.Sym k (roll-Pat (Pat-F.Bind 0 plain_pattern) ∷ []))) (sym number);
        body = written_is _ [] _ (root_to (Old 0)) _ (0 ∷ []) _ (bare_fresh (sees text 0) (value_name ∷ []) (marks.Star nowhere) value_name)
            (ap (λ (d : Drawn). root_to (denotes (value_name ∷ []) (d.made ++ []) d.target)) (bare_draws (marks.Star nowhere) value_name 0))
            (ap (λ (ms : List MentionTree). map (λ (n : MentionTree). number_in (value_name ∷ []) n.name.text) (filter (λ (m : MentionTree). has_star m.marks && is_among (value_name ∷ []) m.name.text) (ms ++ []))) (bare_mentions (marks.Star nowhere) value_name))
            (no_suspension (bare (marks.Star nowhere) value_name ∷ []));
      }

  pub check_rule : (group : ℕ) (s : IsSeen symbols (sees text 0) check_name) (t : IsSeen symbols (sees text 0) true_name) (f : IsSeen symbols (sees text 0) false_name) → t.number ≡ 5 → f.number ≡ 6 → IsCheckRule symbols (rule_of text 0 group check_tree)
  check_rule group s t f five six = subst (λ names. IsCheckRule symbols (check_by names group)) (sym check_variables) (check_names group s t f five six)
