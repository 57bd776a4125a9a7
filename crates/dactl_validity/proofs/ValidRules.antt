-- A rule without faults is valid.
use Rattle.std.proofs.Common.{◌≡◌, ◌≢◌, ℕ, ◌+◌, ◌^◌, ◌<◌, ◌≤◌, ◌↔◌, Bool, true, false, not, if◌then◌else◌, List, [], map, length, IsTrue, Option, Some, None, unwrap_or, refl, ap, subst, ◌∙◌, inl}
use Rattle.std.specs.List.{flat_map}
use Rattle.dactl_base.specs.declared.refusal.Kind.TheVariants as kinds
use Rattle.dactl_model.specs.declared.program.Class.{Class}
use Rattle.dactl_model.specs.declared.program.Class.TheVariants as classes
use Rattle.dactl_model.specs.declared.program.Pat.{Pat}
use Rattle.dactl_model.specs.Binders.{binds, head, binders_in_place, binds_root}
use Rattle.dactl_model.specs.Programs.{IsValidRule, IsWritten, IsBesideRoot, MaySuspend}
use Rattle.dactl_meaning.specs.declared.tree.Name.{Name}
use Rattle.dactl_meaning.specs.declared.tree.TermTree.{TermTree}
use Rattle.dactl_meaning.specs.declared.tree.RuleTree.{RuleTree}
use Rattle.dactl_meaning.specs.declared.tree.Text.{Text}
use Rattle.dactl_meaning.specs.Declarations.{symbols}
use Rattle.dactl_meaning.specs.Sight.{sees, class_for}
use Rattle.dactl_meaning.specs.Uses.{Use, pattern_uses, part_uses, term_uses, rule_uses}
use Rattle.dactl_meaning.specs.Expansion.{Occurrence, is_among, number_in, occurrences, variables_of, root_names, named_count, named_expansion, rule_expansion, pattern_expansion}
use Rattle.dactl_meaning.specs.Contractum.{term_of_part, made_by, fresh_nodes, moves_of, wakes_of}
use Rattle.dactl_meaning.specs.RuleFaults.{again, place_of, binders_in_choice, at_if, is_too_wide, lefts_of, variable_lefts, unbound_lefts, redirects_root, suspendable, redirected_twice, head_is, root_not_rewritable, is_class, rule_faults}
use Rattle.dactl_meaning.specs.Meaning.{head_symbol, rule_of}
use Rattle.dactl_meaning.specs.Spelling.{is_whole}
use Rattle.dactl_validity.specs.Counting.{AreCountable}
use Rattle.dactl_validity.proofs.ValidLists.{In, Pairs, in_left, in_right, in_map, map_in, filter_every}
use Rattle.dactl_validity.proofs.ValidTests.{neither_left, neither_right, is_true, not_above}
use Rattle.dactl_validity.proofs.ValidPatterns.{SeesBelow, SeesSymbol, Plain, symbols_expanded, placed, told, bound}
use Rattle.dactl_validity.proofs.ValidVariables.{among_in, in_once, once_in, once_distinct, number_below, number_of_some}
use Rattle.dactl_validity.proofs.ValidContracta.{Faultless, NoPlace, no_place, none_passes, HasNoFault, has_no_fault, IsSeen, news_fine, wakes_fine, stands_fine}
use Rattle.dactl_validity.proofs.ValidMoves.{again_none, all_once, all_beside, all_end}
use Rattle.dactl_validity.proofs.ValidSuspensions.{beside_root, suspend_low, root_kept, none_of}

-- ---- the faults that a rule has not

abbrev writable : Text → ℕ → ℕ → Bool
writable text m f = is_class classes.Overwritable (class_for text m f)

abbrev rewritable : Text → ℕ → ℕ → Bool
rewritable text m f = is_class classes.Rewritable (class_for text m f)

record IsFine (text : Text) (m : ℕ) (r : RuleTree) : Type 0 where
  root : NoPlace (root_not_rewritable (rewritable text m) (rule_expansion text m r.pattern) r)
  binders : NoPlace (binders_in_choice false r.pattern)
  narrow : NoPlace (at_if (is_too_wide false (pattern_expansion text m r.pattern) r.pattern) r.place.byte)
  contractum : HasNoFault (sees text m) (variables_of r.pattern) (map term_of_part r.parts)
  lefts : NoPlace (unbound_lefts r)
  once : NoPlace (redirected_twice r)

fine_rule : (text : Text) (m : ℕ) (r : RuleTree) → Faultless (rule_faults text m r) → IsFine text m r
fine_rule text m r h = record {
  root = no_place kinds.RootNotRewritable (root_not_rewritable (rewritable text m) (rule_expansion text m r.pattern) r) (λ f k. h f (search (in_left, in_right, k) depth 8));
  binders = no_place kinds.BinderInChoice (binders_in_choice false r.pattern) (λ f k. h f (search (in_left, in_right, k) depth 8));
  narrow = no_place kinds.TooWide (at_if (is_too_wide false (pattern_expansion text m r.pattern) r.pattern) r.place.byte) (λ f k. h f (search (in_left, in_right, k) depth 8));
  contractum = has_no_fault (sees text m) (variables_of r.pattern) (suspendable r) (map term_of_part r.parts) (λ f k. h f (search (in_left, in_right, k) depth 8));
  lefts = no_place kinds.Unbound (unbound_lefts r) (λ f k. h f (search (in_left, in_right, k) depth 8));
  once = no_place kinds.RedirectedTwice (redirected_twice r) (λ f k. h f (search (in_left, in_right, k) depth 8));
}

-- ---- the head

a_class : (o : Option Class) → is_class classes.Rewritable o ≡ true → (c : Class) × (o ≡ Some c)
a_class None e = absurd cc
a_class (Some c) e = (c, refl)

-- a place where a test fails would be a fault
passes : (b : Bool) (place : ℕ) → NoPlace (at_if (not b) place) → b ≡ true
passes true place h = refl
passes false place h = absurd (h place (inl refl))

fails : (b : Bool) (place : ℕ) → NoPlace (at_if b place) → b ≡ false
fails true place h = absurd (h place (inl refl))
fails false place h = refl

head_found : (test : ℕ → Bool) (o : Option ℕ) → head_is test o ≡ true → (o ≡ Some (unwrap_or o 0)) × (test (unwrap_or o 0) ≡ true)
head_found test None e = absurd cc
head_found test (Some f) e = (refl, e)

-- ---- the rule

-- what the text tells of a rule
pub record Told (text : Text) (m : ℕ) (r : RuleTree) : Type 0 where
  pub faultless : Faultless (rule_faults text m r)
  pub below : SeesBelow (length (symbols text)) (sees text m)
  pub classes : (s : ℕ) (class : Class) → class_for text m s ≡ Some class → s < length (symbols text)
  pub named : (i k : ℕ) → Plain (length (symbols text)) (named_expansion text (named_count text) i k)
  pub given : (u : Use) → In (rule_uses r) u → u.given ≡ true → SeesSymbol (sees text m) u.name.text
  pub seen : (u : Use) → In (flat_map term_uses (map term_of_part r.parts)) u → IsSeen (sees text m) u.name
  pub whole : (t : TermTree) → In (map term_of_part r.parts) t → is_whole t ≡ true
  pub countable : AreCountable (map term_of_part r.parts)

module _ (text : Text) (m : ℕ) (r : RuleTree) (is : Told text m r) where
  abbrev fine : IsFine text m r
  fine = fine_rule text m r is.faultless

  abbrev vs : List (List ℕ)
  vs = variables_of r.pattern

  abbrev terms : List TermTree
  terms = map term_of_part r.parts

  abbrev pattern : Pat
  pattern = rule_expansion text m r.pattern

  abbrev count : ℕ
  count = length (symbols text)

  headed : (head pattern ≡ Some (head_symbol text m r)) × (rewritable text m (head_symbol text m r) ≡ true)
  headed = head_found (rewritable text m) (head pattern) (passes (head_is (rewritable text m) (head pattern)) r.place.byte fine.root)

  symbol_in : head_symbol text m r < count
  symbol_in = let c = a_class (class_for text m (head_symbol text m r)) headed.1 in is.classes (head_symbol text m r) c.0 c.1

  out_of_choice : (o : Occurrence) → In (occurrences r.pattern) o → o.in_choice ≡ false
  out_of_choice o h = none_passes (λ (o : Occurrence). o.in_choice) (occurrences r.pattern) (λ (o : Occurrence). place_of o.name) fine.binders o h

  sits : binders_in_place pattern ≡ true
  sits = placed (sees text m) (named_expansion text (named_count text)) vs (λ i k b. (is.named i k).allowing b) r.pattern false out_of_choice

  few : length vs ≤ 64
  few = not_above 64 (length vs) (neither_right _ _ (fails (is_too_wide false (pattern_expansion text m r.pattern) r.pattern) r.place.byte fine.narrow))

  is_variable : (o : Occurrence) → In (occurrences r.pattern) o → In vs o.name.text
  is_variable o h = in_once (map (λ (o : Occurrence). o.name.text) (occurrences r.pattern)) o.name.text (in_map (λ (o : Occurrence). o.name.text) (occurrences r.pattern) o h)

  numbered : (v : ℕ) → IsTrue (binds v pattern) ↔ (v < length vs)
  numbered v = (only_below, all_below)
    where
      only_below : binds v pattern ≡ true → v < length vs
      only_below e =
          let t = told (sees text m) (named_expansion text (named_count text)) vs (λ i k w. (is.named i k).unbinding w) r.pattern v false e in
          subst (λ n. n < length vs) t.2 (number_below vs t.0.name.text (is_variable t.0 t.1))

      all_below : v < length vs → binds v pattern ≡ true
      all_below lt =
          let n = number_of_some vs (once_distinct (map (λ (o : Occurrence). o.name.text) (occurrences r.pattern))) v lt in
          let o = map_in (λ (o : Occurrence). o.name.text) (occurrences r.pattern) n.0 (once_in (map (λ (o : Occurrence). o.name.text) (occurrences r.pattern)) n.0 n.1) in
          let here = bound (sees text m) (named_expansion text (named_count text)) vs (λ i k w. (is.named i k).unbinding w) r.pattern (λ u h g. is.given u (in_left (pattern_uses r.pattern) (flat_map part_uses r.parts) u h) g) false o.0 o.1 in
          subst (λ k. binds k pattern ≡ true) (ap (number_in vs) o.2 ∙ n.2) here

  known_left : (n : Name) → In (lefts_of r.parts) n → is_among vs n.text ≡ true
  known_left n h = is_true (is_among vs n.text) (none_passes (λ (n : Name). not (is_among vs n.text)) (lefts_of r.parts) place_of fine.lefts n h)

  left_once : Pairs (λ (a b : Name). a.text ≢ b.text) (lefts_of r.parts)
  left_once = subst (Pairs (λ (a b : Name). a.text ≢ b.text)) (filter_every (λ (n : Name). is_among vs n.text) (lefts_of r.parts) known_left)
      (again_none (if r.redirects then root_names r.pattern else []) (variable_lefts r)
      (λ n h. fine.once (place_of n) (in_map place_of (again (if r.redirects then root_names r.pattern else []) (variable_lefts r)) n h))).0

  written : IsWritten count (length vs) (fresh_nodes (sees text m) vs terms) (moves_of vs r.redirects r.parts) (wakes_of vs terms)
  written = record {
    news = news_fine (sees text m) vs terms count fine.contractum is.below is.whole is.seen is.countable;
    move_ends = all_end vs (made_by terms) r.parts (λ n h. among_in vs n.text (known_left n h)) left_once r.redirects (length (fresh_nodes (sees text m) vs terms)) (stands_fine (sees text m) vs terms count fine.contractum is.below is.whole is.seen);
    once = all_once vs (made_by terms) r.parts (λ n h. among_in vs n.text (known_left n h)) left_once r.redirects;
    woken = wakes_fine (sees text m) vs terms count fine.contractum is.below is.whole is.seen;
  }

  -- a left side that is no name of the root does not stand for it
  left_beside : redirects_root r ≡ false → (n : Name) → In (lefts_of r.parts) n → binds_root (number_in vs n.text) pattern ≡ false
  left_beside kept n h = beside_root (sees text m) (named_expansion text (named_count text)) vs (λ i k v. (is.named i k).unbinding v) r.pattern n.text is_variable (among_in vs n.text (known_left n h))
      (none_of (λ (z : Name). is_among (root_names r.pattern) z.text) (lefts_of r.parts) (neither_right r.redirects _ kept) n h)

  suspends : MaySuspend pattern (rule_of text m 0 r).body
  suspends = (
    suspend_low (suspendable r) terms,
    λ some.
        let kept = root_kept (redirects_root r) (root_names r.pattern) terms some in
        all_beside vs (made_by terms) r.parts (λ n h. among_in vs n.text (known_left n h)) left_once r.redirects (IsBesideRoot pattern) (neither_left r.redirects _ kept) (left_beside kept),
  )

  pub rule_valid : (group number : ℕ) → group + 1 < 2 ^ 31 → IsValidRule count number (rule_of text m group r)
  rule_valid group number low = record {
    symbol = symbol_in;
    head = headed.0;
    symbols_in = symbols_expanded count (sees text m) (named_expansion text (named_count text)) vs is.below is.named r.pattern;
    few = few;
    variables = numbered;
    in_place = sits;
    body = written;
    group = low;
    delta = λ d. absurd d;
    suspends = suspends;
  }
