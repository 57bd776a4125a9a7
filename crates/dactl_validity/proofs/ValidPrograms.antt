-- The program of a text without faults is valid.
use Rattle.std.proofs.Common.{◌≡◌, ◌≢◌, ℕ, zero, suc, ◌+◌, ◌<◌, ◌≤◌, true, List, [], ◌∷◌, ◌++◌, map, length, length-append, slice_get, All, IsTrue, Option, Some, None, refl, sym, ap, subst, arith, inl, inr}
use Rattle.std.specs.List.{flat_map}
use Rattle.std.proofs.lemmas.List.{length-map}
use Rattle.std.proofs.lemmas.List.Elements.{All-nil}
use Rattle.dactl_base.specs.declared.refusal.Kind.TheVariants as kinds
use Rattle.dactl_model.specs.declared.program.Op.{Op}
use Rattle.dactl_model.specs.declared.program.Op.TheVariants as op
use Rattle.dactl_model.specs.declared.program.Rule.{Rule}
use Rattle.dactl_model.specs.declared.program.Symbol.{Symbol}
use Rattle.dactl_model.specs.declared.program.Mention.{Mention}
use Rattle.dactl_model.specs.declared.program.Mention.TheVariants.{Old, Fresh}
use Rattle.dactl_model.specs.Programs.{IsValid, IsValidRule, AreFreshNodes, IsMention, AreNarrowNodes, IsNarrowRule, IsNarrowProgram, arithmetic_rule}
use Rattle.dactl_model.proofs.ArithmeticRules.{valid_arithmetic}
use Rattle.dactl_meaning.specs.declared.tree.RuleTree.{RuleTree}
use Rattle.dactl_meaning.specs.declared.tree.TermTree.{TermTree}
use Rattle.dactl_meaning.specs.declared.tree.Text.{Text}
use Rattle.dactl_meaning.specs.Faults.{NoFault}
use Rattle.dactl_meaning.specs.Declarations.{PlacedGroup, PlacedRule, items, groups, rules, symbols}
use Rattle.dactl_meaning.specs.Sight.{sees}
use Rattle.dactl_meaning.specs.Uses.{pattern_uses, part_uses}
use Rattle.dactl_meaning.specs.Expansion.{named_count}
use Rattle.dactl_meaning.specs.Contractum.{Drawn, term_of_part, term_draws, terms_draw, made_by, denotes, fresh_nodes}
use Rattle.dactl_meaning.specs.RuleFaults.{contractum_faults, rule_faults}
use Rattle.dactl_meaning.specs.ScopeFaults.{ScopeFault}
use Rattle.dactl_meaning.specs.Meaning.{rule_of, rules_from, arithmetic_rules, PlacedInitial, all_initials, node_number, root_of, start_by, program_of, named_faults, faults_of_rules, TreeFault, is_wide}
use Rattle.dactl_meaning.specs.Spelling.{is_whole, contracta, is_narrow_pattern, is_narrow_term, all_patterns, IsNarrowText, IsSpelled}
use Rattle.dactl_validity.specs.Counting.{AreCountable, IsCountable}
use Rattle.dactl_validity.specs.Validity.{IsValidWithoutFaults}
use Rattle.dactl_validity.proofs.ValidLists.{In, Pairs, in_left, in_right, in_either, in_map, map_in, in_flat, in_place, in_get, all_of, all_in, all_pairs_of, pairs_append, pairs_of_all}
use Rattle.dactl_validity.proofs.ValidPatterns.{named_plain}
use Rattle.dactl_validity.proofs.ValidNames.{few_rules, symbols_truths, symbols_few, names_upper, names_distinct, sees_below, class_below, use_seen, given_symbol}
use Rattle.dactl_validity.proofs.ValidContracta.{Faultless, HasNoFault, has_no_fault, news_fine, stands_fine}
use Rattle.dactl_validity.proofs.ValidUses.{group_uses, in_rules, parts_uses, initial_uses, no_initials}
use Rattle.dactl_validity.proofs.ValidRules.{Told, rule_valid}
use Rattle.dactl_validity.proofs.ValidNarrow.{arithmetic_narrow, rule_narrow, news_narrow}

-- ---- rules by their groups

abbrev IsRuleFrom : Text → ℕ → List PlacedGroup → Rule → Type 0
IsRuleFrom text n gs rule = (g : PlacedGroup) × (r : RuleTree) × (k : ℕ) × In gs g × In g.group.rules r × (n ≤ k) × (k < n + length gs) × (rule ≡ rule_of text g.owner k r)

rule_from : (text : Text) (n : ℕ) (gs : List PlacedGroup) (rule : Rule) → In (rules_from text n gs) rule → IsRuleFrom text n gs rule
rule_from text n [] rule h = absurd h
rule_from text n (g ∷ gs) rule h = elim (in_either (map (rule_of text g.owner n) g.group.rules) (rules_from text (n + 1) gs) rule h) [
  | inl here ↦ (let r = map_in (rule_of text g.owner n) g.group.rules rule here in (g, r.0, n, inl refl, r.1, omega arith, omega arith, sym r.2))
  | inr later ↦ (let r = rule_from text (n + 1) gs rule later in (r.0, r.1, r.2, inr r.3, r.4, omega (arith, r.5), omega (arith, r.6), r.7))
]

group_at_least : (text : Text) (n : ℕ) (gs : List PlacedGroup) (rule : Rule) → In (rules_from text n gs) rule → n ≤ rule.group
group_at_least text n gs rule h = let r = rule_from text n gs rule h in subst (λ (z : Rule). n ≤ z.group) (sym r.7) r.5

groups_rise : (text : Text) (n : ℕ) (gs : List PlacedGroup) → Pairs (λ (a b : Rule). a.group ≤ b.group) (rules_from text n gs)
groups_rise text n [] = tt
groups_rise text n (g ∷ gs) = pairs_append (λ (a b : Rule). a.group ≤ b.group) (map (rule_of text g.owner n) g.group.rules) (rules_from text (n + 1) gs)
    (pairs_of_all (λ (a b : Rule). a.group ≤ b.group) (map (rule_of text g.owner n) g.group.rules) (λ a b in_a in_b. omega (arith, here a in_a, here b in_b)))
    (groups_rise text (n + 1) gs)
    (λ a b in_a in_b. omega (arith, here a in_a, group_at_least text (n + 1) gs b in_b))
  where
    here : (a : Rule) → In (map (rule_of text g.owner n) g.group.rules) a → a.group ≡ n
    here a h = let r = map_in (rule_of text g.owner n) g.group.rules a h in sym (ap (λ (z : Rule). z.group) r.2)

abbrev placed_rule : ℕ → RuleTree → PlacedRule
placed_rule m r = record { owner = m; rule = r }

as_many : (text : Text) (n : ℕ) (gs : List PlacedGroup) → length (rules_from text n gs) ≡ length (flat_map (λ (g : PlacedGroup). map (placed_rule g.owner) g.group.rules) gs)
as_many text n [] = refl
as_many text n (g ∷ gs) = omega (
  arith,
  length-append (map (rule_of text g.owner n) g.group.rules) (rules_from text (n + 1) gs),
  length-map g.group.rules (rule_of text g.owner n),
  as_many text (n + 1) gs,
  length-append (map (placed_rule g.owner) g.group.rules) (flat_map (λ (g : PlacedGroup). map (placed_rule g.owner) g.group.rules) gs),
  length-map g.group.rules (placed_rule g.owner),
)

-- the arithmetic rules stand before the others, each in a group of its own
abbrev Rising : ℕ → List Rule → Type 0
Rising n rs = Pairs (λ (a b : Rule). a.group ≤ b.group) rs × ((r : Rule) → In rs r → n ≤ r.group)

one_before : (k : ℕ) (o : Op) (rs : List Rule) → Rising (suc k) rs → Rising k (arithmetic_rule k o ∷ rs)
one_before k o rs h = ((λ y i. omega (arith, h.1 y i), h.0), λ y i. elim i [ inl e ↦ subst (λ (z : Rule). k ≤ z.group) e (omega arith) | inr more ↦ omega (arith, h.1 y more) ])

all_rise : (text : Text) → Pairs (λ (a b : Rule). a.group ≤ b.group) (arithmetic_rules ++ rules_from text 5 (groups text))
all_rise text =
    let from_4 = one_before 4 op.Lt (rules_from text 5 (groups text)) (groups_rise text 5 (groups text), group_at_least text 5 (groups text)) in
    let from_3 = one_before 3 op.Eq (arithmetic_rule 4 op.Lt ∷ rules_from text 5 (groups text)) from_4 in
    let from_2 = one_before 2 op.Mul (arithmetic_rule 3 op.Eq ∷ arithmetic_rule 4 op.Lt ∷ rules_from text 5 (groups text)) from_3 in
    let from_1 = one_before 1 op.Sub (arithmetic_rule 2 op.Mul ∷ arithmetic_rule 3 op.Eq ∷ arithmetic_rule 4 op.Lt ∷ rules_from text 5 (groups text)) from_2 in
    (one_before 0 op.Add (arithmetic_rule 1 op.Sub ∷ arithmetic_rule 2 op.Mul ∷ arithmetic_rule 3 op.Eq ∷ arithmetic_rule 4 op.Lt ∷ rules_from text 5 (groups text)) from_1).0

some_is : {X : Type 0} (x y : X) → Some x ≡ Some y → x ≡ y
some_is {X} x y e = ap (λ (o : Option X). elim o [ None ↦ x | Some z ↦ z ]) e

module _ (text : Text) (spelled : IsSpelled text) (counted : IsCountable text) (fine : NoFault (TreeFault text)) where
  scope : NoFault (ScopeFault text)
  scope r h = fine r (inl h)

  abbrev count : ℕ
  count = length (symbols text)

  in_faults : Faultless (faults_of_rules text)
  in_faults r h = fine r (inr (inr (in_place (faults_of_rules text) r h)))

  -- ---- the rules

  rule_faultless : (p : PlacedRule) → In (rules text) p → Faultless (rule_faults text p.owner p.rule)
  rule_faultless p h r k = in_faults r (in_left _ (flat_map (λ (i : PlacedInitial). contractum_faults (sees text i.owner) [] [] i.terms) (all_initials text)) r
      (in_right (flat_map (named_faults text) (items text)) _ r (in_flat (λ (q : PlacedRule). rule_faults text q.owner q.rule) (rules text) p r h k)))

  told : (g : PlacedGroup) (r : RuleTree) → In (groups text) g → In g.group.rules r → Told text g.owner r
  told g r h k =
      let here = in_rules text g r h k in
      let terms = in_left (map (λ (p : PlacedRule). map term_of_part p.rule.parts) (rules text)) (map (λ (i : PlacedInitial). i.terms) (all_initials text)) (map term_of_part r.parts)
      (in_map (λ (p : PlacedRule). map term_of_part p.rule.parts) (rules text) (record { owner = g.owner; rule = r }) here) in
      record {
        faultless = rule_faultless (record { owner = g.owner; rule = r }) here;
        below = sees_below text g.owner;
        classes = class_below text g.owner;
        named = named_plain text count (sees_below text) (named_count text);
        given = λ u i. given_symbol text scope g.owner u (group_uses text g h r u k i);
        seen = λ u i. use_seen text scope g.owner u (group_uses text g h r u k (in_right (pattern_uses r.pattern) (flat_map part_uses r.parts) u (parts_uses r.parts u i)));
        whole = all_in (λ t. IsTrue (is_whole t)) (map term_of_part r.parts) (all_in (λ terms. All (λ t. IsTrue (is_whole t)) terms) (contracta text) spelled.whole (map term_of_part r.parts) terms);
        countable = all_in AreCountable (contracta text) counted.contracta (map term_of_part r.parts) terms;
      }

  written_valid : (number : ℕ) (rule : Rule) → In (rules_from text 5 (groups text)) rule → IsValidRule count number rule
  written_valid number rule h =
      let r = rule_from text 5 (groups text) rule h in
      subst (IsValidRule count number) (sym r.7) (rule_valid text r.0.owner r.1 (told r.0 r.1 r.3 r.4) r.2 number (omega (arith, r.6, counted.groups)))

  arithmetic_valid : (number : ℕ) (o : Op) (rule : Rule) → number < 5 → Some (arithmetic_rule number o) ≡ Some rule → IsValidRule count number rule
  arithmetic_valid number o rule low e = subst (IsValidRule count number) (some_is _ _ e) (valid_arithmetic count number o low (omega (arith, low, symbols_truths text)))

  rules_valid : (number : ℕ) (rule : Rule) → slice_get (arithmetic_rules ++ rules_from text 5 (groups text)) number ≡ Some rule → IsValidRule count number rule
  rules_valid zero rule e = arithmetic_valid 0 op.Add rule (omega arith) e
  rules_valid (suc zero) rule e = arithmetic_valid 1 op.Sub rule (omega arith) e
  rules_valid (suc (suc zero)) rule e = arithmetic_valid 2 op.Mul rule (omega arith) e
  rules_valid (suc (suc (suc zero))) rule e = arithmetic_valid 3 op.Eq rule (omega arith) e
  rules_valid (suc (suc (suc (suc zero)))) rule e = arithmetic_valid 4 op.Lt rule (omega arith) e
  rules_valid (suc (suc (suc (suc (suc number))))) rule e = written_valid (suc (suc (suc (suc (suc number))))) rule (in_get (rules_from text 5 (groups text)) number rule e)

  -- ---- the start

  initial_faultless : (i : PlacedInitial) → In (all_initials text) i → Faultless (contractum_faults (sees text i.owner) [] [] i.terms)
  initial_faultless i h r k = in_faults r (in_right (flat_map (named_faults text) (items text) ++ flat_map (λ (q : PlacedRule). rule_faults text q.owner q.rule) (rules text)) _ r
      (in_flat (λ (j : PlacedInitial). contractum_faults (sees text j.owner) [] [] j.terms) (all_initials text) i r h k))

  module _ (i : PlacedInitial) (h : In (all_initials text) i) where
    sound : HasNoFault (sees text i.owner) [] i.terms
    sound = has_no_fault (sees text i.owner) [] [] i.terms (initial_faultless i h)

    terms_in : In (contracta text) i.terms
    terms_in = in_right (map (λ (p : PlacedRule). map term_of_part p.rule.parts) (rules text)) (map (λ (j : PlacedInitial). j.terms) (all_initials text)) i.terms (in_map (λ (j : PlacedInitial). j.terms) (all_initials text) i h)

    whole : (t : TermTree) → In i.terms t → is_whole t ≡ true
    whole = all_in (λ t. IsTrue (is_whole t)) i.terms (all_in (λ terms. All (λ t. IsTrue (is_whole t)) terms) (contracta text) spelled.whole i.terms terms_in)

    start_news : AreFreshNodes count 0 (fresh_nodes (sees text i.owner) [] i.terms)
    start_news = news_fine (sees text i.owner) [] i.terms count sound (sees_below text i.owner) whole (λ u k. use_seen text scope i.owner u (initial_uses text i h u k)) (all_in AreCountable (contracta text) counted.contracta i.terms terms_in)

    start_stands : (d : Drawn) → In (terms_draw 0 i.terms) d → IsMention 0 (length (fresh_nodes (sees text i.owner) [] i.terms)) (denotes [] (made_by i.terms) d.target)
    start_stands = stands_fine (sees text i.owner) [] i.terms count sound (sees_below text i.owner) whole (λ u k. use_seen text scope i.owner u (initial_uses text i h u k))

  -- the first term stands for a new node
  abbrev IsStart : PlacedInitial → Type 0
  IsStart i = AreFreshNodes count 0 (fresh_nodes (sees text i.owner) [] i.terms) × (root_of i.terms < length (fresh_nodes (sees text i.owner) [] i.terms))

  number_low : (b : ℕ) (m : Mention) → IsMention 0 b m → node_number m < b
  number_low b (Old v) h = absurd (omega (arith, h))
  number_low b (Fresh k) h = h

  root_low : (fresh : ℕ) (terms : List TermTree) → 0 < length terms → ((d : Drawn) → In (terms_draw 0 terms) d → IsMention 0 fresh (denotes [] (made_by terms) d.target)) → root_of terms < fresh
  root_low fresh [] some stands = absurd (omega (arith, some))
  root_low fresh (t ∷ terms) some stands = number_low fresh (denotes [] (made_by (t ∷ terms)) (term_draws t 0).target) (stands (term_draws t 0) (inl refl))

  starts : (i : PlacedInitial) → In (all_initials text) i → IsStart i
  starts i h = (start_news i h, root_low (length (fresh_nodes (sees text i.owner) [] i.terms)) i.terms (all_in (λ (j : PlacedInitial). 0 < length j.terms) (all_initials text) spelled.initials i h) (start_stands i h))

  start_fine : (is : List PlacedInitial) → ¬ (is ≡ []) → ((i : PlacedInitial) → In is i → IsStart i) → AreFreshNodes count 0 (start_by text is).fresh × ((start_by text is).root < length (start_by text is).fresh)
  start_fine [] none h = absurd (none refl)
  start_fine (i ∷ is) none h = h i (inl refl)

  has_initial : ¬ (all_initials text ≡ [])
  has_initial e = scope (record { kind = kinds.NoInitial; place = record { byte = text.length } }) (refl, no_initials text e)

  -- ---- a narrow text

  module _ (narrow : IsNarrowText text) where
    arithmetic_all : (rule : Rule) → In arithmetic_rules rule → IsNarrowRule rule
    arithmetic_all rule (inl e) = subst IsNarrowRule e (arithmetic_narrow 0 op.Add)
    arithmetic_all rule (inr (inl e)) = subst IsNarrowRule e (arithmetic_narrow 1 op.Sub)
    arithmetic_all rule (inr (inr (inl e))) = subst IsNarrowRule e (arithmetic_narrow 2 op.Mul)
    arithmetic_all rule (inr (inr (inr (inl e)))) = subst IsNarrowRule e (arithmetic_narrow 3 op.Eq)
    arithmetic_all rule (inr (inr (inr (inr (inl e))))) = subst IsNarrowRule e (arithmetic_narrow 4 op.Lt)
    arithmetic_all rule (inr (inr (inr (inr (inr none))))) = absurd none

    narrow_terms : (terms : List TermTree) → In (contracta text) terms → (t : TermTree) → In terms t → is_narrow_term t ≡ true
    narrow_terms terms h = all_in (λ t. IsTrue (is_narrow_term t)) terms (all_in (λ terms. All (λ t. IsTrue (is_narrow_term t)) terms) (contracta text) narrow.terms terms h)

    written_narrow : (rule : Rule) → In (rules_from text 5 (groups text)) rule → IsNarrowRule rule
    written_narrow rule h =
        let r = rule_from text 5 (groups text) rule h in
        let here = in_rules text r.0 r.1 r.3 r.4 in
        subst IsNarrowRule (sym r.7) (rule_narrow text narrow r.0.owner r.2 r.1
        (all_in (λ p. IsTrue (is_narrow_pattern p)) (all_patterns text) narrow.patterns r.1.pattern (in_left _ _ r.1.pattern (in_map (λ (p : PlacedRule). p.rule.pattern) (rules text) (placed_rule r.0.owner r.1) here)))
        (told r.0 r.1 r.3 r.4).whole
        (narrow_terms (map term_of_part r.1.parts) (in_left _ _ (map term_of_part r.1.parts) (in_map (λ (p : PlacedRule). map term_of_part p.rule.parts) (rules text) (placed_rule r.0.owner r.1) here))))

    start_narrow : (is : List PlacedInitial) → ((i : PlacedInitial) → In is i → In (all_initials text) i) → AreNarrowNodes (start_by text is).fresh
    start_narrow [] h = All-nil _
    start_narrow (i ∷ is) h = news_narrow (sees text i.owner) [] i.terms (whole i (h i (inl refl))) (narrow_terms i.terms (terms_in i (h i (inl refl))))

    program_narrow : IsNarrowProgram (program_of text)
    program_narrow = record {
      rules = all_of IsNarrowRule (arithmetic_rules ++ rules_from text 5 (groups text)) (λ rule h. elim (in_either arithmetic_rules (rules_from text 5 (groups text)) rule h) [
        | inl arithmetic ↦ arithmetic_all rule arithmetic
        | inr written ↦ written_narrow rule written
      ]);
      start = start_narrow (all_initials text) (λ i h. h);
    }

  -- ---- the program

  pub program_valid : IsValid (program_of text)
  program_valid =
      let start = start_fine (all_initials text) has_initial starts in
      record {
        truths = symbols_truths text;
        names = names_upper (is_wide text) text spelled.names;
        distinct = all_pairs_of (λ (a b : Symbol). a.name ≢ b.name) (symbols text) (names_distinct text scope);
        add = refl;
        sub = refl;
        mul = refl;
        eq = refl;
        lt = refl;
        rules = rules_valid;
        groups = all_pairs_of (λ (a b : Rule). a.group ≤ b.group) (arithmetic_rules ++ rules_from text 5 (groups text)) (all_rise text);
        start = start.0;
        root = start.1;
        few_symbols = symbols_few text scope;
        narrow = λ narrow. program_narrow (spelled.narrow narrow);
        few_rules = omega (arith, as_many text 5 (groups text), few_rules text scope);
      }

pub valid_without_faults : IsValidWithoutFaults
valid_without_faults text spelled counted fine = program_valid text spelled counted fine
