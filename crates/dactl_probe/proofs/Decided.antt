-- What the rules of a symbol decide.
use Rattle.std.proofs.Common.{◌≡◌, ℕ, ◌<◌, ◌≤◌, Bool, true, false, ◌&&◌, ◌||◌, ◌==◌, List, take, length, get_or, refl, sym, ◌∙◌, ap, subst, arith, slice_get, Option, Some, None, IsSome, map, ℤ, IsSomeAnd, All, ◌⊎◌, inl, inr}
use Rattle.std.specs.List.{Contains}
use Rattle.std.proofs.lemmas.Bool.{cases_lt, eqb-true, eq-eqb}
use Rattle.std.proofs.lemmas.List.{get_or-take, length-take, get_or_default}
use Rattle.std.proofs.lemmas.List.Elements.{All-contains}
use Rattle.std.proofs.lemmas.List.Folds.{list_any_at}
use Rattle.std.proofs.lemmas.Option.{slice_get_within, get_or_from_slice_get, slice_get-get_or}
use Rattle.dactl_model.specs.declared.graph.NodeId.{NodeId}
use Rattle.dactl_model.specs.declared.graph.Label.TheVariants.{Symbol, Integer, Character}
use Rattle.dactl_model.specs.declared.graph.Event.{Event}
use Rattle.dactl_model.specs.declared.graph.Event.TheVariants as event
use Rattle.dactl_model.specs.declared.reading.Reading.{Reading}
use Rattle.dactl_model.specs.declared.program.Pat.{Pat}
use Rattle.dactl_model.specs.declared.program.Pat.TheOpen.{Pat-F}
use Rattle.dactl_model.specs.declared.program.Pat.TheViews.{roll-Pat}
use Rattle.dactl_model.specs.declared.program.Pat.TheFolds.{fold-roll-Pat, map-Pat}
use Rattle.dactl_model.specs.declared.program.Rule.{Rule}
use Rattle.dactl_model.specs.declared.program.Program.{Program}
use Rattle.dactl_model.specs.Acts.{node_of_event}
use Rattle.dactl_model.specs.Binders.{head, head_level}
use Rattle.dactl_model.specs.Patterns.{has_symbol}
use Rattle.dactl_model.specs.Programs.{IsValid}
use Rattle.dactl_model.specs.Readings as value
use Rattle.dactl_model.specs.Readings.{told, told_level, told_symbol, told_symbol_at, reading_of, targets_of, Told, least, opposite}
use Rattle.dactl_model.specs.RuleTold.{IsRuleYes, IsRuleNo, IsRuleUnknown, ShowsFire, ShowsNote, ShowsEvent, bindings_told}
use Rattle.dactl_model.proofs.Induction.{pat_induction}
use Rattle.dactl_model.proofs.Told.{told_roll}
use Rattle.dactl_decide.specs.Paths.{is_root, tests}
use Rattle.dactl_decide.specs.Decisions.{AreRulesOf}
use Rattle.dactl_decide.proofs.Gathered.{has_root, root_of}
use Rattle.dactl_probe.specs.Leading.{Needs}
use Rattle.dactl_probe.specs.Verdicts.{HasRule, AreNo, IsYesInGroup, IsYesBeside, IsFirstWaiting, HasSymbolRead, label_tests, IsPlaced, IsUndecided, IsNeed}
use Rattle.dactl_probe.proofs.Rules.{no_yes, unknown_no, unknown_yes}

-- the rule of the number is No
abbrev pub IsNumberNo : Program → List Reading → NodeId → ℕ → Type 0
IsNumberNo p rs n s = (rule : Rule) → slice_get p.rules s ≡ Some rule → IsRuleNo p.wide rs n rule

module _ (p : Program) (f : ℕ) (rs : List Reading) (n : NodeId) (numbers : List ℕ) (are : AreRulesOf p.rules f numbers) where
  -- each of the symbol's rules is among the numbers
  pub number_of : (s : ℕ) (rule : Rule) → slice_get p.rules s ≡ Some rule → rule.symbol ≡ f → Contains numbers s
  number_of s rule is symbol = are.whole s (slice_get_within p.rules s rule is) (has_root p.rules f s rule is symbol)

  pub all_no : All (IsNumberNo p rs n) numbers → AreNo p f rs n (length p.rules)
  all_no all s rule below is symbol = All-contains (IsNumberNo p rs n) numbers s all (number_of s rule is symbol) rule is

  -- the numbers ascend, so a lesser one stands before
  pub before : (Q : ℕ → Type 0) (i d : ℕ) → i < length numbers → All Q (take i numbers) → (s : ℕ) (rule : Rule) → s < get_or numbers i d → slice_get p.rules s ≡ Some rule → rule.symbol ≡ f → Q s
  before Q i d inside all s rule below is symbol =
      let at = number_of s rule is symbol in
      let k = at.0 in
      elim (cases_lt k i) [
        | inl earlier ↦ (
            let within : k < length (take i numbers) = omega (arith, length-take i numbers) in
            let taken : get_or (take i numbers) k s ≡ s = get_or-take i numbers k s earlier ∙ at.2 in
            subst Q taken (all k s within))
        | inr not_before ↦ absurd (past k s at.1 at.2 below not_before)
      ]
    where
      past : (k s : ℕ) → k < length numbers → get_or numbers k s ≡ s → s < get_or numbers i d → i ≤ k → ⊥
      past k s within is_s below not_before =
          elim (cases_lt i k) [
            | inl later ↦ (let ascends = are.ascending i k d later within in let same : get_or numbers k d ≡ s = get_or_default numbers k d s within ∙ is_s in omega (arith, ascends, same, below))
            | inr same_place ↦ (let at : k ≡ i = omega arith in let same : get_or numbers i d ≡ s = ap (λ j. get_or numbers j d) (sym at) ∙ (get_or_default numbers k d s within ∙ is_s) in omega (arith, same, below))
          ]

  pub no_before : (i d : ℕ) → i < length numbers → All (IsNumberNo p rs n) (take i numbers) → AreNo p f rs n (get_or numbers i d)
  no_before i d inside all s rule below is symbol = before (IsNumberNo p rs n) i d inside all s rule below is symbol rule is

  -- a fact that holds of whatever rule has a number in the list
  pub open_number : (i d : ℕ) (P : Rule → Type 0) → i < length numbers → ((rule : Rule) → slice_get p.rules (get_or numbers i d) ≡ Some rule → P rule) → HasRule p.rules f (get_or numbers i d) P
  open_number i d P inside holds = at (slice_get p.rules (get_or numbers i d)) refl (are.each i d inside).1
    where
      at : (o : Option Rule) → slice_get p.rules (get_or numbers i d) ≡ o → IsSomeAnd o (λ x. x.symbol ≡ f) → IsSomeAnd o (λ x. (x.symbol ≡ f) × P x)
      at None is none = none
      at (Some rule) is symbol = (symbol, holds rule is)

pub same_rule : (rules : List Rule) (r : ℕ) (a b : Rule) → slice_get rules r ≡ Some a → slice_get rules r ≡ Some b → a ≡ b
same_rule rules r a b is also = let e : Some a ≡ Some b = sym is ∙ also in cc

-- the parts of a fact on a rule by its number
pub record RuleParts (rules : List Rule) (f r : ℕ) (P : Rule → Type 0) : Type 0 where
  pub rule : Rule
  pub is : slice_get rules r ≡ Some rule
  pub symbol : rule.symbol ≡ f
  pub holds : P rule

pub rule_parts : (rules : List Rule) (f r : ℕ) (P : Rule → Type 0) → HasRule rules f r P → RuleParts rules f r P
rule_parts rules f r P has = at (slice_get rules r) refl has
  where
    at : (o : Option Rule) → slice_get rules r ≡ o → IsSomeAnd o (λ rule. (rule.symbol ≡ f) × P rule) → RuleParts rules f r P
    at None is none = absurd none
    at (Some rule) is both = record { rule = rule; is = is; symbol = both.0; holds = both.1 }

-- the rule of the number is not in the group, or not Yes
abbrev pub IsNotYes : Program → ℕ → List Reading → NodeId → ℕ → Type 0
IsNotYes p group rs n s = (rule : Rule) → slice_get p.rules s ≡ Some rule → rule.group ≡ group → IsRuleYes p.wide rs n rule → ⊥

pub all_not_yes : (p : Program) (f group : ℕ) (rs : List Reading) (n : NodeId) (numbers : List ℕ) → AreRulesOf p.rules f numbers → All (IsNotYes p group rs n) numbers → IsYesInGroup p f group rs n None
all_not_yes p f group rs n numbers are all s rule is symbol = All-contains (IsNotYes p group rs n) numbers s all (number_of p f rs n numbers are s rule is symbol) rule is

module _ (p : Program) (f : ℕ) (rs : List Reading) (n : NodeId) (numbers : List ℕ) (are : AreRulesOf p.rules f numbers) where
  -- up to the first open rule none is Yes
  pub not_yes_until : (group first i d : ℕ) → IsFirstWaiting p f rs n first → i < length numbers → get_or numbers i d ≤ first → IsNotYes p group rs n (get_or numbers i d)
  not_yes_until group first i d waiting inside until rule is same holds =
      let symbol = root_of p.rules f (get_or numbers i d) rule is (are.each i d inside).1 in
      elim (cases_lt (get_or numbers i d) first) [
        | inl before_it ↦ no_yes p.wide rs n rule (waiting.0 (get_or numbers i d) rule before_it is symbol) holds
        | inr not_before ↦ (
            let at : get_or numbers i d ≡ first = omega (arith, until, not_before) in
            let parts = rule_parts p.rules f first (λ x. IsRuleUnknown rs n x) waiting.1 in
            let one = same_rule p.rules first parts.rule rule parts.is (ap (slice_get p.rules) (sym at) ∙ is) in
            unknown_yes p.wide rs n rule (subst (IsRuleUnknown rs n) one parts.holds) holds)
      ]

  -- where none of its group is Yes, none beside the first rule is
  pub none_beside : (first : ℕ) (rule : Rule) → slice_get p.rules first ≡ Some rule → All (IsNotYes p rule.group rs n) numbers → IsYesBeside p f first rs n None
  none_beside first rule is all other is_other =
      subst (λ x. IsYesInGroup p f x.group rs n None) (same_rule p.rules first rule other is is_other) (all_not_yes p f rule.group rs n numbers are all)

-- a rule whose head is another symbol is No
module _ (rs : List Reading) (n : NodeId) (r : Reading) (read : reading_of rs n ≡ Some r) where
  abbrev HeadFails : Pat → Type 0
  HeadFails q = (g : ℕ) → head q ≡ Some g → has_symbol r.label g ≡ false → (told rs q n).value ≡ value.No

  head_roll : (x : Pat-F Pat) → head (roll-Pat x) ≡ head_level (map-Pat Pat (Option ℕ) head x)
  head_roll x = fold-roll-Pat (Option ℕ) head_level x

  level : (x : Pat-F Pat) → ((g : ℕ) → head_level (map-Pat Pat (Option ℕ) head x) ≡ Some g → has_symbol r.label g ≡ false → (told_level rs (map-Pat Pat (NodeId → Told) (told rs) x) n).value ≡ value.No) → HeadFails (roll-Pat x)
  level x fails g is differs = ap (λ t. t.value) (told_roll rs x n) ∙ fails g (sym (head_roll x) ∙ is) differs

  symbol_fails : (f : ℕ) (args : List Pat) (o : Option Reading) → o ≡ Some r → has_symbol r.label f ≡ false → (told_symbol o f (map (told rs) args)).value ≡ value.No
  symbol_fails f args None is differs = cc
  symbol_fails f args (Some x) is differs =
      let same : r ≡ x = cc in
      ap (λ b. (told_symbol_at (b && (length (map (told rs) args) == length (targets_of x.targets))) (map (told rs) args) (targets_of x.targets)).value) (ap (λ y. has_symbol y.label f) (sym same) ∙ differs)

  pub head_fails : (q : Pat) → HeadFails q
  head_fails = pat_induction HeadFails (record {
    any = level Pat-F.Any (λ g is differs. cc);
    int = level Pat-F.Int (λ g is differs. cc);
    char = level Pat-F.Char (λ g is differs. cc);
    literal = λ i. level (Pat-F.Literal i) (λ g is differs. cc);
    letter = λ c. level (Pat-F.Letter c) (λ g is differs. cc);
    symbol = λ f args each. level (Pat-F.Sym f args) (λ g is differs. let same : f ≡ g = cc in symbol_fails f args (reading_of rs n) read (ap (has_symbol r.label) same ∙ differs));
    bind = λ v q ih. level (Pat-F.Bind v q) (λ g is differs. ih g is differs);
    union = λ q s left right. level (Pat-F.Union q s) (λ g is differs. cc);
    less = λ q s left right. level (Pat-F.Less q s) (λ g is differs. ap (λ v. least v (opposite (told rs s n).value)) (left g is differs));
  })

module _ (p : Program) (valid : IsValid p) (rs : List Reading) (n : NodeId) where
  other_no : (r : Reading) → reading_of rs n ≡ Some r → (s : ℕ) (rule : Rule) → slice_get p.rules s ≡ Some rule → has_symbol r.label rule.symbol ≡ false → IsRuleNo p.wide rs n rule
  other_no r read s rule is differs = inl (head_fails rs n r read rule.pattern rule.symbol (valid.rules s rule is).head differs)

  -- the reading of the node
  record SymbolRead (f : ℕ) : Type 0 where
    pub reading : Reading
    pub is : reading_of rs n ≡ Some reading
    pub label : reading.label ≡ Symbol f

  symbol_read : (f : ℕ) → HasSymbolRead rs n f → SymbolRead f
  symbol_read f has = at (reading_of rs n) refl has
    where
      at : (o : Option Reading) → reading_of rs n ≡ o → IsSomeAnd o (λ r. r.label ≡ Symbol f) → SymbolRead f
      at None is none = absurd none
      at (Some r) is label = record { reading = r; is = is; label = label }

  is_read : (r : Reading) → reading_of rs n ≡ Some r → IsSome (reading_of rs n)
  is_read r is = subst (λ o. IsSome o) (sym is) refl

  -- a rule has the node's symbol, or its pattern fails
  pub symbol_or_fails : (f : ℕ) → HasSymbolRead rs n f → (s : ℕ) (rule : Rule) → slice_get p.rules s ≡ Some rule → (rule.symbol ≡ f) ⊎ ((told rs rule.pattern n).value ≡ value.No)
  symbol_or_fails f has s rule is =
      (elim (rule.symbol == f) as (λ b. (rule.symbol == f) ≡ b → (rule.symbol ≡ f) ⊎ ((told rs rule.pattern n).value ≡ value.No)) [
        | true ↦ λ e. inl (eqb-true rule.symbol f e)
        | false ↦ λ e. inr (head_fails rs n read.reading read.is rule.pattern rule.symbol (valid.rules s rule is).head (ap (λ l. has_symbol l rule.symbol) read.label ∙ flipped e))
      ]) refl
    where
      read : SymbolRead f
      read = symbol_read f has

      flipped : (rule.symbol == f) ≡ false → (f == rule.symbol) ≡ false
      flipped e = (elim (f == rule.symbol) as (λ b. (f == rule.symbol) ≡ b → b ≡ false) [
        | true ↦ λ same. (let clash : true ≡ false = sym (eq-eqb rule.symbol f (sym (eqb-true f rule.symbol same))) ∙ e in cc)
        | false ↦ λ same. refl
      ]) refl

  symbol_or_no : (f : ℕ) → HasSymbolRead rs n f → (s : ℕ) (rule : Rule) → slice_get p.rules s ≡ Some rule → (rule.symbol ≡ f) ⊎ IsRuleNo p.wide rs n rule
  symbol_or_no f has s rule is = elim (symbol_or_fails f has s rule is) [ inl symbol ↦ inl symbol | inr fails ↦ inr (inl fails) ]

  -- groups rise along the rules
  pub rises : (s r : ℕ) (a b : Rule) → slice_get p.rules s ≡ Some a → slice_get p.rules r ≡ Some b → a.group < b.group → s < r
  rises s r a b is_a is_b less =
      elim (cases_lt s r) [
        | inl before ↦ before
        | inr not_before ↦ elim (cases_lt r s) [
          | inl after ↦ (
              let ordered = valid.groups r s a after (slice_get_within p.rules s a is_a) in
              let at_a : (get_or p.rules s a).group ≡ a.group = ap (λ x. x.group) (get_or_from_slice_get p.rules s a a is_a) in
              let at_b : (get_or p.rules r a).group ≡ b.group = ap (λ x. x.group) (get_or_from_slice_get p.rules r b a is_b) in
              absurd (omega (arith, ordered, at_a, at_b, less)))
          | inr same_place ↦ (
              let at : r ≡ s = omega arith in
              let same : a.group ≡ b.group = ap (λ x. x.group) (same_rule p.rules s a b is_a (ap (slice_get p.rules) (sym at) ∙ is_b)) in
              absurd (omega (arith, same, less)))
        ]
      ]

  pub notes : (f : ℕ) → HasSymbolRead rs n f → AreNo p f rs n (length p.rules) → ShowsNote p rs n
  notes f has none = record {
    read = is_read (symbol_read f has).reading (symbol_read f has).is;
    none = λ k d within. (let is = slice_get-get_or p.rules k d within in
        elim (symbol_or_no f has k (get_or p.rules k d) is) [
          | inl symbol ↦ none k (get_or p.rules k d) within is symbol
          | inr fails ↦ fails
        ]);
  }

  -- an integer or a character has no symbol
  pub notes_atom : (r : Reading) → reading_of rs n ≡ Some r → ((i : ℤ) × (r.label ≡ Integer i)) ⊎ ((c : ℕ) × (r.label ≡ Character c)) → ShowsNote p rs n
  notes_atom r is atom = record {
    read = is_read r is;
    none = λ k d within. other_no r is k (get_or p.rules k d) (slice_get-get_or p.rules k d within) (other (get_or p.rules k d).symbol atom);
  }
    where
      other : (f : ℕ) → ((i : ℤ) × (r.label ≡ Integer i)) ⊎ ((c : ℕ) × (r.label ≡ Character c)) → has_symbol r.label f ≡ false
      other f (inl (i, label)) = ap (λ l. has_symbol l f) label
      other f (inr (c, label)) = ap (λ l. has_symbol l f) label

  -- a rule fires that is Yes, where the rules before one of its group are No
  pub fires : (f r q : ℕ) (rule first : Rule) → HasSymbolRead rs n f → slice_get p.rules r ≡ Some rule → rule.symbol ≡ f → IsRuleYes p.wide rs n rule → slice_get p.rules q ≡ Some first → rule.group ≡ first.group → AreNo p f rs n q
      → (bindings : List NodeId) × ShowsFire p rs n r bindings
  fires f r q rule first has is symbol holds is_first group none = (
    bindings_told rs n rule,
    record {
      rule = rule;
      is_rule = is;
      read = is_read (symbol_read f has).reading (symbol_read f has).is;
      yes = holds;
      first = λ s earlier is_earlier pre. (
          let same_earlier : pre.earlier ≡ earlier = same_rule p.rules s pre.earlier earlier pre.is_earlier is_earlier in
          let same_later : pre.later ≡ rule = same_rule p.rules r pre.later rule pre.is_later is in
          let root : earlier.symbol ≡ f = ap (λ x. x.symbol) (sym same_earlier) ∙ (pre.symbol ∙ (ap (λ x. x.symbol) same_later ∙ symbol)) in
          let less : earlier.group < first.group = omega (arith, pre.group, ap (λ x. x.group) same_earlier, ap (λ x. x.group) same_later, group) in
          none s earlier (rises s q earlier first is_earlier is_first less) is_earlier root);
      bindings_are = refl;
    },
  )

  -- where the first open rule waits and none of its group is Yes, nothing is decided
  pub undecided : (f q : ℕ) (first : Rule) → HasSymbolRead rs n f → slice_get p.rules q ≡ Some first → first.symbol ≡ f → IsRuleUnknown rs n first → AreNo p f rs n q → IsYesInGroup p f first.group rs n None → IsUndecided p rs n
  undecided f q first has is_first symbol unknown none no_yes_there (event.Note m) at shows =
      let shown = shows.1 in
      unknown_no p.wide rs m first (subst (λ k. IsRuleUnknown rs k first) (sym at) unknown) (subst (IsRuleNo p.wide rs m) (get_or_from_slice_get p.rules q first first is_first) (shown.none q first (slice_get_within p.rules q first is_first)))
  undecided f q first has is_first symbol unknown none no_yes_there (event.Fire m r) at shows = at_n (subst (λ k. ShowsFire p rs k r shows.0) at shows.1)
    where
      at_n : ShowsFire p rs n r shows.0 → ⊥
      at_n shown = elim (symbol_or_no f has r shown.rule shown.is_rule) [
        | inr fails ↦ no_yes p.wide rs n shown.rule fails shown.yes
        | inl root ↦ elim (cases_lt shown.rule.group first.group) [
          | inl before ↦ no_yes p.wide rs n shown.rule (none r shown.rule (rises r q shown.rule first shown.is_rule is_first before) shown.is_rule root) shown.yes
          | inr not_before ↦ elim (cases_lt first.group shown.rule.group) [
            | inl later ↦ unknown_no p.wide rs n first unknown (shown.first q first is_first (record { earlier = first; later = shown.rule; is_earlier = is_first; is_later = shown.is_rule; symbol = symbol ∙ sym root; group = later }))
            | inr same_group ↦ no_yes_there r shown.rule shown.is_rule root (omega arith) shown.yes
          ]
        ]
      ]

  -- and the node that it waits for is placed
  pub placed : (f q : ℕ) (first : Rule) (m : NodeId) → HasSymbolRead rs n f → slice_get p.rules q ≡ Some first → first.symbol ≡ f → Needs rs first.pattern n m → IsPlaced p rs n m
  placed f q first m has is_first symbol needs = record {
    root = (symbol_read f has).reading;
    is_root = (symbol_read f has).is;
    path = needs.path;
    tested = ap (λ l. label_tests p l needs.path) (symbol_read f has).label ∙ or_right (is_root needs.path) _ (list_any_at (λ x. (x.symbol == f) && tests x.pattern needs.path) p.rules q first (slice_get_within p.rules q first is_first) at);
    leads = needs.leads;
  }
    where
      at : ((get_or p.rules q first).symbol == f && tests (get_or p.rules q first).pattern needs.path) ≡ true
      at = ap (λ x. (x.symbol == f) && tests x.pattern needs.path) (get_or_from_slice_get p.rules q first first is_first) ∙ (ap (λ b. b && tests first.pattern needs.path) (eq-eqb first.symbol f symbol) ∙ needs.tested)

      or_right : (a b : Bool) → b ≡ true → (a || b) ≡ true
      or_right true b e = refl
      or_right false b e = e

  pub needs_now : (f q : ℕ) (first : Rule) (m : NodeId) → HasSymbolRead rs n f → slice_get p.rules q ≡ Some first → first.symbol ≡ f → IsRuleUnknown rs n first → Needs rs first.pattern n m → AreNo p f rs n q → IsYesInGroup p f first.group rs n None → IsNeed p rs n m
  needs_now f q first m has is_first symbol unknown needs none no_yes_there = record {
    unread = needs.unread;
    undecided = undecided f q first has is_first symbol unknown none no_yes_there;
    place = inr (placed f q first m has is_first symbol needs);
  }

  -- before the root is read nothing is decided
  pub needs_root : reading_of rs n ≡ None → IsNeed p rs n n
  needs_root unread = record {
    unread = unread;
    undecided = λ e at shows. nothing e at shows;
    place = inl (unread, refl);
  }
    where
      unread_some : (m : NodeId) → m ≡ n → IsSome (reading_of rs m) → ⊥
      unread_some m at some = let e : false ≡ true = subst (λ o. IsSome o) (ap (reading_of rs) at ∙ unread) some in cc

      nothing : (e : Event) → node_of_event e ≡ n → ShowsEvent p rs e → ⊥
      nothing (event.Fire m r) at shows = unread_some m at shows.1.read
      nothing (event.Note m) at shows = unread_some m at shows.1.read

  pub fires_first : (f r : ℕ) → HasSymbolRead rs n f → AreNo p f rs n r → HasRule p.rules f r (λ rule. IsRuleYes p.wide rs n rule) → (bindings : List NodeId) × ShowsFire p rs n r bindings
  fires_first f r has none opened =
      let parts = rule_parts p.rules f r (λ rule. IsRuleYes p.wide rs n rule) opened in
      fires f r r parts.rule parts.rule has parts.is parts.symbol parts.holds parts.is refl none

  -- a rule of the group of the first open one
  pub fires_beside : (f r q : ℕ) (m : NodeId) → HasSymbolRead rs n f → AreNo p f rs n q → HasRule p.rules f q (λ rule. IsRuleUnknown rs n rule × Needs rs rule.pattern n m) → IsYesBeside p f q rs n (Some r) → (bindings : List NodeId) × ShowsFire p rs n r bindings
  fires_beside f r q m has none opened beside =
      let first = rule_parts p.rules f q (λ rule. IsRuleUnknown rs n rule × Needs rs rule.pattern n m) opened in
      let parts = rule_parts p.rules f r (λ rule. (rule.group ≡ first.rule.group) × IsRuleYes p.wide rs n rule) (beside first.rule first.is) in
      fires f r q parts.rule first.rule has parts.is parts.symbol parts.holds.1 first.is parts.holds.0 none

  pub needs_first : (f q : ℕ) (m : NodeId) → HasSymbolRead rs n f → AreNo p f rs n q → HasRule p.rules f q (λ rule. IsRuleUnknown rs n rule × Needs rs rule.pattern n m) → IsYesBeside p f q rs n None → IsNeed p rs n m
  needs_first f q m has none opened beside =
      let parts = rule_parts p.rules f q (λ rule. IsRuleUnknown rs n rule × Needs rs rule.pattern n m) opened in
      needs_now f q parts.rule m has parts.is parts.symbol parts.holds.0 parts.holds.1 none (beside parts.rule parts.is)
