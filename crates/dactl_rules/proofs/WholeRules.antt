-- The faults of a rule as the code finds them are those of the definition.
use Rattle.std.proofs.Common.{◌≡◌, ℕ, ◌<◌, Bool, true, false, not, ◌&&◌, ◌⊎◌, inl, inr, cond, List, [], ◌∷◌, ◌++◌, map, length, Contains, All, Result, Ok, Err, Option, Some, None, refl, sym, ap, ◌∙◌, subst, arith, lit<, if◌then◌else◌, ◌≤◌, ◌||◌, nat_lt, unwrap_or}
use Rattle.std.specs.List.{filter, filter_map, flat_map, cons_option}
use Rattle.std.specs.Borrow.{Bor}
use Rattle.std.proofs.lemmas.List.Elements.{Contains-append_left, Contains-append_right, Contains-append_cases}
use Rattle.dactl_base.specs.declared.refusal.Kind.{Kind}
use Rattle.dactl_base.specs.declared.refusal.Kind.TheVariants as kinds
use Rattle.dactl_base.specs.declared.refusal.Place.{Place}
use Rattle.dactl_base.specs.declared.refusal.Refusal.{Refusal}
use Rattle.dactl_base.specs.declared.refusal.TextFault.{TextFault}
use Rattle.dactl_base.specs.declared.refusal.TextFault.TheVariants as fault
use Rattle.dactl_model.specs.declared.program.Class.TheVariants as classes
use Rattle.dactl_model.specs.declared.program.FreshNode.{FreshNode}
use Rattle.dactl_model.specs.declared.program.Pat.{Pat}
use Rattle.dactl_model.specs.declared.program.Body.TheVariants.{Written}
use Rattle.dactl_model.specs.Binders.{head}
use Rattle.dactl_meaning.specs.declared.tree.Name.{Name}
use Rattle.dactl_meaning.specs.declared.tree.PatternTree.{PatternTree}
use Rattle.dactl_meaning.specs.declared.tree.RuleTree.{RuleTree}
use Rattle.dactl_meaning.specs.declared.tree.Text.{Text}
use Rattle.dactl_meaning.specs.Faults.{Precedes, IsLeastFault, IsDueFault, TellsFaults}
use Rattle.dactl_meaning.specs.Meaning.{rule_of}
use Rattle.dactl_meaning.specs.Sight.{sees, class_for}
use Rattle.dactl_meaning.specs.Expansion.{is_among, number_in, variables_of, root_names, pattern_nodes, rule_expansion, pattern_expansion}
use Rattle.dactl_meaning.specs.Contractum.{MentionTree, term_of_part, mentions_of, has_star, fresh_of, fresh_nodes, moves_of, wakes_of, asked_by, suspend_of}
use Rattle.dactl_meaning.specs.RuleFaults.{suspendable, each_at, at_if, is_too_wide, again, place_of, head_is, is_class, lefts_of, contractum_faults, pattern_faults, rule_faults, root_not_rewritable, unbound_lefts, redirected_twice, not_overwritable}
use Rattle.dactl_symbols.specs.Least.{TellsLeast}
use Rattle.dactl_symbols.specs.Scoping.{seen_in, class_in, IsScopesOf}
use Rattle.dactl_symbols.specs.Sights.{Sights}
use Rattle.dactl_symbols.proofs.Turns.{precedes-trans, Precedes-test, test-Precedes}
use Rattle.dactl_patterns.proofs.Faultless.{wide_there}
use Rattle.dactl_rules.specs.declared.reading.RuleParts.{RuleParts}
use Rattle.dactl_contractum.specs.Drawing.{made_in, mentioned_in}
use Rattle.dactl_contractum.specs.Lefts.{words, left_unbound, left_fixed, is_fixed}
use Rattle.dactl_rules.specs.Reading.{IsRead}
use Rattle.dactl_rules.specs.Rules.{early_faults, fixed_faults, symbols_of, meant_of, IsAnswerFor}
use Rattle.dactl_contractum.specs.Meant.{nodes_with, wake_of}
use Rattle.dactl_contractum.specs.Told.{fault_at, suspensions_in, drawn_faults}
use Rattle.dactl_contractum.proofs.Meanings.{wake_one, nodes_told}
use Rattle.dactl_validity.proofs.ValidTests.{not_above as not_wider}
use Rattle.dactl_contractum.proofs.LeftSides.{left_unbound_told, left_fixed_told}
use Rattle.dactl_validity.proofs.ValidLists.{In, all_in, flat_in, map_in, get_in}

-- ---- the lists

pub contains_in : {X : Type 0} (xs : List X) (x : X) → Contains xs x → In xs x
contains_in xs x (k, lt, is) = subst (In xs) is (get_in xs k x lt)

-- a fault is told where it holds
at_one : (b : Bool) (kind : Kind) (p : Place) → fault_at b kind p ≡ each_at kind (at_if b p.byte)
at_one true kind p = refl
at_one false kind p = refl

module _ (R P C U T N : List Refusal) (x : Refusal) where
  -- the faults of a rule in the order of the definition, and in that of the code
  abbrev defined : List Refusal
  defined = R ++ P ++ C ++ (U ++ T ++ N)

  abbrev found : List Refusal
  found = R ++ C ++ U ++ T

  pub into : Contains (found ++ N) x ⊎ Contains P x → Contains defined x
  into (inr p) = Contains-append_left (R ++ P ++ C) (U ++ T ++ N) x (Contains-append_left (R ++ P) C x (Contains-append_right R P x p))
  into (inl h) = elim (Contains-append_cases found N x h) [
    | inr n ↦ Contains-append_right (R ++ P ++ C) (U ++ T ++ N) x (Contains-append_right (U ++ T) N x n)
    | inl f ↦ elim (Contains-append_cases (R ++ C ++ U) T x f) [
      | inr t ↦ Contains-append_right (R ++ P ++ C) (U ++ T ++ N) x (Contains-append_left (U ++ T) N x (Contains-append_right U T x t))
      | inl g ↦ elim (Contains-append_cases (R ++ C) U x g) [
        | inr u ↦ Contains-append_right (R ++ P ++ C) (U ++ T ++ N) x (Contains-append_left (U ++ T) N x (Contains-append_left U T x u))
        | inl e ↦ elim (Contains-append_cases R C x e) [
          | inl r ↦ Contains-append_left (R ++ P ++ C) (U ++ T ++ N) x (Contains-append_left (R ++ P) C x (Contains-append_left R P x r))
          | inr c ↦ Contains-append_left (R ++ P ++ C) (U ++ T ++ N) x (Contains-append_right (R ++ P) C x c)
        ]
      ]
    ]
  ]

  pub out_of : Contains defined x → Contains (found ++ N) x ⊎ Contains P x
  out_of h = elim (Contains-append_cases (R ++ P ++ C) (U ++ T ++ N) x h) [
    | inl f ↦ elim (Contains-append_cases (R ++ P) C x f) [
      | inl g ↦ elim (Contains-append_cases R P x g) [
        | inl r ↦ inl (Contains-append_left found N x (Contains-append_left (R ++ C ++ U) T x (Contains-append_left (R ++ C) U x (Contains-append_left R C x r))))
        | inr p ↦ inr p
      ]
      | inr c ↦ inl (Contains-append_left found N x (Contains-append_left (R ++ C ++ U) T x (Contains-append_left (R ++ C) U x (Contains-append_right R C x c))))
    ]
    | inr f ↦ elim (Contains-append_cases (U ++ T) N x f) [
      | inl g ↦ elim (Contains-append_cases U T x g) [
        | inl u ↦ inl (Contains-append_left found N x (Contains-append_left (R ++ C ++ U) T x (Contains-append_right (R ++ C) U x u)))
        | inr t ↦ inl (Contains-append_left found N x (Contains-append_right (R ++ C ++ U) T x t))
      ]
      | inr n ↦ inl (Contains-append_right found N x n)
    ]
  ]

-- ---- what is read says what the definition asks

module _ (text : Text) (s : Sights) (m : ℕ) (tree : RuleTree) (r : RuleParts) (scopes : IsScopesOf text s) (read : IsRead text m tree r) where
  pub look_is : seen_in s m ≡ sees text m
  look_is = λ j w. scopes.seen m w j

  class_is : class_in s m ≡ class_for text m
  class_is = λ j f. scopes.class m f j

  abbrev root_fault : List Refusal
  root_fault = each_at kinds.RootNotRewritable (root_not_rewritable (λ f. is_class classes.Rewritable (class_for text m f)) (rule_expansion text m tree.pattern) tree)

  abbrev drawn : List Refusal
  drawn = contractum_faults (sees text m) (variables_of tree.pattern) (suspendable tree) (map term_of_part tree.parts)

  abbrev unbound : List Refusal
  unbound = each_at kinds.Unbound (unbound_lefts tree)

  abbrev twice : List Refusal
  twice = each_at kinds.RedirectedTwice (redirected_twice tree)

  abbrev fixed : List Refusal
  fixed = each_at kinds.NotOverwritable (not_overwritable (λ f. is_class classes.Overwritable (class_for text m f)) (rule_expansion text m tree.pattern) tree)

  root_is : fault_at (not (head_is (λ f. is_class classes.Rewritable (class_in s m f)) r.head)) kinds.RootNotRewritable tree.place ≡ root_fault
  root_is =
      ap (λ (c : ℕ → Option _). fault_at (not (head_is (λ f. is_class classes.Rewritable (c f)) r.head)) kinds.RootNotRewritable tree.place) class_is
      ∙ ap (λ (h : Option ℕ). fault_at (not (head_is (λ f. is_class classes.Rewritable (class_for text m f)) h)) kinds.RootNotRewritable tree.place) read.head
      ∙ at_one (not (head_is (λ f. is_class classes.Rewritable (class_for text m f)) (head (rule_expansion text m tree.pattern)))) kinds.RootNotRewritable tree.place

  drawn_is : drawn_faults (seen_in s m) r.variables r.suspendable (made_in r.contractum.drawing) (mentioned_in r.contractum.drawing) ≡ drawn
  drawn_is = λ j. drawn_faults (look_is j) (read.variables j) (read.suspendable j) (read.drawn.made j) (read.drawn.mentions j)

  unbound_is : flat_map (left_unbound r.variables) (words r.lefts.items) ≡ unbound
  unbound_is = (λ j. flat_map (left_unbound (read.variables j)) (read.lefts j)) ∙ left_unbound_told (variables_of tree.pattern) (lefts_of tree.parts)

  twice_is : each_at kinds.RedirectedTwice (map place_of (again (if tree.redirects then r.roots else []) (filter (λ n. is_among r.variables n.text) (words r.lefts.items)))) ≡ twice
  twice_is = λ j. each_at kinds.RedirectedTwice (map place_of (again (if tree.redirects then read.roots j else []) (filter (λ n. is_among (read.variables j) n.text) (read.lefts j))))

  fixed_is : fixed_faults s m r (rule_expansion text m tree.pattern) ≡ fixed
  fixed_is =
      (λ j. flat_map (left_fixed (λ f. is_class classes.Overwritable (class_is j f)) (read.variables j) (read.roots j) (rule_expansion text m tree.pattern)) (read.lefts j))
      ∙ left_fixed_told (λ f. is_class classes.Overwritable (class_for text m f)) (variables_of tree.pattern) (root_names tree.pattern) (rule_expansion text m tree.pattern) (lefts_of tree.parts)

  pub early_is : early_faults s m tree r ≡ root_fault ++ drawn ++ unbound ++ twice
  early_is = λ j. root_is j ++ drawn_is j ++ unbound_is j ++ twice_is j

  abbrev of_pattern : List Refusal
  of_pattern = pattern_faults text m false tree.place.byte tree.pattern

  -- what the code finds, with the faults that the expansion tells, and those of the pattern
  abbrev Found : List Refusal → Refusal → Type 0
  Found faults x = Contains (faults ++ fixed_faults s m r (rule_expansion text m tree.pattern)) x ⊎ Contains of_pattern x

  pub found_into : (faults : List Refusal) (x : Refusal) → faults ≡ early_faults s m tree r → Found faults x → Contains (rule_faults text m tree) x
  found_into faults x e h =
      into root_fault of_pattern drawn unbound twice fixed x
      (subst (λ (z : List Refusal). Contains z x ⊎ Contains of_pattern x) (λ j. (e ∙ early_is) j ++ fixed_is j) h)

  pub out_found : (faults : List Refusal) (x : Refusal) → faults ≡ early_faults s m tree r → Contains (rule_faults text m tree) x → Found faults x
  out_found faults x e h =
      subst (λ (z : List Refusal). Contains z x ⊎ Contains of_pattern x) (sym (λ j. (e ∙ early_is) j ++ fixed_is j))
      (out_of root_fault of_pattern drawn unbound twice fixed x h)

pub with_fixed : (s : Sights) (m : ℕ) (r : RuleParts) (pattern : Pat) (faults : List Refusal) (lefts : List (Bor Name)) → lefts ≡ r.lefts.items
    → faults ++ flat_map (left_fixed (λ f. is_class classes.Overwritable (class_in s m f)) r.variables r.roots pattern) (words lefts) ≡ faults ++ fixed_faults s m r pattern
with_fixed s m r pattern faults lefts is = ap (λ (l : List (Bor Name)). faults ++ flat_map (left_fixed (λ f. is_class classes.Overwritable (class_in s m f)) r.variables r.roots pattern) (words l)) is

-- ---- a pattern that is too wide

abbrev wide_at : Place → Refusal
wide_at p = record { kind = kinds.TooWide; place = p }

not_above : (a b : ℕ) → a ≤ b → (a < b) ⊎ (a ≡ b)
not_above a b le = grind arith

-- what is told of left sides that don't stand before a place comes behind what is too wide there
told_behind : (p : Place) (holds : Bool) (n : Name) (x : Refusal) → p.byte ≤ place_of n → In (fault_at holds kinds.NotOverwritable n.place) x → Precedes (wide_at p) x
told_behind p true n x le (inl e) = subst (Precedes (wide_at p)) e (inr (refl, elim (not_above p.byte (place_of n) le) [ inl less ↦ inl less | inr same ↦ inr (same, lit< tt) ]))
told_behind p true n x le (inr none) = absurd none
told_behind p false n x le none = absurd none

fixed_behind : (p : Place) (writable : ℕ → Bool) (variables roots : List (List ℕ)) (pattern : Pat) (lefts : List (Bor Name)) → All (λ n. p.byte ≤ place_of n.now) lefts
    → (x : Refusal) → Contains (flat_map (left_fixed writable variables roots pattern) (words lefts)) x → Precedes (wide_at p) x
fixed_behind p writable variables roots pattern lefts all x h =
    let at = flat_in (left_fixed writable variables roots pattern) (words lefts) x (contains_in (flat_map (left_fixed writable variables roots pattern) (words lefts)) x h) in
    let behind = map_in (λ (n : Bor Name). n.now) lefts at.0 at.1 in
    told_behind p (is_fixed writable variables roots pattern at.0.text) at.0 x
    (subst (λ (n : Name). p.byte ≤ place_of n) behind.2 (all_in (λ (n : Bor Name). p.byte ≤ place_of n.now) lefts all behind.0 behind.1)) at.2

-- faults behind one of the others change nothing
still_least : (E N P : List Refusal) (wide x : Refusal) → IsLeastFault (λ z. Contains E z ⊎ Contains P z) x → Contains P wide → ((n : Refusal) → Contains N n → Precedes wide n)
    → IsLeastFault (λ z. Contains (E ++ N) z ⊎ Contains P z) x
still_least E N P wide x told has behind = record {
  holds = elim told.holds [ inl e ↦ inl (Contains-append_left E N x e) | inr p ↦ inr p ];
  least = λ other h before. elim h [
    | inr p ↦ told.least other (inr p) before
    | inl h ↦ elim (Contains-append_cases E N other h) [
      | inl e ↦ told.least other (inl e) before
      | inr n ↦ told.least wide (inr has) (Precedes-test wide x (precedes-trans wide other x (test-Precedes wide other (behind other n)) (test-Precedes other x before)))
    ]
  ];
}

-- what is answered where the pattern is too wide is the rule's first fault
pub answer_due : (text : Text) (s : Sights) (m : ℕ) (tree : RuleTree) (r : RuleParts) → IsScopesOf text s → IsRead text m tree r → (faults : List Refusal) (least : Option Refusal) (f : TextFault) → faults ≡ early_faults s m tree r
    → is_too_wide false (pattern_expansion text m tree.pattern) tree.pattern ≡ true
    → TellsLeast (λ x. Contains faults x ⊎ Contains (pattern_faults text m false tree.place.byte tree.pattern) x) least → IsAnswerFor least r.lefts.items tree.place f → IsDueFault (Contains (rule_faults text m tree)) f
answer_due text s m tree r scopes read faults least fault.Memory e wide tells answer = tt
answer_due text s m tree r scopes read faults least (fault.Refused x) e wide tells answer =
    let pattern = pattern_faults text m false tree.place.byte tree.pattern in
    let first : IsLeastFault (λ z. Contains faults z ⊎ Contains pattern z) x = subst (TellsLeast (λ z. Contains faults z ⊎ Contains pattern z)) answer.0 tells in
    let both = still_least faults (fixed_faults s m r (rule_expansion text m tree.pattern)) pattern (wide_at tree.place) x first (wide_there text m false tree.place tree.pattern wide)
    (fixed_behind tree.place (λ f. is_class classes.Overwritable (class_in s m f)) r.variables r.roots (rule_expansion text m tree.pattern) r.lefts.items answer.1) in
    record {
      holds = found_into text s m tree r scopes read faults x e both.holds;
      least = λ other h before. both.least other (out_found text s m tree r scopes read faults other e h) before;
    }

-- what is told by one list of faults is told by another with the same members
pub told_same : {A : Type 0} (P Q : Refusal → Type 0) (result : Result A TextFault) → ((x : Refusal) → P x → Q x) → ((x : Refusal) → Q x → P x) → TellsFaults P result → TellsFaults Q result
told_same P Q (Ok a) to from tells = λ x h. tells x (from x h)
told_same P Q (Err (fault.Refused r)) to from tells = record { holds = to r tells.holds; least = λ other h before. tells.least other (from other h) before }
told_same P Q (Err fault.Memory) to from tells = tt

-- what is told of a rule whose pattern isn't too wide
pub whole_told : {A : Type 0} (text : Text) (s : Sights) (m : ℕ) (tree : RuleTree) (r : RuleParts) → IsScopesOf text s → IsRead text m tree r → (faults : List Refusal) (pattern : Pat) (result : Result A TextFault) → faults ≡ early_faults s m tree r
    → pattern ≡ rule_expansion text m tree.pattern → TellsFaults (λ x. Contains (faults ++ fixed_faults s m r pattern) x ⊎ Contains (pattern_faults text m false tree.place.byte tree.pattern) x) result → TellsFaults (Contains (rule_faults text m tree)) result
whole_told text s m tree r scopes read faults pattern result e is tells =
    told_same (Found text s m tree r scopes read faults) (Contains (rule_faults text m tree)) result
    (λ x h. found_into text s m tree r scopes read faults x e h)
    (λ x h. out_found text s m tree r scopes read faults x e h)
    (subst (λ (p : Pat). TellsFaults (λ x. Contains (faults ++ fixed_faults s m r p) x ⊎ Contains (pattern_faults text m false tree.place.byte tree.pattern) x) result) is tells)

-- ---- what a rule means

woken_by : (b : Bool) (n : ℕ) (rest : List ℕ) → cons_option (if b then Some n else None) rest ≡ cond b (n ∷ rest) rest
woken_by true n rest = refl
woken_by false n rest = refl

wakes_are : (variables : List (List ℕ)) (ms : List MentionTree) → filter_map (wake_of variables) ms ≡ map (λ m. number_in variables m.name.text) (filter (λ m. has_star m.marks && is_among variables m.name.text) ms)
wakes_are variables [] = refl
wakes_are variables (m ∷ ms) =
    woken_by (has_star m.marks && is_among variables m.name.text) (number_in variables m.name.text) (filter_map (wake_of variables) ms)
    ∙ wake_one (has_star m.marks && is_among variables m.name.text) (number_in variables m.name.text) m ms variables (filter_map (wake_of variables) ms) (wakes_are variables ms) refl

module _ (text : Text) (s : Sights) (m group : ℕ) (tree : RuleTree) (r : RuleParts) (scopes : IsScopesOf text s) (read : IsRead text m tree r) where
  body_is : Written (map (fresh_of (seen_in s m) r.variables (made_in r.contractum.drawing)) (made_in r.contractum.drawing)) (moves_of r.variables tree.redirects tree.parts) (filter_map (wake_of r.variables) (mentioned_in r.contractum.drawing))
      (asked_by (suspensions_in r.suspendable (mentioned_in r.contractum.drawing)))
      ≡ Written (fresh_nodes (sees text m) (variables_of tree.pattern) (map term_of_part tree.parts)) (moves_of (variables_of tree.pattern) tree.redirects tree.parts) (wakes_of (variables_of tree.pattern) (map term_of_part tree.parts))
      (suspend_of (suspendable tree) (map term_of_part tree.parts))
  body_is =
      (λ j. Written (map (fresh_of (look_is text s m tree r scopes read j) (read.variables j) (read.drawn.made j)) (read.drawn.made j)) (moves_of (read.variables j) tree.redirects tree.parts) (filter_map (wake_of (read.variables j)) (read.drawn.mentions j))
      (asked_by (suspensions_in (read.suspendable j) (read.drawn.mentions j))))
      ∙ ap (λ (w : List ℕ). Written (fresh_nodes (sees text m) (variables_of tree.pattern) (map term_of_part tree.parts)) (moves_of (variables_of tree.pattern) tree.redirects tree.parts) w (suspend_of (suspendable tree) (map term_of_part tree.parts))) (wakes_are (variables_of tree.pattern) (mentions_of (map term_of_part tree.parts)))

  nodes_are : (symbols : List ℕ) → symbols ≡ symbols_of s m r → nodes_with r.variables (made_in r.contractum.drawing) (made_in r.contractum.drawing) symbols ≡ map (fresh_of (seen_in s m) r.variables (made_in r.contractum.drawing)) (made_in r.contractum.drawing)
  nodes_are symbols are = ap (nodes_with r.variables (made_in r.contractum.drawing) (made_in r.contractum.drawing)) are ∙ nodes_told (seen_in s m) r.variables (made_in r.contractum.drawing) (made_in r.contractum.drawing)

  -- what is meant by what is read is what the tree means
  pub meant_is : (symbols : List ℕ) → symbols ≡ symbols_of s m r → meant_of symbols group tree r (rule_expansion text m tree.pattern) ≡ rule_of text m group tree
  meant_is symbols are = ap (λ (nodes : List FreshNode). record {
    symbol = unwrap_or r.head 0;
    group = group;
    variables = length r.variables;
    pattern = rule_expansion text m tree.pattern;
    body = Written nodes (moves_of r.variables tree.redirects tree.parts) (filter_map (wake_of r.variables) (mentioned_in r.contractum.drawing)) (asked_by (suspensions_in r.suspendable (mentioned_in r.contractum.drawing)));
  }) (nodes_are symbols are) ∙ λ j. record {
    symbol = unwrap_or (read.head j) 0;
    group = group;
    variables = length (read.variables j);
    pattern = rule_expansion text m tree.pattern;
    body = body_is j;
  }

-- a pattern that isn't too wide has few variables
pub few_variables : (expansion : Pat) (tree : PatternTree) → is_too_wide false expansion tree ≡ false → length (variables_of tree) ≤ 64
few_variables expansion tree narrow = few (nat_lt 64 (pattern_nodes expansion)) narrow
  where
    few : (b : Bool) → (b || (true && nat_lt 64 (length (variables_of tree)))) ≡ false → length (variables_of tree) ≤ 64
    few true e = cc
    few false e = not_wider 64 (length (variables_of tree)) e
