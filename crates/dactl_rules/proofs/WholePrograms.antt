-- What the code finds of a whole text is what the definitions say.
use Rattle.std.proofs.Common.{◌≡◌, ℕ, ◌+◌, ◌<◌, ◌⊎◌, inl, inr, Bool, List, [], ◌∷◌, ◌++◌, map, length, take, get_or, All, Contains, Option, None, refl, sym, ap, ◌∙◌, subst, arith}
use Rattle.std.specs.List.{flat_map}
use Rattle.std.proofs.lemmas.List.{map-append}
use Rattle.std.proofs.lemmas.List.Elements.{All-append}
use Rattle.std.proofs.lemmas.Grind.{flat_map-append}
use Rattle.dactl_base.specs.declared.refusal.Refusal.{Refusal}
use Rattle.dactl_base.specs.declared.refusal.TextFault.{TextFault}
use Rattle.dactl_base.specs.declared.refusal.TextFault.TheVariants as faults
use Rattle.dactl_model.specs.declared.program.Rule.{Rule}
use Rattle.dactl_model.specs.declared.program.Start.{Start}
use Rattle.dactl_model.specs.Programs.{IsValid}
use Rattle.dactl_meaning.specs.declared.tree.Group.{Group}
use Rattle.dactl_meaning.specs.declared.tree.Item.{Item}
use Rattle.dactl_meaning.specs.declared.tree.Item.TheVariants as item
use Rattle.dactl_meaning.specs.declared.tree.RuleTree.{RuleTree}
use Rattle.dactl_meaning.specs.declared.tree.TermTree.{TermTree}
use Rattle.dactl_meaning.specs.declared.tree.Text.{Text}
use Rattle.dactl_meaning.specs.Contractum.{term_of_part}
use Rattle.dactl_meaning.specs.Declarations.{Placed, PlacedGroup, PlacedRule, item_groups, items, groups, rules}
use Rattle.dactl_meaning.specs.Faults.{NoFault, IsLeastFault, IsDueFault}
use Rattle.dactl_meaning.specs.Meaning.{PlacedInitial, all_initials, arithmetic_rules, rules_from, start_by, named_faults, CycleFault, RuleFault, program_of, is_wide}
use Rattle.dactl_meaning.specs.RuleFaults.{rule_faults}
use Rattle.dactl_meaning.specs.ScopeFaults.{ScopeFault}
use Rattle.dactl_meaning.specs.Sight.{Seen, sees}
use Rattle.dactl_symbols.specs.Least.{sooner, TellsLeast}
use Rattle.dactl_symbols.specs.Scoping.{seen_in, symbols_in, IsScopesOf}
use Rattle.dactl_symbols.specs.Sights.{Sights}
use Rattle.dactl_rules.specs.declared.compiled.CompiledRules.{CompiledRules}
use Rattle.dactl_validity.specs.Counting.{AreCountable, IsCountable}
use Rattle.dactl_rules.specs.Drafts.{IsDraft}
use Rattle.dactl_contractum.specs.Initials.{first_start, initial_faults, initials_in, start_from, AreRead}
use Rattle.dactl_rules.specs.RuleLists.{HasRules, terms_of, faults_in, contracta_in}
use Rattle.dactl_meaning.specs.Spelling.{IsSpelled}
use Rattle.dactl_rules.proofs.Late.{rule_phase, cycle_phase}
use Rattle.dactl_contractum.proofs.Least.{both_none, tells_append}
use Rattle.dactl_contractum.proofs.Listings.{items_more}
use Rattle.dactl_validity.proofs.ValidPrograms.{valid_without_faults}

-- ---- named patterns

pub named_more : {I : Type 0} (f : Placed → List Refusal) (placed : I → Placed) (items : List I) (i : ℕ) (item : I) (a b : Option Refusal) → i < length items → item ≡ get_or items i item
    → TellsLeast (Contains (flat_map f (map placed (take i items)))) a → TellsLeast (Contains (f (placed item))) b → TellsLeast (Contains (flat_map f (map placed (take (i + 1) items)))) (sooner a b)
named_more f placed items i item a b lt at before here =
    subst (λ (l : List Refusal). TellsLeast (Contains l) (sooner a b)) (sym (items_more f placed items i item lt at)) (tells_append (flat_map f (map placed (take i items))) (f (placed item)) a b before here)

-- ---- groups as lists of rules

pub no_groups : (m : ℕ) (i : Item) → ((groups : List Group) → i ≡ item.Rules groups → ⊥) → item_groups m i ≡ []
no_groups m (item.Imports names) other = refl
no_groups m (item.Symbols class public names) other = refl
no_groups m (item.Named public name pattern) other = refl
no_groups m (item.Rules groups) other = absurd (other groups refl)
no_groups m (item.Initial place terms) other = refl

abbrev placed_rule : ℕ → RuleTree → PlacedRule
placed_rule m r = record { owner = m; rule = r }

abbrev rules_in : PlacedGroup → List PlacedRule
rules_in g = map (placed_rule g.owner) g.group.rules

faults_of_one : (text : Text) (m : ℕ) (rs : List RuleTree) → flat_map (λ (r : PlacedRule). rule_faults text r.owner r.rule) (map (placed_rule m) rs) ≡ flat_map (rule_faults text m) rs
faults_of_one text m [] = refl
faults_of_one text m (r ∷ rs) = ap (λ (z : List Refusal). rule_faults text m r ++ z) (faults_of_one text m rs)

faults_of_all : (text : Text) (gs : List PlacedGroup) → flat_map (λ (r : PlacedRule). rule_faults text r.owner r.rule) (flat_map rules_in gs) ≡ faults_in text gs
faults_of_all text [] = refl
faults_of_all text (g ∷ gs) =
    flat_map-append (λ (r : PlacedRule). rule_faults text r.owner r.rule) (rules_in g) (flat_map rules_in gs)
    ∙ (λ j. faults_of_one text g.owner g.group.rules j ++ faults_of_all text gs j)

terms_of_one : (m : ℕ) (rs : List RuleTree) → map (λ (r : PlacedRule). map term_of_part r.rule.parts) (map (placed_rule m) rs) ≡ map terms_of rs
terms_of_one m [] = refl
terms_of_one m (r ∷ rs) = ap (λ (z : List (List TermTree)). terms_of r ∷ z) (terms_of_one m rs)

terms_of_all : (gs : List PlacedGroup) → map (λ (r : PlacedRule). map term_of_part r.rule.parts) (flat_map rules_in gs) ≡ contracta_in gs
terms_of_all [] = refl
terms_of_all (g ∷ gs) =
    map-append (λ (r : PlacedRule). map term_of_part r.rule.parts) (rules_in g) (flat_map rules_in gs)
    ∙ (λ j. terms_of_one g.owner g.group.rules j ++ terms_of_all gs j)

-- ---- cycles before all others

pub cycle_least : (text : Text) (x : Refusal) → IsLeastFault (CycleFault text) x → IsLeastFault (λ r. CycleFault text r ⊎ RuleFault text r) x
cycle_least text x is = record {
  holds = inl is.holds;
  least = λ other h before. elim h [
    | inl cycle ↦ is.least other cycle before
    | inr rule ↦ let here = cycle_phase text x is.holds in let there = rule_phase text other rule in elim before [ inl first ↦ absurd (omega (arith, first, here, there)) | inr same ↦ let e = same.0 in absurd (omega (arith, e, here, there)) ]
  ];
}

pub cycle_due : (text : Text) (f : TextFault) → IsDueFault (CycleFault text) f → IsDueFault (λ r. CycleFault text r ⊎ RuleFault text r) f
cycle_due text (faults.Refused r) is = cycle_least text r is
cycle_due text faults.Memory is = tt

-- ---- a text

look_is : (text : Text) (s : Sights) → IsScopesOf text s → seen_in s ≡ sees text
look_is text s scopes = λ j m w. scopes.seen m w j

-- the first of the three is the first fault of the rules
pub draft_is : (text : Text) (s : Sights) → IsScopesOf text s → (named initial : Option Refusal) (old new : CompiledRules) → TellsLeast (Contains (flat_map (named_faults text) (items text))) named → HasRules text (groups text) old
    → AreRead (seen_in s) (all_initials text) initial → new.fault ≡ sooner (sooner named old.fault) initial → new.rules ≡ old.rules → new.group ≡ old.group → IsDraft text new
draft_is text s scopes named initial old new named_told rules_told initial_told fault rules_are group =
    let written = flat_map (λ (r : PlacedRule). rule_faults text r.owner r.rule) (rules text) in
    let initials : TellsLeast (Contains (initial_faults (sees text) (all_initials text))) initial = subst (λ (look : ℕ → List ℕ → Option Seen). TellsLeast (Contains (initial_faults look (all_initials text))) initial) (look_is text s scopes) initial_told.tells in
    let rules_of : TellsLeast (Contains written) old.fault = subst (λ (z : List Refusal). TellsLeast (Contains z) old.fault) (sym (faults_of_all text (groups text))) rules_told.tells in
    let told : TellsLeast (RuleFault text) (sooner (sooner named old.fault) initial) =
    tells_append (flat_map (named_faults text) (items text) ++ written) (initial_faults (sees text) (all_initials text)) (sooner named old.fault) initial
    (tells_append (flat_map (named_faults text) (items text)) written named old.fault named_told rules_of) initials in
    let sound : new.fault ≡ None → old.fault ≡ None = λ e. (both_none named old.fault (both_none (sooner named old.fault) initial (sym fault ∙ e)).0).1 in
    record {
      tells = subst (TellsLeast (RuleFault text)) (sym fault) told;
      rules = λ e. ap (λ v. v.items) rules_are ∙ rules_told.rules (sound e);
      counted = λ e few. record {
        groups = let next = rules_told.next in omega (arith, next, few, group);
        contracta = subst (λ (z : List (List TermTree)). All AreCountable (z ++ map (λ (i : PlacedInitial). i.terms) (all_initials text))) (sym (terms_of_all (groups text)))
            (All-append AreCountable (contracta_in (groups text)) (map (λ (i : PlacedInitial). i.terms) (all_initials text)) (rules_told.counted (sound e)) initial_told.counted);
      };
    }

start_is : (text : Text) (s : Sights) → IsScopesOf text s → (is : List PlacedInitial) → start_from (first_start (seen_in s) is) ≡ start_by text is
start_is text s scopes [] = refl
start_is text s scopes (i ∷ more) = ap (λ (look : ℕ → List ℕ → Option Seen). start_from (first_start look (i ∷ more))) (look_is text s scopes)

-- what is assembled is what the text means
pub program_is : (text : Text) (s : Sights) → IsScopesOf text s → (wide : Bool) (written : List Rule) (start : Option Start) (listed : List Placed) → wide ≡ is_wide text → written ≡ rules_from text 5 (groups text)
    → start ≡ first_start (seen_in s) (flat_map initials_in listed) → listed ≡ items text
    → record { symbols = symbols_in s; rules = arithmetic_rules ++ written; start = start_from start; wide = wide } ≡ program_of text
program_is text s scopes wide written start listed wide_is rules_are start_first items_are =
    λ j. record { symbols = scopes.symbols j; rules = arithmetic_rules ++ rules_are j; start = (ap start_from start_first ∙ ap (λ (l : List Placed). start_from (first_start (seen_in s) (flat_map initials_in l))) items_are ∙ start_is text s scopes (all_initials text)) j; wide = wide_is j }

pub valid : (text : Text) → IsCountable text → NoFault (CycleFault text) → NoFault (RuleFault text) → IsSpelled text → NoFault (ScopeFault text) → IsValid (program_of text)
valid text counted cycles sound spelled scope = valid_without_faults text spelled counted (λ r h. elim h [ inl names ↦ scope r names | inr late ↦ elim late [ inl cycle ↦ cycles r cycle | inr rule ↦ sound r rule ] ])

pub late_least : (text : Text) (x : Refusal) → NoFault (CycleFault text) → IsLeastFault (RuleFault text) x → IsLeastFault (λ r. CycleFault text r ⊎ RuleFault text r) x
late_least text x none is = record { holds = inr is.holds; least = λ other h before. elim h [ inl cycle ↦ none other cycle | inr rule ↦ is.least other rule before ] }
