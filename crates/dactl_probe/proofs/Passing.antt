-- What is lost is No, and is passed over.
use Rattle.std.proofs.Common.{◌≡◌, ℕ, ◌+◌, ◌-◌, ◌<◌, ◌≤◌, ◌⊎◌, Bool, true, false, List, take, length, get_or, sym, ◌∙◌, ap, subst, arith, slice_get, Some, All, AllPairs, inl, inr}
use Rattle.std.proofs.lemmas.Bool.{cases_lt}
use Rattle.std.proofs.lemmas.List.{get_or-take, length-take, get_or_default}
use Rattle.std.proofs.lemmas.List.Elements.{All-more}
use Rattle.std.proofs.lemmas.Option.{slice_get_within, get_or_from_slice_get}
use Rattle.dactl_model.specs.declared.graph.NodeId.{NodeId}
use Rattle.dactl_model.specs.declared.reading.Reading.{Reading}
use Rattle.dactl_model.specs.declared.program.Rule.{Rule}
use Rattle.dactl_model.specs.declared.program.Program.{Program}
use Rattle.dactl_model.specs.Programs.{IsValid}
use Rattle.dactl_model.specs.RuleTold.{IsRuleNo}
use Rattle.dactl_decide.specs.Decisions.{AreRulesOf}
use Rattle.dactl_probe.specs.declared.lost.Lost.{Lost}
use Rattle.dactl_probe.specs.Lost.{IsRuleLost, IsKnownLost, AreLost}
use Rattle.dactl_probe.specs.declared.rule.Found.{Found}
use Rattle.dactl_probe.specs.declared.rule.Found.TheVariants as found
use Rattle.dactl_probe.specs.Verdicts.{HasSymbolRead, IsRuleFound, IsNumberFound}
use Rattle.dactl_probe.proofs.Rules.{no_yes, unknown_yes}
use Rattle.dactl_probe.proofs.Decided.{IsNumberNo, IsNotYes, before, symbol_or_fails, same_rule, rises}

pub lost_no : (wide : Bool) (rs : List Reading) (n : NodeId) (rule : Rule) → IsRuleLost rs n rule → IsRuleNo wide rs n rule
lost_no wide rs n rule (inl fails) = inl fails
lost_no wide rs n rule (inr conflict) = inr (inl conflict)

module _ (p : Program) (rs : List Reading) (n : NodeId) (k : Lost) (lost : AreLost p.rules rs n k) (numbers : List ℕ) where
  pub taken_no : (i : ℕ) → All (λ r. r < k.below) (take i numbers) → All (IsNumberNo p rs n) (take i numbers)
  taken_no i all j d within rule is = lost_no p.wide rs n rule (lost (get_or (take i numbers) j d) rule (inl (all j d within)) is)

  pub taken_not_yes : (group i : ℕ) → All (λ r. r < k.below) (take i numbers) → All (IsNotYes p group rs n) (take i numbers)
  taken_not_yes group i all j d within rule is same holds = no_yes p.wide rs n rule (lost_no p.wide rs n rule (lost (get_or (take i numbers) j d) rule (inl (all j d within)) is)) holds

pub lost_not_yes : (p : Program) (group : ℕ) (rs : List Reading) (n : NodeId) (s : ℕ) → IsNumberFound p rs n s found.Lost → IsNotYes p group rs n s
lost_not_yes p group rs n s fails rule is same holds = no_yes p.wide rs n rule (lost_no p.wide rs n rule (fails rule is)) holds

-- a rule that is No or not known yet is not Yes
pub open_not_yes : (p : Program) (group : ℕ) (rs : List Reading) (n : NodeId) (s : ℕ) (x : Found) → (x ≡ found.No) ⊎ ((m : NodeId) × (x ≡ found.Unknown m)) → IsNumberFound p rs n s x → IsNotYes p group rs n s
open_not_yes p group rs n s x (inl fails) is rule at same holds = no_yes p.wide rs n rule (subst (IsRuleFound p.wide rs n rule) fails (is rule at)) holds
open_not_yes p group rs n s x (inr (m, waits)) is rule at same holds = unknown_yes p.wide rs n rule (subst (IsRuleFound p.wide rs n rule) waits (is rule at)).0 holds

-- the rules at the first i places are No, and passed where each of them is lost
pub record IsSwept (p : Program) (rs : List Reading) (n : NodeId) (numbers : List ℕ) (k : Lost) (passing : Bool) (i : ℕ) : Type 0 where
  pub lost : AreLost p.rules rs n k
  pub none : All (IsNumberNo p rs n) (take i numbers)
  pub passed : passing ≡ true → All (λ r. r < k.below) (take i numbers)

-- where the last of the first numbers is below the bound, they all are
pub all_below : (numbers : List ℕ) → AllPairs (λ a b. a < b) numbers → (i bound : ℕ) → (i ≡ 0 → ⊥) → i ≤ length numbers → get_or numbers (i - 1) 0 < bound → All (λ r. r < bound) (take i numbers)
all_below numbers ascending i bound some inside last k d within =
    let early : k < i = omega (arith, within, length-take i numbers) in
    let at : get_or (take i numbers) k d ≡ get_or numbers k d = get_or-take i numbers k d early in
    let there : i - 1 < length numbers = omega (arith, early, inside) in
    let last_is : get_or numbers (i - 1) 0 ≡ get_or numbers (i - 1) d = get_or_default numbers (i - 1) 0 d there in
    elim (cases_lt k (i - 1)) [
      | inl before ↦ (let less = ascending k (i - 1) d before there in omega (arith, at, less, last_is, last))
      | inr not_before ↦ (let same : k ≡ i - 1 = omega (arith, early, not_before) in omega (arith, at, ap (λ m. get_or numbers m d) same, last_is, last))
    ]

-- a lost rule was added
pub lost_added : (p : Program) (rs : List Reading) (n : NodeId) (old new : Lost) (number : ℕ) → AreLost p.rules rs n old → ((s : ℕ) → IsKnownLost new s → (s ≡ number) ⊎ IsKnownLost old s) → IsNumberFound p rs n number found.Lost → AreLost p.rules rs n new
lost_added p rs n old new number are either fails s other known is_other =
    elim (either s known) [
      | inl same ↦ fails other (ap (slice_get p.rules) (sym same) ∙ is_other)
      | inr before_it ↦ are s other before_it is_other
    ]

-- the numbers up to one are below the next number
pub below_next : (numbers : List ℕ) → AllPairs (λ a b. a < b) numbers → (i d : ℕ) → i < length numbers → All (λ r. r < get_or numbers i d + 1) (take (i + 1) numbers)
below_next numbers ascending i d inside j e within =
    let early : j < i + 1 = omega (arith, within, length-take (i + 1) numbers) in
    let there : j < length numbers = omega arith in
    let at : get_or (take (i + 1) numbers) j e ≡ get_or numbers j d = get_or-take (i + 1) numbers j e early ∙ get_or_default numbers j e d there in
    elim (cases_lt j i) [
      | inl before ↦ (let less = ascending j i d before inside in omega (arith, at, less))
      | inr not_before ↦ (let same : j ≡ i = omega arith in omega (arith, at, ap (λ m. get_or numbers m d) same))
    ]

module _ (p : Program) (valid : IsValid p) (rs : List Reading) (n : NodeId) (f : ℕ) (numbers : List ℕ) (are : AreRulesOf p.rules f numbers) where
  -- the next rule of the symbol is lost, and so are those before it, which have other symbols or were passed
  lost_next : (k : Lost) (i d count : ℕ) → HasSymbolRead rs n f → AreLost p.rules rs n k → All (λ r. r < k.below) (take i numbers) → i < length numbers → IsNumberFound p rs n (get_or numbers i d) found.Lost
      → AreLost p.rules rs n (record { below = get_or numbers i d + 1; count = count; marks = k.marks })
  lost_next k i d count has lost passed inside fails s other (inr marked) is_other = lost s other (inr marked) is_other
  lost_next k i d count has lost passed inside fails s other (inl below) is_other =
      elim (cases_lt s (get_or numbers i d)) [
        | inl earlier ↦ elim (symbol_or_fails p valid rs n f has s other is_other) [
          | inl symbol ↦ lost s other (inl (before p f rs n numbers are (λ r. r < k.below) i d inside passed s other earlier is_other symbol)) is_other
          | inr other_fails ↦ inl other_fails
        ]
        | inr not_earlier ↦ (let same_number : get_or numbers i d ≡ s = omega (arith, below) in fails other (ap (slice_get p.rules) same_number ∙ is_other))
      ]

  -- one more rule is No
  none_next : (i d : ℕ) → i < length numbers → All (IsNumberNo p rs n) (take i numbers) → IsNumberNo p rs n (get_or numbers i d) → All (IsNumberNo p rs n) (take (i + 1) numbers)
  none_next i d inside none fails = All-more (IsNumberNo p rs n) numbers i d inside none fails

  pub swept_passed : (k new : Lost) (passing : Bool) (i d count : ℕ) → HasSymbolRead rs n f → IsSwept p rs n numbers k passing i → passing ≡ true → i < length numbers → IsNumberFound p rs n (get_or numbers i d) found.Lost
      → new ≡ record k { below = get_or numbers i d + 1; count = count } → IsSwept p rs n numbers new passing (i + 1)
  swept_passed k new passing i d count has so is inside fails changed = record {
    lost = subst (AreLost p.rules rs n) (sym changed) (lost_next k i d count has so.lost (so.passed is) inside fails);
    none = none_next i d inside so.none (λ rule at. lost_no p.wide rs n rule (fails rule at));
    passed = λ e. subst (λ b. All (λ r. r < b) (take (i + 1) numbers)) (sym (ap (λ l. l.below) changed)) (below_next numbers are.ascending i d inside);
  }

  pub swept_lost : (k : Lost) (passing : Bool) (i d : ℕ) → IsSwept p rs n numbers k passing i → passing ≡ false → i < length numbers → IsNumberFound p rs n (get_or numbers i d) found.Lost → IsSwept p rs n numbers k passing (i + 1)
  swept_lost k passing i d so is inside fails = record {
    lost = so.lost;
    none = none_next i d inside so.none (λ rule at. lost_no p.wide rs n rule (fails rule at));
    passed = λ e. let clash : false ≡ true = sym is ∙ e in cc;
  }

  pub swept_no : (k : Lost) (passing : Bool) (i d : ℕ) → IsSwept p rs n numbers k passing i → i < length numbers → IsNumberFound p rs n (get_or numbers i d) found.No → IsSwept p rs n numbers k false (i + 1)
  swept_no k passing i d so inside fails = record {
    lost = so.lost;
    none = none_next i d inside so.none fails;
    passed = λ e. cc;
  }

  -- the groups rise, so a rule behind the first one is of its group where it is of no later one
  pub same_group : (first r : ℕ) (a b : Rule) → slice_get p.rules first ≡ Some a → slice_get p.rules r ≡ Some b → first < r → b.group ≤ a.group → b.group ≡ a.group
  same_group first r a b is_a is_b behind no_later = elim (cases_lt b.group a.group) [
    | inl earlier ↦ absurd (omega (arith, rises p valid rs n r first b a is_b is_a earlier, behind))
    | inr not_earlier ↦ omega (arith, not_earlier, no_later)
  ]

  -- behind a rule of a later group there is none of the group
  pub no_more : (group i d : ℕ) (rule : Rule) → i < length numbers → slice_get p.rules (get_or numbers i d) ≡ Some rule → group < rule.group → All (IsNotYes p group rs n) (take i numbers) → All (IsNotYes p group rs n) numbers
  no_more group i d rule inside is later all j e within other is_other same holds =
      elim (cases_lt j i) [
        | inl before_i ↦ (
            let there : j < length (take i numbers) = omega (arith, length-take i numbers) in
            let at : get_or (take i numbers) j e ≡ get_or numbers j e = get_or-take i numbers j e before_i in
            subst (IsNotYes p group rs n) at (all j e there) other is_other same holds)
        | inr from_i ↦ elim (cases_lt i j) [
          | inl behind ↦ (
              let ascends : get_or numbers i d < get_or numbers j d = are.ascending i j d behind within in
              let number : get_or numbers j d ≡ get_or numbers j e = get_or_default numbers j d e within in
              let there : get_or numbers j e < length p.rules = slice_get_within p.rules (get_or numbers j e) other is_other in
              let rises = valid.groups (get_or numbers i d) (get_or numbers j e) rule (omega (arith, ascends, number)) there in
              let first : (get_or p.rules (get_or numbers i d) rule).group ≡ rule.group = ap (λ x. x.group) (get_or_from_slice_get p.rules (get_or numbers i d) rule rule is) in
              let second : (get_or p.rules (get_or numbers j e) rule).group ≡ other.group = ap (λ x. x.group) (get_or_from_slice_get p.rules (get_or numbers j e) other rule is_other) in
              absurd (omega (arith, rises, first, second, same, later)))
          | inr not_behind ↦ (
              let place : j ≡ i = omega arith in
              let number : get_or numbers i d ≡ get_or numbers j e = ap (λ m. get_or numbers m d) (sym place) ∙ get_or_default numbers j d e within in
              let one : rule ≡ other = same_rule p.rules (get_or numbers j e) rule other (ap (slice_get p.rules) (sym number) ∙ is) is_other in
              absurd (omega (arith, ap (λ x. x.group) one, same, later)))
        ]
      ]
