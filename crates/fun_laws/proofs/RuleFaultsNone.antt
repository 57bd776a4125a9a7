-- The rules of a translation have no faults.
use Rattle.std.proofs.Common.{◌≡◌, ℕ, Bool, true, false, not, ◌&&◌, ◌||◌, List, [], ◌++◌, map, length, refl, ap, nat_lt}
use Rattle.std.specs.List.{AllByRecursion, filter}
use Rattle.dactl_base.specs.declared.refusal.Kind.TheVariants as kinds
use Rattle.dactl_base.specs.declared.refusal.Refusal.{Refusal}
use Rattle.dactl_model.specs.declared.program.Class.TheVariants as classes
use Rattle.dactl_model.specs.Binders.{head}
use Rattle.dactl_meaning.specs.declared.tree.Name.{Name}
use Rattle.dactl_meaning.specs.declared.tree.PatternTree.{PatternTree}
use Rattle.dactl_meaning.specs.declared.tree.RuleTree.{RuleTree}
use Rattle.dactl_meaning.specs.declared.tree.Text.{Text}
use Rattle.dactl_meaning.specs.Sight.{sees, class_for}
use Rattle.dactl_meaning.specs.Expansion.{Occurrence, occurrences, variables_of, pattern_nodes, rule_expansion, pattern_expansion}
use Rattle.dactl_meaning.specs.Contractum.{term_of_part}
use Rattle.dactl_meaning.specs.RuleFaults.{again, place_of, binders_in_choice, named_twice_in_pattern, widths, wide_in_pattern, at_if, is_too_wide, each_at, contractum_faults, pattern_faults, left_faults, head_is, is_class, root_not_rewritable, rule_faults, suspendable}
use Rattle.fun_laws.proofs.PatternFaults.{IsBare}
use Rattle.fun_laws.proofs.Lists.{filter_none}
use Rattle.fun_meaning.proofs.Zips.{each_weaken}

-- what a pattern must have
pub record IsFine (text : Text) (tree : PatternTree) : Type 0 where
  pub choice : AllByRecursion (λ (o : Occurrence). o.in_choice ≡ false) (occurrences tree)
  pub once : again [] (map (λ (o : Occurrence). o.name) (filter (λ (o : Occurrence). o.given) (occurrences tree))) ≡ []
  pub thin : AllByRecursion (λ (w : Name × ℕ). nat_lt 16 w.1 ≡ false) (widths tree)
  pub nodes : nat_lt 64 (pattern_nodes (pattern_expansion text 0 tree)) ≡ false
  pub variables : nat_lt 64 (length (variables_of tree)) ≡ false

-- a pattern whose variables are bare gives none twice
pub bare_once : (os : List Occurrence) → AllByRecursion IsBare os → again [] (map (λ (o : Occurrence). o.name) (filter (λ (o : Occurrence). o.given) os)) ≡ []
bare_once os all = ap (λ (xs : List Occurrence). again [] (map (λ (o : Occurrence). o.name) xs)) (filter_none (λ (o : Occurrence). o.given) os (each_weaken IsBare (λ (o : Occurrence). o.given ≡ false) (λ o is. is.given) os all))

pub bare_choice : (os : List Occurrence) → AllByRecursion IsBare os → AllByRecursion (λ (o : Occurrence). o.in_choice ≡ false) os
bare_choice os all = each_weaken IsBare (λ (o : Occurrence). o.in_choice ≡ false) (λ o is. is.choice) os all

four_none : (a b c d : List ℕ) → a ≡ [] → b ≡ [] → c ≡ [] → d ≡ [] → each_at kinds.BinderInChoice a ++ each_at kinds.TooWide b ++ each_at kinds.TooWide c ++ each_at kinds.NamedTwice d ≡ []
four_none a b c d one two three four = rw (one, two, three, four) refl

wide_none : (a b : Bool) → a ≡ false → b ≡ false → (place : ℕ) → at_if (a || (not false && b)) place ≡ []
wide_none a b one two place = rw (one, two) refl

pub no_pattern_faults : (text : Text) (place : ℕ) (tree : PatternTree) → IsFine text tree → pattern_faults text 0 false place tree ≡ []
no_pattern_faults text place tree is =
    four_none (binders_in_choice false tree) (wide_in_pattern tree) (at_if (is_too_wide false (pattern_expansion text 0 tree) tree) place) (named_twice_in_pattern tree)
    (ap (λ (os : List Occurrence). map (λ (o : Occurrence). place_of o.name) os) (filter_none (λ (o : Occurrence). false || o.in_choice) (occurrences tree) is.choice))
    (ap (λ (ws : List (Name × ℕ)). map (λ (w : Name × ℕ). place_of w.0) ws) (filter_none (λ (w : Name × ℕ). nat_lt 16 w.1) (widths tree) is.thin))
    (wide_none (nat_lt 64 (pattern_nodes (pattern_expansion text 0 tree))) (nat_lt 64 (length (variables_of tree))) is.nodes is.variables place)
    (ap (map place_of) is.once)

three_parts : (a b c d : List Refusal) → a ≡ [] → b ≡ [] → c ≡ [] → d ≡ [] → a ++ b ++ c ++ d ≡ []
three_parts a b c d one two three four = rw (one, two, three, four) refl

-- a rule without redirections of variables
pub no_rule_faults : (text : Text) (r : RuleTree)
    → head_is (λ f. is_class classes.Rewritable (class_for text 0 f)) (head (rule_expansion text 0 r.pattern)) ≡ true → IsFine text r.pattern
    → contractum_faults (sees text 0) (variables_of r.pattern) (suspendable r) (map term_of_part r.parts) ≡ [] → left_faults text 0 r ≡ [] → rule_faults text 0 r ≡ []
no_rule_faults text r root fine contractum left =
    three_parts (each_at kinds.RootNotRewritable (root_not_rewritable (λ f. is_class classes.Rewritable (class_for text 0 f)) (rule_expansion text 0 r.pattern) r)) (pattern_faults text 0 false r.place.byte r.pattern)
    (contractum_faults (sees text 0) (variables_of r.pattern) (suspendable r) (map term_of_part r.parts)) (left_faults text 0 r)
    (ap (λ b. each_at kinds.RootNotRewritable (at_if (not b) r.place.byte)) root) (no_pattern_faults text r.place.byte r.pattern fine) contractum left
