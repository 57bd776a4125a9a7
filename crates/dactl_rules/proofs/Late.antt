-- Faults of rules are told after all others: each kind among them is of the last phase.
use Rattle.std.proofs.Common.{◌≡◌, ℕ, Bool, true, false, List, [], ◌∷◌, ◌++◌, map, All, Contains, Option, refl, ap}
use Rattle.std.specs.List.{flat_map}
use Rattle.std.proofs.lemmas.List.Elements.{All-append, All-contains, All-from_recursion}
use Rattle.dactl_base.specs.declared.refusal.Kind.{Kind}
use Rattle.dactl_base.specs.declared.refusal.Kind.TheVariants as kinds
use Rattle.dactl_base.specs.declared.refusal.Refusal.{Refusal}
use Rattle.dactl_model.specs.declared.program.Class.TheVariants as classes
use Rattle.dactl_meaning.specs.declared.tree.PatternTree.{PatternTree}
use Rattle.dactl_meaning.specs.declared.tree.TermTree.{TermTree}
use Rattle.dactl_meaning.specs.declared.tree.RuleTree.{RuleTree}
use Rattle.dactl_meaning.specs.declared.tree.Item.{Item}
use Rattle.dactl_meaning.specs.declared.tree.Item.TheVariants as item
use Rattle.dactl_meaning.specs.declared.tree.Text.{Text}
use Rattle.dactl_meaning.specs.Faults.{phase}
use Rattle.dactl_meaning.specs.Declarations.{items, rules}
use Rattle.dactl_meaning.specs.Sight.{Seen, sees, class_for}
use Rattle.dactl_meaning.specs.Expansion.{variables_of, rule_expansion, pattern_expansion}
use Rattle.dactl_meaning.specs.Contractum.{term_of_part}
use Rattle.dactl_meaning.specs.RuleFaults.{each_at, at_if, is_class, is_too_wide, binders_in_choice, wide_in_pattern, named_twice_in_pattern, wide_in_contractum, unbound_mentions, named_twice_in_contractum, not_creatable, marks_on_bound, suspended_again, too_many_waits, suspendable, unbound_lefts, redirected_twice, not_overwritable, root_not_rewritable, contractum_faults, pattern_faults, left_faults, rule_faults}
use Rattle.dactl_meaning.specs.Meaning.{named_faults, faults_of_rules, all_initials, CycleFault, RuleFault}

-- a fault of the rules
abbrev IsLate : Refusal → Type 0
IsLate r = phase r.kind ≡ 5

-- each of these is
record AreLate (faults : List Refusal) : Type 0 where
  pub each : All IsLate faults

none_late : AreLate []
none_late = record { each = All-from_recursion IsLate [] tt }

both : {xs ys : List Refusal} → AreLate xs → AreLate ys → AreLate (xs ++ ys)
both {xs} {ys} first second = record { each = All-append IsLate xs ys first.each second.each }

all_at : (k : Kind) (places : List ℕ) → phase k ≡ 5 → AreLate (each_at k places)
all_at k [] is = none_late
all_at k (p ∷ places) is = both {xs = each_at k (p ∷ [])} {ys = each_at k places} (record { each = All-from_recursion IsLate (each_at k (p ∷ [])) (is, tt) }) (all_at k places is)

all_flat : {A : Type 0} (f : A → List Refusal) → ((a : A) → AreLate (f a)) → (xs : List A) → AreLate (flat_map f xs)
all_flat f each [] = none_late
all_flat f each (x ∷ xs) = both {xs = f x} {ys = flat_map f xs} (each x) (all_flat f each xs)

contractum_late : (look : List ℕ → Option Seen) (variables roots : List (List ℕ)) (terms : List TermTree) → AreLate (contractum_faults look variables roots terms)
contractum_late look variables roots terms =
    both (both (both (both (both (both (all_at kinds.TooWide (wide_in_contractum terms) refl) (all_at kinds.Unbound (unbound_mentions variables terms) refl)) (all_at kinds.NamedTwice (named_twice_in_contractum variables terms) refl)) (all_at kinds.NotCreatable (not_creatable look terms) refl))
    (all_at kinds.MarkOnBound (marks_on_bound variables roots terms) refl))
    (all_at kinds.MarkOnBound (suspended_again roots terms) refl))
    (all_at kinds.TooManyWaits (too_many_waits terms) refl)

pattern_late : (t : Text) (m : ℕ) (named : Bool) (place : ℕ) (tree : PatternTree) → AreLate (pattern_faults t m named place tree)
pattern_late t m named place tree =
    both (both (both (all_at kinds.BinderInChoice (binders_in_choice named tree) refl) (all_at kinds.TooWide (wide_in_pattern tree) refl)) (all_at kinds.TooWide (at_if (is_too_wide named (pattern_expansion t m tree) tree) place) refl))
    (all_at kinds.NamedTwice (named_twice_in_pattern tree) refl)

left_late : (t : Text) (m : ℕ) (r : RuleTree) → AreLate (left_faults t m r)
left_late t m r =
    both (both (all_at kinds.Unbound (unbound_lefts r) refl) (all_at kinds.RedirectedTwice (redirected_twice r) refl))
    (all_at kinds.NotOverwritable (not_overwritable (λ f. is_class classes.Overwritable (class_for t m f)) (rule_expansion t m r.pattern) r) refl)

rule_late : (t : Text) (m : ℕ) (r : RuleTree) → AreLate (rule_faults t m r)
rule_late t m r =
    both
    (both (both (all_at kinds.RootNotRewritable (root_not_rewritable (λ f. is_class classes.Rewritable (class_for t m f)) (rule_expansion t m r.pattern) r) refl) (pattern_late t m false r.place.byte r.pattern)) (contractum_late (sees t m) (variables_of r.pattern) (suspendable r) (map term_of_part r.parts)))
    (left_late t m r)

item_late : (t : Text) (m : ℕ) (number : ℕ) (i : Item) → AreLate (named_faults t (record { owner = m; number = number; item = i }))
item_late t m number (item.Imports names) = none_late
item_late t m number (item.Symbols class public names) = none_late
item_late t m number (item.Named public name pattern) = pattern_late t m true name.place.byte pattern
item_late t m number (item.Rules groups) = none_late
item_late t m number (item.Initial place terms) = none_late

rules_late : (t : Text) → AreLate (faults_of_rules t)
rules_late t =
    both (both (all_flat (named_faults t) (λ i. item_late t i.owner i.number i.item) (items t)) (all_flat (λ r. rule_faults t r.owner r.rule) (λ r. rule_late t r.owner r.rule) (rules t)))
    (all_flat (λ i. contractum_faults (sees t i.owner) [] [] i.terms) (λ i. contractum_late (sees t i.owner) [] [] i.terms) (all_initials t))

pub rule_phase : (t : Text) (r : Refusal) → RuleFault t r → phase r.kind ≡ 5
rule_phase t r has = All-contains IsLate (faults_of_rules t) r (rules_late t).each has

pub cycle_phase : (t : Text) (r : Refusal) → CycleFault t r → phase r.kind ≡ 4
cycle_phase t r has = ap phase has.0

pub pattern_phase : (t : Text) (m : ℕ) (named : Bool) (place : ℕ) (tree : PatternTree) (r : Refusal) → Contains (pattern_faults t m named place tree) r → phase r.kind ≡ 5
pattern_phase t m named place tree r has = All-contains IsLate (pattern_faults t m named place tree) r (pattern_late t m named place tree).each has
