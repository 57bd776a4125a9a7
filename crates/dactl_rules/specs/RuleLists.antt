-- Rules that are added one after another, and the first of their faults.
use Rattle.std.specs.Prelude.{◌≡◌, ℕ, ◌+◌, List, ◌++◌, map, length, All, Contains, Option, None}
use Rattle.std.specs.List.{flat_map}
use Rattle.dactl_base.specs.declared.refusal.Refusal.{Refusal}
use Rattle.dactl_model.specs.declared.program.Rule.{Rule}
use Rattle.dactl_meaning.specs.declared.tree.TermTree.{TermTree}
use Rattle.dactl_meaning.specs.declared.tree.RuleTree.{RuleTree}
use Rattle.dactl_meaning.specs.declared.tree.Group.{Group}
use Rattle.dactl_meaning.specs.declared.tree.Text.{Text}
use Rattle.dactl_meaning.specs.Declarations.{Placed, PlacedGroup, item_groups}
use Rattle.dactl_meaning.specs.Contractum.{term_of_part}
use Rattle.dactl_meaning.specs.Meaning.{rules_from}
use Rattle.dactl_meaning.specs.RuleFaults.{rule_faults}
use Rattle.dactl_symbols.specs.Least.{sooner, TellsLeast}
use Rattle.dactl_rules.specs.declared.compiled.CompiledRules.{CompiledRules}
use Rattle.dactl_validity.specs.Counting.{AreCountable}

-- the terms of a rule's right side
abbrev pub terms_of : RuleTree → List TermTree
terms_of tree = map term_of_part tree.parts

-- to what was there these faults, rules, contracta and so many groups are added. Where there is no fault among them, the rules are there, and their contracta can be counted
pub record Adds (faults : List Refusal) (rules : List Rule) (contracta : List (List TermTree)) (groups : ℕ) (old new : CompiledRules) : Type 0 where
  pub least : Option Refusal
  pub tells : TellsLeast (Contains faults) least
  pub fault : new.fault ≡ sooner old.fault least
  pub added : least ≡ None → new.rules.items ≡ old.rules.items ++ rules
  pub counted : least ≡ None → All AreCountable contracta
  pub next : new.group ≡ old.group + groups

-- the groups of a module
abbrev pub placed_groups : ℕ → List Group → List PlacedGroup
placed_groups owner groups = map (λ g. record { owner = owner; group = g }) groups

-- the groups of an item
abbrev pub groups_in : Placed → List PlacedGroup
groups_in i = item_groups i.owner i.item

-- the faults of groups, and the contracta of their rules
abbrev pub faults_in : Text → List PlacedGroup → List Refusal
faults_in text groups = flat_map (λ g. flat_map (rule_faults text g.owner) g.group.rules) groups

abbrev pub contracta_in : List PlacedGroup → List (List TermTree)
contracta_in groups = flat_map (λ g. map terms_of g.group.rules) groups

-- groups are added
abbrev pub AddsGroups : Text → List PlacedGroup → CompiledRules → CompiledRules → Type 0
AddsGroups text groups old new = Adds (faults_in text groups) (rules_from text old.group groups) (contracta_in groups) (length groups) old new

-- these are the rules of the groups, the first of which has the number 5, or their first fault
pub record HasRules (text : Text) (groups : List PlacedGroup) (r : CompiledRules) : Type 0 where
  pub tells : TellsLeast (Contains (faults_in text groups)) r.fault
  pub rules : r.fault ≡ None → r.rules.items ≡ rules_from text 5 groups
  pub counted : r.fault ≡ None → All AreCountable (contracta_in groups)
  pub next : r.group ≡ 5 + length groups
