-- The faults of a rule, by what is read of it.
use Rattle.std.specs.Prelude.{◌≡◌, ℕ, ◌≤◌, not, List, [], ◌++◌, map, All, Option, Some, unwrap_or, length, if◌then◌else◌}
use Rattle.std.specs.List.{filter, filter_map, flat_map}
use Rattle.std.specs.Borrow.{Bor}
use Rattle.dactl_base.specs.declared.refusal.Kind.TheVariants as kinds
use Rattle.dactl_base.specs.declared.refusal.Place.{Place}
use Rattle.dactl_base.specs.declared.refusal.Refusal.{Refusal}
use Rattle.dactl_base.specs.declared.refusal.TextFault.{TextFault}
use Rattle.dactl_base.specs.declared.refusal.TextFault.TheVariants as fault
use Rattle.dactl_model.specs.declared.program.Class.TheVariants as classes
use Rattle.dactl_model.specs.declared.program.Pat.{Pat}
use Rattle.dactl_model.specs.declared.program.Body.TheVariants.{Written}
use Rattle.dactl_model.specs.declared.program.Rule.{Rule}
use Rattle.dactl_meaning.specs.declared.tree.Name.{Name}
use Rattle.dactl_meaning.specs.declared.tree.RuleTree.{RuleTree}
use Rattle.dactl_meaning.specs.Expansion.{is_among}
use Rattle.dactl_meaning.specs.Contractum.{moves_of, asked_by}
use Rattle.dactl_meaning.specs.RuleFaults.{each_at, again, place_of, head_is, is_class}
use Rattle.dactl_symbols.specs.Sights.{Sights}
use Rattle.dactl_symbols.specs.Scoping.{seen_in, class_in}
use Rattle.dactl_rules.specs.declared.reading.RuleParts.{RuleParts}
use Rattle.dactl_contractum.specs.Drawing.{made_in, mentioned_in}
use Rattle.dactl_contractum.specs.Lefts.{words, left_unbound, left_fixed}
use Rattle.dactl_contractum.specs.Meant.{nodes_with, wake_of}
use Rattle.dactl_contractum.specs.Told.{fault_at, symbol_at, suspensions_in, drawn_faults}

-- the faults for which the expansion of the pattern is not needed, apart from those of the pattern
abbrev pub early_faults : Sights → ℕ → RuleTree → RuleParts → List Refusal
early_faults s m tree r =
    fault_at (not (head_is (λ f. is_class classes.Rewritable (class_in s m f)) r.head)) kinds.RootNotRewritable tree.place
    ++ drawn_faults (seen_in s m) r.variables r.suspendable (made_in r.contractum.drawing) (mentioned_in r.contractum.drawing)
    ++ flat_map (left_unbound r.variables) (words r.lefts.items)
    ++ each_at kinds.RedirectedTwice (map place_of (again (if tree.redirects then r.roots else []) (filter (λ n. is_among r.variables n.text) (words r.lefts.items))))

-- an answer where this is the least fault but for those of left sides, which don't stand before the place
abbrev pub IsAnswerFor : Option Refusal → List (Bor Name) → Place → TextFault → Type 0
IsAnswerFor least lefts place fault.Memory = Unit {0}
IsAnswerFor least lefts place (fault.Refused r) = (least ≡ Some r) × All (λ n. place.byte ≤ place_of n.now) lefts

-- the left sides of variables whose nodes are not over-writable
abbrev pub fixed_faults : Sights → ℕ → RuleParts → Pat → List Refusal
fixed_faults s m r pattern = flat_map (left_fixed (λ f. is_class classes.Overwritable (class_in s m f)) r.variables r.roots pattern) (words r.lefts.items)

-- the numbers of the symbols that module m sees under the names of the new nodes
abbrev pub symbols_of : Sights → ℕ → RuleParts → List ℕ
symbols_of s m r = map (symbol_at (seen_in s m)) (made_in r.contractum.drawing)

-- what a rule without faults means, by what is read of it, those numbers and the expansion of its pattern
abbrev pub meant_of : List ℕ → ℕ → RuleTree → RuleParts → Pat → Rule
meant_of symbols group tree r pattern =
    let made = made_in r.contractum.drawing in
    record {
      symbol = unwrap_or r.head 0;
      group = group;
      variables = length r.variables;
      pattern = pattern;
      body =
          Written (nodes_with r.variables made made symbols) (moves_of r.variables tree.redirects tree.parts) (filter_map (wake_of r.variables) (mentioned_in r.contractum.drawing))
          (asked_by (suspensions_in r.suspendable (mentioned_in r.contractum.drawing)));
    }
