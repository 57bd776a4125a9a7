use Rattle.std.proofs.Common.{map, take}
use Rattle.std.specs.List.{flat_map}
use Rattle.dactl_contractum.specs.Listing.{placed}
use Rattle.dactl_rules.specs.RuleLists.{AddsGroups, groups_in}
use Rattle.dactl_rules.proofs.compiled.rules.Given as goal

abbrev pub invariant-loop-item : goal.invariant-loop-item
invariant-loop-item l = AddsGroups l.patterns.text.now (flat_map groups_in (map placed (take l.item-index l.items))) l.initial.compiled l.compiled
