use Rattle.std.proofs.Common.{take}
use Rattle.dactl_rules.specs.RuleLists.{AddsGroups, placed_groups}
use Rattle.dactl_rules.proofs.compiled.CompiledRules.add_groups.Given as goal

abbrev pub invariant-loop-group : goal.invariant-loop-group
invariant-loop-group l = AddsGroups l.patterns.text.now (placed_groups l.owner (take l.group-index l.groups)) l.initial.self l.self
