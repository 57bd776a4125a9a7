use Rattle.std.proofs.Common.{map, take}
use Rattle.std.specs.List.{flat_map}
use Rattle.dactl_meaning.specs.Meaning.{rule_of}
use Rattle.dactl_meaning.specs.RuleFaults.{rule_faults}
use Rattle.dactl_rules.specs.RuleLists.{Adds, terms_of}
use Rattle.dactl_rules.proofs.compiled.CompiledRules.add_rules.Given as goal

abbrev pub invariant-loop-tree : goal.invariant-loop-tree
invariant-loop-tree l = Adds (flat_map (rule_faults l.patterns.text.now l.owner) (take l.tree-index l.rules)) (map (rule_of l.patterns.text.now l.owner l.initial.self.group) (take l.tree-index l.rules)) (map terms_of (take l.tree-index l.rules)) 0 l.initial.self l.self
