use Rattle.std.proofs.Common.{map, subst}
use Rattle.std.specs.List.{flat_map}
use Rattle.std.proofs.lemmas.List.{take_all}
use Rattle.dactl_meaning.specs.Meaning.{rule_of}
use Rattle.dactl_meaning.specs.RuleFaults.{rule_faults}
use Rattle.dactl_rules.specs.RuleLists.{Adds, terms_of}
use Rattle.dactl_rules.proofs.RuleLists.{rules_more}
use Rattle.dactl_rules.proofs.compiled.CompiledRules.add_rules.Goals as goal

pub loop-tree-preserved : goal.loop-tree-preserved
loop-tree-preserved c =
    rules_more c.args.patterns.now.text.now c.args.owner c.args.rules.now c.loop-tree.tree-index c.tree-item.result c.args.self.now c.loop-tree.self c.add_rule.new.self c.loop-tree-test.true c.tree-item.is c.loop-tree.invariant c.in_ok-add_rule.ensures

pub returns : goal.returns
returns c =
    subst (λ l. Adds (flat_map (rule_faults c.args.patterns.now.text.now c.args.owner) l) (map (rule_of c.args.patterns.now.text.now c.args.owner c.args.self.now.group) l) (map terms_of l) 0 c.args.self.now c.loop-tree.self)
    (take_all c.loop-tree.tree-index c.args.rules.now c.loop-tree-test.false) c.loop-tree.invariant
