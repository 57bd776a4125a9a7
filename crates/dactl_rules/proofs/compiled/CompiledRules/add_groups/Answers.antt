use Rattle.std.proofs.Common.{subst}
use Rattle.std.proofs.lemmas.List.{take_all}
use Rattle.dactl_rules.specs.RuleLists.{AddsGroups, placed_groups}
use Rattle.dactl_rules.proofs.RuleLists.{groups_more}
use Rattle.dactl_rules.proofs.compiled.CompiledRules.add_groups.Goals as goal

pub loop-group-preserved : goal.loop-group-preserved
loop-group-preserved c =
    groups_more c.args.patterns.now.text.now c.args.owner c.args.groups.now c.loop-group.group-index c.group-item.result c.args.self.now c.loop-group.self c.add_group.new.self c.loop-group-test.true c.group-item.is c.loop-group.invariant c.in_ok-add_group.ensures

pub returns : goal.returns
returns c = subst (λ l. AddsGroups c.args.patterns.now.text.now (placed_groups c.args.owner l) c.args.self.now c.loop-group.self) (take_all c.loop-group.group-index c.args.groups.now c.loop-group-test.false) c.loop-group.invariant
