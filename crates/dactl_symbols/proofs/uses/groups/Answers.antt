use Rattle.std.proofs.Common.{ap, ◌∙◌}
use Rattle.dactl_symbols.specs.Least.{least_by}
use Rattle.std.specs.List.{flat_map}
use Rattle.dactl_meaning.specs.declared.tree.Group.{Group}
use Rattle.dactl_meaning.specs.Uses.{rule_uses}
use Rattle.dactl_symbols.specs.UseFaults.{use_fault}
use Rattle.dactl_symbols.proofs.Walks.{least_parts-more}
use Rattle.dactl_symbols.proofs.uses.groups.Goals as goal

pub loop-group-preserved : goal.loop-group-preserved
loop-group-preserved c = c.lesser-least.ensures ∙ least_parts-more (use_fault c.args.scopes.now c.args.owner) (λ (g : Group). flat_map rule_uses g.rules) c.args.groups.now c.loop-group.group-index c.group-item.result c.loop-group.least c.rules.result c.loop-group-test.true c.group-item.is c.loop-group.invariant (c.rules.ensures ∙ ap (λ l. least_by (use_fault c.args.scopes.now c.args.owner) (flat_map rule_uses l)) c.as_slice.ensures)
