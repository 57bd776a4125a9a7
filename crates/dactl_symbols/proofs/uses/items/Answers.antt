use Rattle.std.proofs.Common.{◌∙◌}
use Rattle.dactl_meaning.specs.Uses.{item_uses}
use Rattle.dactl_symbols.specs.UseFaults.{use_fault}
use Rattle.dactl_symbols.proofs.Walks.{least_parts-more}
use Rattle.dactl_symbols.proofs.uses.items.Goals as goal

pub loop-one-preserved : goal.loop-one-preserved
loop-one-preserved c = c.lesser-least.ensures ∙ least_parts-more (use_fault c.args.scopes.now c.args.owner) item_uses c.args.items.now c.loop-one.one-index c.one-item.result c.loop-one.least c.item.result c.loop-one-test.true c.one-item.is c.loop-one.invariant c.item.ensures
