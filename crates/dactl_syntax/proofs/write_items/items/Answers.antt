use Rattle.dactl_syntax.specs.Canonical.{item_text}
use Rattle.dactl_syntax.proofs.Written.{step_more}
use Rattle.dactl_syntax.proofs.write_items.items.Goals as goal

pub loop-one-preserved : goal.loop-one-preserved
loop-one-preserved c = step_more item_text c.args.items.now c.loop-one.one-index c.one-item.result c.args.out.now.items c.loop-one.out.items c.item.new.out.items c.loop-one-test.true c.loop-one.invariant c.one-item.is c.in_ok-item.ensures
