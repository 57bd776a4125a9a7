use Rattle.dactl_syntax.specs.Canonical.{group_text}
use Rattle.dactl_syntax.proofs.Written.{step_more}
use Rattle.dactl_syntax.proofs.write_items.groups.Goals as goal

pub loop-one-preserved : goal.loop-one-preserved
loop-one-preserved c = step_more group_text c.args.groups.now c.loop-one.one-index c.one-item.result c.args.out.now.items c.loop-one.out.items c.group.new.out.items c.loop-one-test.true c.loop-one.invariant c.one-item.is c.in_ok-group.ensures
