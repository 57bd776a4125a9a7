use Rattle.dactl_syntax.specs.Canonical.{module_text}
use Rattle.dactl_syntax.proofs.Written.{step_more}
use Rattle.dactl_syntax.proofs.write_items.modules.Goals as goal

pub loop-one-preserved : goal.loop-one-preserved
loop-one-preserved c = step_more module_text c.args.modules.now c.loop-one.one-index c.one-item.result c.args.out.now.items c.loop-one.out.items c.module.new.out.items c.loop-one-test.true c.loop-one.invariant c.one-item.is c.in_ok-module.ensures
