use Rattle.dactl_syntax.specs.Canonical.{arg_text}
use Rattle.dactl_syntax.proofs.Written.{step_more}
use Rattle.dactl_syntax.proofs.write_terms.+write_terms.Goals as goal

pub arg_list-loop-item-preserved : goal.arg_list-loop-item-preserved
arg_list-loop-item-preserved t c = step_more arg_text c.args.args.now c.loop-item.item-index c.item-item.result c.args.out.now.items c.loop-item.out.items c.arg.new.out.items c.loop-item-test.true c.loop-item.invariant c.item-item.is c.in_ok-arg.ensures
