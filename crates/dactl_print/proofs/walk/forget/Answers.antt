use Rattle.std.proofs.Common.{◌<◌, subst}
use Rattle.dactl_print.proofs.Numbers.{number_found}
use Rattle.dactl_print.proofs.walk.forget.Goals as goal

pub loop-node-init : goal.loop-node-init
loop-node-init c = λ n below numbered. number_found 1 c.args.order.now n (subst (λ k. 0 < k) (c.requires.numbers n below) numbered)
