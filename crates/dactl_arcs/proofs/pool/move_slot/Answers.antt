use Rattle.std.proofs.Common.{◌≡◌, arith}
use Rattle.std.proofs.lemmas.Bool.Decides.{nat_tests}
use Rattle.dactl_arcs.proofs.Moving.{sent_nowhere}
use Rattle.dactl_arcs.proofs.pool.move_slot.Goals as goal

pub returns-else-from-to-clause-arcs : goal.returns-else-from-to-clause-arcs
returns-else-from-to-clause-arcs c =
    let same : c.args.from ≡ c.args.to = grind (arith, nat_tests, c.if-from-to.false) in
    sent_nowhere c.args.from c.args.to c.args.lists.now.arcs same
