use Rattle.std.proofs.Common.{inr, sym, subst}
use Rattle.dactl_workers.specs.Turns.{IsKnownWith}
use Rattle.dactl_workers.proofs.Known.{contained, known_step, known_same}
use Rattle.dactl_workers.proofs.knowing.known_with_last.Goals as goal

pub returns-in-Some : goal.returns-in-Some
returns-in-Some c = subst (IsKnownWith c.args.known c.args.nodes.now) (sym c.known_with.ensures)
    (known_step c.args.known c.args.nodes.now c.args.known c.in-Some.node.now (known_same c.args.known c.args.nodes.now) (contained c.args.nodes.now _ c.in-Some.node.now (sym c.in-Some.ensures.value)))
