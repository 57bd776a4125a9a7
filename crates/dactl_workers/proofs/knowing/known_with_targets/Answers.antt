use Rattle.std.proofs.Common.{sym, subst}
use Rattle.std.proofs.lemmas.List.Elements.{Contains-get_or}
use Rattle.dactl_model.specs.Readings.{targets_of}
use Rattle.dactl_workers.specs.Turns.{IsKnownWith}
use Rattle.dactl_workers.proofs.Known.{known_step}
use Rattle.dactl_workers.proofs.knowing.known_with_targets.Goals as goal

pub loop-node-preserved : goal.loop-node-preserved
loop-node-preserved c = subst (IsKnownWith c.args.known (targets_of c.args.reading.now.targets)) (sym c.known_with-known.ensures)
    (known_step c.args.known (targets_of c.args.reading.now.targets) c.loop-node.known _ c.loop-node.invariant (Contains-get_or (targets_of c.args.reading.now.targets) c.loop-node.node-index _ c.loop-node-test.true))
