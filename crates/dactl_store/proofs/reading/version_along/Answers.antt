use Rattle.std.proofs.Common.{◌∙◌}
use Rattle.dactl_store.proofs.Versions.{greatest_more}
use Rattle.dactl_store.proofs.reading.version_along.Goals as goal

pub loop-place-preserved : goal.loop-place-preserved
loop-place-preserved c =
    c.max-version.ensures
    ∙ greatest_more c.args.node.version c.args.node.span.first c.loop-place.place c.changed.result c.loop-place.version c.args.arcs.now.changed c.changed.ensures c.loop-place.invariant
