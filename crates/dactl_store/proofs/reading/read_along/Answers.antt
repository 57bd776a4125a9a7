use Rattle.std.proofs.Common.{length-set, ◌∙◌, arith}
use Rattle.dactl_store.proofs.Targets.{targets_more}
use Rattle.dactl_store.proofs.Versions.{greatest_more}
use Rattle.dactl_store.proofs.reading.read_along.Goals as goal

pub loop-place-preserved : goal.loop-place-preserved
loop-place-preserved c = record {
  targets = targets_more c.args.arcs.now.arcs c.args.node.span.first c.loop-place.place c.loop-place.targets.1.0 c.arc_and_change-change.result.0 (omega arith) (omega arith) c.arc_and_change-change.ensures.arc c.loop-place.invariant.targets;
  count = c.loop-place.invariant.count;
  long = length-set c.loop-place.targets.1.0 c.loop-place.place _ ∙ c.loop-place.invariant.long;
  version = c.max-version.ensures
      ∙ greatest_more c.args.node.version c.args.node.span.first c.loop-place.place c.arc_and_change-change.result.1 c.loop-place.version c.args.arcs.now.changed c.arc_and_change-change.ensures.changed c.loop-place.invariant.version;
}
