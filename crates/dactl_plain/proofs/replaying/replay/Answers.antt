use Rattle.std.proofs.Common.{arith}
use Rattle.dactl_plain.proofs.Replays.{replayed_well_formed, replayed_more, replayed_none}
use Rattle.dactl_plain.proofs.replaying.replay.Goals as goal

pub step-requires-clause-graph : goal.step-requires-clause-graph
step-requires-clause-graph c = replayed_well_formed _ _ _ _ c.requires c.loop-entry.invariant

pub returns-in-None : goal.returns-in-None
returns-in-None c =
    let none = rw c.in-None.is at c.in_ok-after.ensures in
    replayed_none c.args.program.now c.args.journal.now c.loop-entry.entry-index _ c.loop-entry.graph c.requires (omega arith) c.loop-entry.invariant none

pub loop-entry-preserved : goal.loop-entry-preserved
loop-entry-preserved c =
    let step = rw c.in-Some.is at c.in_ok-after.ensures in
    replayed_more c.args.program.now c.args.journal.now c.loop-entry.entry-index _ c.loop-entry.graph _ (omega arith) c.loop-entry.invariant step
