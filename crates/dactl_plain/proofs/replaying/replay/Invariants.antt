use Rattle.dactl_plain.proofs.Replays.{IsReplayedTo}
use Rattle.dactl_plain.proofs.replaying.replay.Given as goal

-- the entries so far lead to the graph
abbrev pub invariant-loop-entry : goal.invariant-loop-entry
invariant-loop-entry l = IsReplayedTo l.program l.journal l.entry-index l.graph
