use Rattle.std.proofs.Common.{All, take}
use Rattle.dactl_state.specs.Grown.{HasNotGrown}
use Rattle.dactl_state.proofs.state.first_grown.Given as goal

abbrev pub invariant-loop-reading : goal.invariant-loop-reading
invariant-loop-reading l = All (HasNotGrown l.store) (take l.reading-index l.readings)
