-- Deciders may be lent to other threads.
use denote.Param.Send.{IsSync, sendable}
use Rattle.std.proofs.Crossing.{crosses}
use Rattle.dactl_decide.specs.contracts.compiling.Deciders as deciders
use Rattle.dactl_model.proofs.program.Pat.TheLaws.TheKnot as pattern

pub deciders_sync : IsSync deciders.the_row
deciders_sync = search (crosses, pattern.crosses, sendable) depth 60 fits 20000
