use Rattle.std.proofs.Common.{take}
use Rattle.dactl_arcs.proofs.StampedSlots.{AreStampedSoFar}
use Rattle.dactl_arcs.proofs.moves.stamp_slots.Given as goal

-- the slots of the pairs so far have the stamp, unless they are sent to themselves
abbrev pub invariant-loop-pair : goal.invariant-loop-pair
invariant-loop-pair l = AreStampedSoFar l.moves (take l.pair-index l.moves) l.stamp l.initial.slots l.slots
