use Rattle.std.proofs.Common.{◌≡◌, drop}
use Rattle.dactl_arcs.specs.Moves.{moved_to}
use Rattle.dactl_arcs.proofs.moves.moved_number.Given as goal

-- none of the pairs so far begins with the number
abbrev pub invariant-loop-pair : goal.invariant-loop-pair
invariant-loop-pair l = moved_to l.moves l.number ≡ moved_to (drop l.pair-index l.moves) l.number
