use Rattle.std.proofs.Common.{◌≡◌, take}
use Rattle.fun_syntax.specs.Faults.{unbound_faults}
use Rattle.fun_syntax.specs.Least.{least}
use Rattle.fun_syntax.specs.Words.{found_in}
use Rattle.fun_syntax.proofs.variables.unbound_fault.Given as goal

abbrev pub invariant-loop-piece : goal.invariant-loop-piece
invariant-loop-piece l = l.told ≡ least (unbound_faults (found_in l.bound) (take l.piece-index l.pieces))
