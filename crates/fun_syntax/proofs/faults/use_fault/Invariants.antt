use Rattle.std.proofs.Common.{◌≡◌, take}
use Rattle.fun_syntax.specs.Faults.{use_faults}
use Rattle.fun_syntax.specs.Least.{least}
use Rattle.fun_syntax.specs.Words.{found_in}
use Rattle.fun_syntax.proofs.faults.use_fault.Given as goal

abbrev pub invariant-loop-piece : goal.invariant-loop-piece
invariant-loop-piece l = l.told ≡ least (use_faults (found_in l.roles) l.in_pattern (take l.piece-index l.pieces))
