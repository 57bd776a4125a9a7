use Rattle.std.proofs.Common.{◌≡◌, length}
use Rattle.fun_syntax.specs.Faults.{twice_faults, with_pieces}
use Rattle.fun_syntax.specs.Least.{sooner, least}
use Rattle.fun_syntax.specs.Words.{found_in}
use Rattle.fun_syntax.proofs.variables.twice_fault.Given as goal

abbrev pub invariant-more : goal.invariant-more
invariant-more l = record {
  fault : sooner l.told (least (twice_faults (found_in l.bound) l.rest)) ≡ least (twice_faults (found_in l.initial.bound) l.pieces);
  bound : with_pieces (found_in l.bound) l.rest ≡ with_pieces (found_in l.initial.bound) l.pieces;
}

abbrev pub decreases-more : goal.decreases-more
decreases-more l = length l.rest
