use Rattle.std.proofs.Common.{◌≡◌, length}
use Rattle.fun_syntax.specs.Faults.{most_rules, head_faults}
use Rattle.fun_syntax.specs.Least.{sooner, least}
use Rattle.fun_syntax.specs.Roles.{with_functions}
use Rattle.fun_syntax.specs.Words.{found_in}
use Rattle.fun_syntax.proofs.faults.head_fault.Given as goal

abbrev pub invariant-more : goal.invariant-more
invariant-more l = record {
  fault : sooner l.told (least (head_faults (found_in l.roles) l.names l.rules l.rest)) ≡ least (head_faults (found_in l.initial.roles) l.room most_rules l.equations);
  roles : with_functions (found_in l.roles) l.rest ≡ with_functions (found_in l.initial.roles) l.equations;
}

abbrev pub decreases-more : goal.decreases-more
decreases-more l = length l.rest
