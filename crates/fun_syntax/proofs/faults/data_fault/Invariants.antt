use Rattle.std.proofs.Common.{◌≡◌, length}
use Rattle.fun_syntax.specs.Faults.{most_names, data_faults}
use Rattle.fun_syntax.specs.Least.{sooner, least}
use Rattle.fun_syntax.specs.Roles.{with_constructors}
use Rattle.fun_syntax.specs.Words.{found_in}
use Rattle.fun_syntax.proofs.faults.data_fault.Given as goal

abbrev pub invariant-more : goal.invariant-more
invariant-more l = record {
  fault : sooner l.told (least (data_faults (found_in l.roles) l.room l.rest)) ≡ least (data_faults (found_in l.initial.roles) most_names l.names);
  roles : with_constructors (found_in l.roles) l.rest ≡ with_constructors (found_in l.initial.roles) l.names;
}

abbrev pub decreases-more : goal.decreases-more
decreases-more l = length l.rest
