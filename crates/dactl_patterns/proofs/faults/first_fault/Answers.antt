use Rattle.std.proofs.Common.{Some, sym, ap, ◌∙◌, subst}
use Rattle.std.specs.Prelude.{Contains}
use Rattle.dactl_symbols.specs.Least.{least_by, TellsLeast}
use Rattle.dactl_patterns.specs.TreeFaults.{faults_found}
use Rattle.dactl_patterns.proofs.Told.{tells_list}
use Rattle.dactl_patterns.proofs.faults.first_fault.Goals as goal

pub returns : goal.returns
returns c =
    let faults = faults_found c.args.large c.args.named c.args.place c.args.found.now in
    subst (TellsLeast (Contains faults)) (sym (c.first_of.ensures ∙ ap (least_by Some) (c.as_slice.ensures.value ∙ c.in_ok-faults.ensures))) (tells_list faults)
