use Rattle.std.proofs.Common.{subst}
use Rattle.dactl_meaning.specs.ScopeFaults.{ScopeFault}
use Rattle.dactl_symbols.specs.Least.{TellsLeast}
use Rattle.dactl_symbols.proofs.Whole.{tells-all, scopes-all}
use Rattle.dactl_symbols.proofs.scoping.scope.Goals as goal

pub returns-in-Some-clause-faults : goal.returns-in-Some-clause-faults
returns-in-Some-clause-faults c = subst (TellsLeast (ScopeFault c.args.text.now)) c.in-Some.is
    (tells-all c.args.text.now c.in_ok-survey.survey
    c.in_ok-scopes.scopes c.in_ok-names.names c.as_slice.result.now c.as_slice-5.result.now c.in_ok-survey.ensures c.in_ok-names.ensures c.in_ok-scopes.ensures.names c.as_slice.ensures.value c.as_slice-5.ensures.value c.in_ok-scopes.ensures.links
    c.as_slice-2.result.now c.as_slice-3.result.now c.as_slice-4.result.now c.flat_fault-flat.result c.first_use_fault.result c.lesser.result c.as_slice-2.ensures.value c.as_slice-3.ensures.value c.as_slice-4.ensures.value c.flat_fault-flat.ensures c.first_use_fault.ensures c.lesser.ensures)

pub returns-clause-faults : goal.returns-clause-faults
returns-clause-faults c = subst (TellsLeast (ScopeFault c.args.text.now)) c.in-None.is
    (tells-all c.args.text.now c.in_ok-survey.survey
    c.in_ok-scopes.scopes c.in_ok-names.names c.as_slice.result.now c.as_slice-5.result.now c.in_ok-survey.ensures c.in_ok-names.ensures c.in_ok-scopes.ensures.names c.as_slice.ensures.value c.as_slice-5.ensures.value c.in_ok-scopes.ensures.links
    c.as_slice-2.result.now c.as_slice-3.result.now c.as_slice-4.result.now c.flat_fault-flat.result c.first_use_fault.result c.lesser.result c.as_slice-2.ensures.value c.as_slice-3.ensures.value c.as_slice-4.ensures.value c.flat_fault-flat.ensures c.first_use_fault.ensures c.lesser.ensures)

pub returns-clause-scopes : goal.returns-clause-scopes
returns-clause-scopes c = scopes-all c.args.text.now c.in_ok-survey.survey
    c.in_ok-scopes.scopes c.in_ok-names.names c.as_slice.result.now c.as_slice-5.result.now c.in_ok-survey.ensures c.in_ok-names.ensures c.in_ok-scopes.ensures.names c.as_slice.ensures.value c.as_slice-5.ensures.value c.in_ok-scopes.ensures.links
    (subst (TellsLeast (ScopeFault c.args.text.now)) c.in-None.is
    (tells-all c.args.text.now c.in_ok-survey.survey
    c.in_ok-scopes.scopes c.in_ok-names.names c.as_slice.result.now c.as_slice-5.result.now c.in_ok-survey.ensures c.in_ok-names.ensures c.in_ok-scopes.ensures.names c.as_slice.ensures.value c.as_slice-5.ensures.value c.in_ok-scopes.ensures.links
    c.as_slice-2.result.now c.as_slice-3.result.now c.as_slice-4.result.now c.flat_fault-flat.result c.first_use_fault.result c.lesser.result c.as_slice-2.ensures.value c.as_slice-3.ensures.value c.as_slice-4.ensures.value c.flat_fault-flat.ensures c.first_use_fault.ensures c.lesser.ensures))
