use Rattle.std.proofs.Common.{sym, subst}
use Rattle.dactl_top.specs.Outcomes.{IsToRun}
use Rattle.dactl_top.proofs.steps.run.Goals as goal

pub returns-in-Err-Small-clause-comes : goal.returns-in-Err-Small-clause-comes
returns-in-Err-Small-clause-comes g c = λ input meant.
    let small = (rw c.in-Err-Small.field-0-is at c.in-Err-Small.ensures.err) in
    c.small.ensures.comes input (subst (IsToRun c.args.settings input) (sym small.0) meant)
