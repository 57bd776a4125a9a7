use Rattle.std.proofs.Common.{sym}
use Rattle.std.proofs.lemmas.Result.{IfOk-weaker}
use Rattle.dactl_patterns.proofs.expanding.Expander.pattern.Goals as goal

pub returns-in-Some-clause-is : goal.returns-in-Some-clause-is
returns-in-Some-clause-is c =
    IfOk-weaker c.taken.result _ _ (λ r h named right. h (named c.args.«module» c.args.item) (right (c.args.«module», c.args.item) c.in-Some.known.now (sym c.in-Some.ensures.value))) c.taken.ensures.is
