use Rattle.std.proofs.Common.{◌∙◌}
use Rattle.std.proofs.lemmas.Result.{IfOk-weaker}
use Rattle.dactl_patterns.proofs.Reaching.{patterns_found}
use Rattle.dactl_patterns.proofs.uses.Web.named_from.Goals as goal

pub returns-in_ok-found-in-Some : goal.returns-in_ok-found-in-Some
returns-in_ok-found-in-Some c =
    IfOk-weaker c.patterns_among.result _ _
    (λ found is. is ∙ patterns_found c.args.self.now.text.now c.args.pattern c.in-Some.tree.now c.in_ok-found-in-Some.found c.as_slice.result.now c.as_slice.ensures.value c.in_ok-found-in-Some.ensures c.in-Some.ensures)
    c.patterns_among.ensures
