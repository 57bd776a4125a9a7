use Rattle.std.proofs.Common.{sym, ap, ◌∙◌}
use Rattle.std.proofs.lemmas.Result.{IfOk-weaker}
use Rattle.dactl_meaning.specs.Sight.{sees}
use Rattle.dactl_patterns.proofs.HeadLayers.{of_name, head_of}
use Rattle.dactl_patterns.proofs.heads.head_symbol.Goals as goal

pub returns-in-Some : goal.returns-in-Some
returns-in-Some c =
    let look = sees c.args.patterns.now.text.now c.args.owner in
    IfOk-weaker c.at_name.result _ _
    (λ h is named variables right. is named right ∙ ap (of_name look named) c.in-Some.ensures ∙ sym (head_of look named variables c.args.tree.now))
    c.at_name.ensures

pub returns-in-None : goal.returns-in-None
returns-in-None c = λ named variables right.
    let look = sees c.args.patterns.now.text.now c.args.owner in
    ap (of_name look named) c.in-None.ensures ∙ sym (head_of look named variables c.args.tree.now)
