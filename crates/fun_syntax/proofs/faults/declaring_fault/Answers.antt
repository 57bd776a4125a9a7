use Rattle.std.proofs.Common.{ap, ◌∙◌}
use Rattle.std.specs.Prelude.{◌+◌, ◌||◌, nat_lt}
use Rattle.dactl_base.specs.declared.refusal.Kind.TheVariants as kinds
use Rattle.fun_syntax.specs.Least.{least, when}
use Rattle.fun_syntax.specs.Roles.{is_reserved}
use Rattle.fun_syntax.proofs.Sooner.{both}
use Rattle.fun_syntax.proofs.faults.declaring_fault.Goals as goal

pub returns : goal.returns
returns c =
    let head = c.args.head.now in
    let twice = when (is_reserved head.text) kinds.TwiceDeclared head in
    let beyond = when (nat_lt c.args.names c.args.new || nat_lt c.args.rules (1 + c.args.new)) kinds.TooMany head in
    c.lesser.ensures ∙ both twice beyond c.when-twice.result c.when-beyond.result (c.when-twice.ensures ∙ ap (λ b. least (when b kinds.TwiceDeclared head)) (c.is_reserved-reserved.ensures ∙ ap is_reserved c.as_slice.ensures))
    (c.when-beyond.ensures ∙ ap (λ b. least (when b kinds.TooMany head)) c.is_beyond.ensures)
