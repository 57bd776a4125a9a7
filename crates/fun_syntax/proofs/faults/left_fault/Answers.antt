use Rattle.std.proofs.Common.{ap, ◌∙◌}
use Rattle.std.specs.Prelude.{◌++◌, ◌||◌, nat_lt, nat_le}
use Rattle.dactl_base.specs.declared.refusal.Kind.TheVariants as kinds
use Rattle.fun_syntax.specs.Faults.{most_arguments, most_pieces}
use Rattle.fun_syntax.specs.Least.{least, when}
use Rattle.fun_syntax.specs.Roles.{is_given, has_other_count}
use Rattle.fun_syntax.proofs.Sooner.{both}
use Rattle.fun_syntax.proofs.faults.left_fault.Goals as goal

pub returns : goal.returns
returns c =
    let head = c.args.head.now in
    let given = when (is_given c.args.role) kinds.RootNotRewritable head in
    let other = when (has_other_count c.args.role c.args.count) kinds.WrongArity head in
    let wide = when (nat_lt most_arguments c.args.count || nat_le most_pieces c.args.pieces) kinds.TooWide head in
    c.lesser-2.ensures ∙ both given (other ++ wide) c.when-given.result c.lesser.result (c.when-given.ensures ∙ ap (λ b. least (when b kinds.RootNotRewritable head)) c.is_given.ensures)
    (c.lesser.ensures ∙ both other wide c.when-other.result c.when-wide.result (c.when-other.ensures ∙ ap (λ b. least (when b kinds.WrongArity head)) c.has_other_count.ensures) (c.when-wide.ensures ∙ ap (λ b. least (when b kinds.TooWide head)) c.is_wide.ensures))
