use Rattle.std.proofs.Common.{sym, ◌∙◌}
use Rattle.dactl_tokens.proofs.Scanning.{blank_step, comment_step}
use Rattle.dactl_tokens.proofs.gaps.gap_step.Goals as goal

pub returns-then-is_blank-clause-some : goal.returns-then-is_blank-clause-some
returns-then-is_blank-clause-some c = blank_step c.args.bytes.now c.in-len1-up.len_at_least (sym c.is_blank.ensures ∙ c.if-is_blank.true)

pub returns-then-first-eq123-clause-some : goal.returns-then-first-eq123-clause-some
returns-then-first-eq123-clause-some c = comment_step c.args.bytes.now c.in-len1-up.len_at_least c.if-first-eq123.true c.close.result c.close.ensures.some
