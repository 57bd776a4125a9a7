use Rattle.dactl_tokens.proofs.Scanning.{skips_none, skips_more}
use Rattle.dactl_tokens.proofs.gaps.skip_gap.Goals as goal

pub gap-init : goal.gap-init
gap-init c = skips_none c.args.bytes.now

pub gap-preserved : goal.gap-preserved
gap-preserved c = skips_more c.args.bytes.now c.gap.rest.now c.in-Some.after.now c.gap.invariant c.in-Some.ensures.some.0
