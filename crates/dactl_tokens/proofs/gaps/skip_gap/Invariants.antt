use Rattle.std.proofs.Common.{length}
use Rattle.dactl_tokens.specs.Found.{Skips}
use Rattle.dactl_tokens.proofs.gaps.skip_gap.Given as goal

abbrev pub invariant-gap : goal.invariant-gap
invariant-gap l = Skips l.bytes l.rest

abbrev pub decreases-gap : goal.decreases-gap
decreases-gap l = length l.rest
