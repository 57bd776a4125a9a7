use Rattle.std.proofs.Common.{length}
use Rattle.dactl_tokens.proofs.Scanning.{Passed}
use Rattle.dactl_tokens.proofs.gaps.close.Given as goal

abbrev pub invariant-body : goal.invariant-body
invariant-body l = Passed l.bytes l.rest

abbrev pub decreases-body : goal.decreases-body
decreases-body l = length l.rest
