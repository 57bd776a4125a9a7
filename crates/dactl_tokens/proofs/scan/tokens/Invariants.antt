use Rattle.std.proofs.Common.{length}
use Rattle.dactl_tokens.proofs.Reading.{Read}
use Rattle.dactl_tokens.proofs.scan.tokens.Given as goal

abbrev pub invariant-token : goal.invariant-token
invariant-token l = Read l.text l.found.items l.rest

abbrev pub decreases-token : goal.decreases-token
decreases-token l = length l.rest
