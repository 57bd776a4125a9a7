use Rattle.std.proofs.Common.{◌≡◌, ◌+◌, ◌^◌, min, take}
use Rattle.dactl_tokens.specs.Spelling.{decimal}
use Rattle.dactl_tokens.proofs.integers.magnitude.Given as goal

abbrev pub invariant-loop-digit : goal.invariant-loop-digit
invariant-loop-digit l = l.value ≡ min (decimal 0 (take l.digit-index l.digits)) (2 ^ 127 + 1)
