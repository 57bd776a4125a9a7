use Rattle.std.proofs.Common.{◌≡◌, drop}
use Rattle.dactl_meaning.specs.Expansion.{has_plus}
use Rattle.dactl_patterns.proofs.occurrences.has_plus.Given as goal

-- no `+` so far, so the rest tells
abbrev pub invariant-loop-link : goal.invariant-loop-link
invariant-loop-link l = has_plus l.rest ≡ has_plus (drop l.link-index l.rest)
