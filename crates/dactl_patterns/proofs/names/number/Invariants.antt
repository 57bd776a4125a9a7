use Rattle.std.proofs.Common.{◌≡◌, ◌+◌, drop}
use Rattle.dactl_meaning.specs.Expansion.{number_in}
use Rattle.dactl_patterns.proofs.names.number.Given as goal

-- those so far are other names
abbrev pub invariant-loop-i : goal.invariant-loop-i
invariant-loop-i l = number_in l.names l.name ≡ number_in (drop l.i l.names) l.name + l.i
