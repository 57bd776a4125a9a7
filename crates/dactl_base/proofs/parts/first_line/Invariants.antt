use Rattle.std.proofs.Common.{◌≡◌, ◌≤◌, ◌-◌, ◌++◌, length, take, drop}
use Rattle.dactl_base.specs.Parts.{first_line}
use Rattle.dactl_base.proofs.parts.first_line.Given as goal

-- what was passed belongs to the first line
abbrev pub invariant-line : goal.invariant-line
invariant-line l = (l.len ≤ length l.bytes) × (first_line l.bytes ≡ take l.len l.bytes ++ first_line (drop l.len l.bytes))

abbrev pub decreases-line : goal.decreases-line
decreases-line l = length l.bytes - l.len
