use Rattle.std.proofs.Common.{◌≡◌, ◌+◌, ◌-◌, ◌≤◌, length, take}
use Rattle.dactl_resume.proofs.LineLists.{feeds}
use Rattle.dactl_resume.proofs.lines.first_difference.Given as goal

-- the fronts are the same, and the line is the one that begins behind their LFs
abbrev pub invariant-bytes : goal.invariant-bytes
invariant-bytes l = record {
  within : l.at ≤ length l.text;
  beside : l.at ≤ length l.other;
  same : take l.at l.text ≡ take l.at l.other;
  line : l.line ≡ feeds (take l.at l.text) + 1;
  few : l.line ≤ l.at + 1;
}

abbrev pub decreases-bytes : goal.decreases-bytes
decreases-bytes l = length l.text - l.at
