use Rattle.std.proofs.Common.{◌≡◌, ◌+◌, ◌≤◌, length}
use Rattle.dactl_resume.specs.Answers.{lines_of}
use Rattle.dactl_resume.proofs.lines.count_lines.Given as goal

-- the lines so far are counted, and the others are those of the rest
abbrev pub invariant-lines : goal.invariant-lines
invariant-lines l = record {
  counted : l.count + length (lines_of l.rest) ≡ length (lines_of l.text);
  few : length l.rest ≤ length l.text;
}

abbrev pub decreases-lines : goal.decreases-lines
decreases-lines l = length l.rest
