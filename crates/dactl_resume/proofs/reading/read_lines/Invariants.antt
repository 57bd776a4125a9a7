use Rattle.std.proofs.Common.{length}
use Rattle.dactl_resume.specs.Answers.{lines_of}
use Rattle.dactl_resume.proofs.LineWalk.{Walked}
use Rattle.dactl_resume.proofs.reading.read_lines.Given as goal

-- the lines so far have their nodes, and the others are those of the rest
abbrev pub invariant-lines : goal.invariant-lines
invariant-lines l = Walked l.program (lines_of l.text) l.rest l.place l.nodes.items

abbrev pub decreases-lines : goal.decreases-lines
decreases-lines l = length l.rest
