use Rattle.std.proofs.Common.{◌-◌, length}
use Rattle.dactl_resume.proofs.ArgumentParts.{AreRead}
use Rattle.dactl_resume.proofs.arguments.read_further.Given as goal

-- some of the arguments are read, and the rest is the others
abbrev pub invariant-arguments : goal.invariant-arguments
invariant-arguments l = AreRead l.fn.arcs.items l.arcs.items l.bytes l.rest l.count

abbrev pub decreases-arguments : goal.decreases-arguments
decreases-arguments l = 16 - length l.arcs.items
