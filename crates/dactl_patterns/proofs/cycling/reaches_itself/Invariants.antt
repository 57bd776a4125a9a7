use Rattle.std.proofs.Common.{◌-◌, ◌^◌}
use Rattle.dactl_patterns.proofs.Reaching.{Walked}
use Rattle.dactl_patterns.proofs.cycling.reaches_itself.Given as goal

abbrev pub invariant-walk : goal.invariant-walk
invariant-walk l = Walked l.web.text.now l.pattern l.reached.keys l.at

abbrev pub decreases-walk : goal.decreases-walk
decreases-walk l = 2 ^ 64 - l.at
