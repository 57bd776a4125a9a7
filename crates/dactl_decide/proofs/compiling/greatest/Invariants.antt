use Rattle.std.proofs.Common.{take}
use Rattle.dactl_decide.specs.Decisions.{IsWidest}
use Rattle.dactl_decide.proofs.compiling.greatest.Given as goal

-- the greatest so far
abbrev pub invariant-loop-count : goal.invariant-loop-count
invariant-loop-count l = IsWidest (take l.count-index l.paths) l.widest
