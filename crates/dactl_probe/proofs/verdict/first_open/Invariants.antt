use Rattle.dactl_probe.proofs.Passing.{IsSwept}
use Rattle.dactl_probe.proofs.verdict.first_open.Given as goal

-- the rules so far are No, and passed where each of them is lost
abbrev pub invariant-loop-place : goal.invariant-loop-place
invariant-loop-place l = IsSwept l.deciders.program l.readings l.node l.numbers l.lost l.passing l.place
