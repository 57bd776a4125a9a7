use Rattle.std.proofs.Common.{All, take}
use Rattle.dactl_probe.specs.Lost.{AreLost}
use Rattle.dactl_probe.proofs.Decided.{IsNotYes}
use Rattle.dactl_probe.proofs.verdict.yes_behind.Given as goal

-- no rule so far is in the group and Yes
abbrev pub invariant-loop-place : goal.invariant-loop-place
invariant-loop-place l = record {
  lost : AreLost l.deciders.program.rules l.readings l.node l.lost;
  none : All (IsNotYes l.deciders.program l.group l.readings l.node) (take l.place l.numbers);
}
