use Rattle.std.proofs.Common.{◌≡◌, ◌≤◌, ◌-◌, true, length, take}
use Rattle.dactl_tokens.specs.Spelling.{all}
use Rattle.dactl_tokens.specs.Found.{passes}
use Rattle.dactl_tokens.proofs.words.run_len.Given as goal

abbrev pub invariant-run : goal.invariant-run
invariant-run l = (l.n ≤ length l.bytes) × (all (passes l.run) (take l.n l.bytes) ≡ true)

abbrev pub decreases-run : goal.decreases-run
decreases-run l = length l.bytes - l.n
