use Rattle.std.proofs.Common.{◌≡◌, ◌≤◌, ◌<◌, All, length, drop}
use Rattle.dactl_names.specs.Found.{packed}
use Rattle.dactl_names.proofs.map.packed.Given as goal

abbrev pub invariant-bytes : goal.invariant-bytes
invariant-bytes l = record {
  number : l.number ≡ packed (drop l.from l.name);
  bytes : All (λ b. b < 256) (drop l.from l.name);
  within : l.from ≤ length l.name;
}

abbrev pub decreases-bytes : goal.decreases-bytes
decreases-bytes l = l.from
