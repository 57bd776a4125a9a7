use Rattle.std.proofs.Common.{◌≡◌, ◌++◌, drop}
use Rattle.std.specs.List.{flat_map}
use Rattle.dactl_patterns.specs.Cycles.{declared, placed_from}
use Rattle.dactl_patterns.proofs.declarations.declared_in.Given as goal

-- what is found, and what the rest will add, is all
abbrev pub invariant-loop-number : goal.invariant-loop-number
invariant-loop-number l = l.found.items ++ flat_map declared (placed_from l.owner l.number (drop l.number l.items)) ≡ l.initial.found.items ++ flat_map declared (placed_from l.owner 0 l.items)
