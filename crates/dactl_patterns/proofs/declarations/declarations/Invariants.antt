use Rattle.std.proofs.Common.{◌≡◌, ◌++◌, drop}
use Rattle.std.specs.List.{flat_map, enumerate_from}
use Rattle.dactl_meaning.specs.Declarations.{items_of}
use Rattle.dactl_patterns.specs.Cycles.{declared, all_declared}
use Rattle.dactl_patterns.proofs.declarations.declarations.Given as goal

-- what is found, and what the rest will add, is all
abbrev pub invariant-loop-owner : goal.invariant-loop-owner
invariant-loop-owner l = l.found.items ++ flat_map declared (flat_map items_of (enumerate_from l.owner (drop l.owner l.text.modules))) ≡ all_declared l.text
