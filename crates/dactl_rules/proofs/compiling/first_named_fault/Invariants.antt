use Rattle.std.proofs.Common.{map, take, Contains}
use Rattle.std.specs.List.{flat_map}
use Rattle.dactl_meaning.specs.Meaning.{named_faults}
use Rattle.dactl_symbols.specs.Least.{TellsLeast}
use Rattle.dactl_contractum.specs.Listing.{placed}
use Rattle.dactl_rules.proofs.compiling.first_named_fault.Given as goal

abbrev pub invariant-loop-item : goal.invariant-loop-item
invariant-loop-item l = TellsLeast (Contains (flat_map (named_faults l.patterns.text.now) (map placed (take l.item-index l.items)))) l.least
