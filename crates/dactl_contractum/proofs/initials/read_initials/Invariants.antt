use Rattle.std.proofs.Common.{map, take}
use Rattle.std.specs.List.{flat_map}
use Rattle.dactl_symbols.specs.Scoping.{seen_in}
use Rattle.dactl_contractum.specs.Initials.{initials_in, AreMeant}
use Rattle.dactl_contractum.specs.Listing.{placed}
use Rattle.dactl_contractum.proofs.initials.read_initials.Given as goal

abbrev pub invariant-loop-item : goal.invariant-loop-item
invariant-loop-item l = AreMeant (seen_in l.scopes) (flat_map initials_in (map placed (take l.item-index l.items))) (record { fault = l.least; start = l.kept })
