use Rattle.std.proofs.Common.{◌≡◌, map, take}
use Rattle.std.specs.List.{enumerate_from, flat_map}
use Rattle.dactl_meaning.specs.Declarations.{items_of}
use Rattle.dactl_contractum.specs.Listing.{placed}
use Rattle.dactl_contractum.proofs.listing.items.Given as goal

abbrev pub invariant-loop-owner : goal.invariant-loop-owner
invariant-loop-owner l = map placed l.found.items ≡ flat_map items_of (take l.owner (enumerate_from 0 l.tree-items))
