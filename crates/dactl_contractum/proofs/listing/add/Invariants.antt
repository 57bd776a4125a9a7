use Rattle.std.proofs.Common.{◌≡◌, ◌++◌, map, take}
use Rattle.std.specs.List.{enumerate_from}
use Rattle.dactl_contractum.specs.Listing.{placed, numbered_in}
use Rattle.dactl_contractum.proofs.listing.add.Given as goal

abbrev pub invariant-loop-number : goal.invariant-loop-number
invariant-loop-number l = map placed l.found.items ≡ map placed l.initial.found.items ++ map (numbered_in l.owner) (take l.number (enumerate_from 0 l.items))
