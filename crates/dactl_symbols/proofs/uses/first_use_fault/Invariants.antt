use Rattle.std.proofs.Common.{◌≡◌, take}
use Rattle.std.specs.List.{flat_map, enumerate_from}
use Rattle.dactl_meaning.specs.Uses.{item_uses}
use Rattle.dactl_symbols.specs.Least.{least_by}
use Rattle.dactl_symbols.specs.UseFaults.{use_fault}
use Rattle.dactl_symbols.proofs.uses.first_use_fault.Given as goal

abbrev pub invariant-loop-owner : goal.invariant-loop-owner
invariant-loop-owner l = l.least ≡ least_by (λ m. least_by (use_fault l.scopes m.0) (flat_map item_uses m.1.items)) (take l.owner (enumerate_from 0 l.tree-items))
