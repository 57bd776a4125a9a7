use Rattle.std.proofs.Common.{◌≡◌, take}
use Rattle.std.specs.List.{flat_map}
use Rattle.dactl_meaning.specs.Uses.{term_uses}
use Rattle.dactl_symbols.specs.Least.{least_by}
use Rattle.dactl_symbols.specs.UseFaults.{use_fault}
use Rattle.dactl_symbols.proofs.uses.terms.Given as goal

abbrev pub invariant-loop-one : goal.invariant-loop-one
invariant-loop-one l = l.least ≡ least_by (use_fault l.scopes l.owner) (flat_map term_uses (take l.one-index l.terms))
