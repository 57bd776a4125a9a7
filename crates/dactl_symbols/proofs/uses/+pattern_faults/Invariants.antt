use Rattle.std.proofs.Common.{◌≡◌, take}
use Rattle.std.specs.List.{flat_map}
use Rattle.dactl_meaning.specs.Uses.{pattern_uses}
use Rattle.dactl_symbols.specs.Least.{least_by}
use Rattle.dactl_symbols.specs.UseFaults.{use_fault}
use Rattle.dactl_symbols.proofs.uses.+pattern_faults.Given as goal

abbrev pub invariant-patterns-loop-tree : goal.invariant-patterns-loop-tree
invariant-patterns-loop-tree l = l.least ≡ least_by (use_fault l.scopes l.owner) (flat_map pattern_uses (take l.tree-index l.trees))

abbrev pub invariant-links-loop-link : goal.invariant-links-loop-link
invariant-links-loop-link l = l.least ≡ least_by (use_fault l.scopes l.owner) (flat_map (λ k. pattern_uses k.1) (take l.link-index l.rest))
