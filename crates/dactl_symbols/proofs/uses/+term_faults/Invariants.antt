use Rattle.std.proofs.Common.{◌≡◌, take}
use Rattle.std.specs.List.{flat_map}
use Rattle.dactl_symbols.specs.Least.{least_by}
use Rattle.dactl_symbols.specs.UseFaults.{use_fault, arg_uses}
use Rattle.dactl_symbols.proofs.uses.+term_faults.Given as goal

abbrev pub invariant-node_args-loop-one : goal.invariant-node_args-loop-one
invariant-node_args-loop-one l = l.least ≡ least_by (use_fault l.scopes l.owner) (flat_map arg_uses (take l.one-index l.args))
