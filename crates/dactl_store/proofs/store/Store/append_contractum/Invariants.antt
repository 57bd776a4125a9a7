use Rattle.dactl_store.proofs.Filling.{IsFilled}
use Rattle.dactl_store.proofs.store.Store.append_contractum.Given as goal

abbrev pub invariant-loop-node : goal.invariant-loop-node
invariant-loop-node l = IsFilled l.initial.self l.self l.bindings l.fresh l.version l.node-index
