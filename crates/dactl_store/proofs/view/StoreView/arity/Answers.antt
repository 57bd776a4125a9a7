use Rattle.std.proofs.Common.{subst}
use Rattle.dactl_model.specs.Graphs.{HasArity}
use Rattle.dactl_store.proofs.Seen.{below_seen, arity_seen}
use Rattle.dactl_store.proofs.view.StoreView.arity.Goals as goal

pub returns : goal.returns
returns c =
    let s = c.self.inside in
    let below = below_seen s.nodes s.arcs s.root s.room c.self.invariant _ c.self.view_is c.args.node.number c.requires.node in
    subst (λ held. HasArity held.graph c.args.node c.get.result.span.count) c.self.view_is
    (rw c.get.ensures.found (arity_seen s.nodes s.arcs s.root s.room c.self.invariant c.args.node below))
