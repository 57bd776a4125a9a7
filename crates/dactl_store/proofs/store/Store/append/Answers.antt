use Rattle.std.proofs.Common.{◌<◌, length, ap, refl, arith}
use Rattle.dactl_store.proofs.Seen.{nodes_counted}
use Rattle.dactl_store.proofs.Changed.{IsStore-push}
use Rattle.dactl_store.proofs.store.Store.append.Goals as goal

pub invariant_of-self : goal.invariant_of-self
invariant_of-self c =
    let s = c.self.inside in
    let free : length c.self.inside.nodes.records < c.self.inside.nodes.room =
    omega (arith, nodes_counted s.nodes s.arcs s.root s.room c.self.invariant, ap (λ held. length held.graph.nodes) c.self.view_is, ap (λ held. held.room.nodes) c.self.view_is, c.self.invariant.nodes_room) in
    rw c.push.ensures (IsStore-push s.nodes s.arcs s.root s.room c.self.invariant _ free c.len.ensures.len refl)
