use Rattle.std.proofs.Common.{◌<◌, length, ap, refl, arith}
use Rattle.dactl_store.specs.Table.{record_of, marked}
use Rattle.dactl_store.proofs.Seen.{nodes_counted}
use Rattle.dactl_store.proofs.Changed.{IsStore-set, marked_seen}
use Rattle.dactl_store.proofs.store.Store.set_mark.Goals as goal

pub invariant_of-self : goal.invariant_of-self
invariant_of-self c =
    let s = c.self.inside in
    rw c.set_mark.ensures (IsStore-set s.nodes s.arcs s.root s.room c.self.invariant c.args.n.number (marked c.args.mark (record_of c.self.inside.nodes.records c.args.n.number)) refl)

pub returns : goal.returns
returns c =
    let s = c.self.inside in
    let below : c.args.n.number < length c.self.inside.nodes.records =
    omega (arith, nodes_counted s.nodes s.arcs s.root s.room c.self.invariant, ap (λ held. length held.graph.nodes) c.self.view_is) in
    rw (c.set_mark.ensures, ← c.self.view_is) (marked_seen s.nodes s.arcs s.root s.room c.self.invariant c.args.n c.args.mark below)
