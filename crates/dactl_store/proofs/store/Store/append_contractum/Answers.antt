use Rattle.std.proofs.Common.{◌<◌, length, refl, ap, ◌∙◌, arith}
use Rattle.dactl_store.specs.Held.{node_with}
use Rattle.dactl_store.proofs.Filling.{takes_arcs, filled_more, are_targets}
use Rattle.dactl_store.proofs.store.Store.append_contractum.Goals as goal

pub append_arcs-requires-clause-owner : goal.append_arcs-requires-clause-owner
append_arcs-requires-clause-owner c =
    let below : c.loop-node.node-index < length c.args.fresh.now = omega arith in
    rw c.as_slice.ensures
    (takes_arcs c.args.self.now c.loop-node.self c.args.bindings.now c.args.fresh.now c.args.version c.loop-node.node-index c.requires c.loop-node.invariant below c.node-item.result c.node-item.is
    c.append-owner.new.self c.append-owner.result (node_with c.node-item.result.label c.node-item.result.mark) c.append-owner.ensures.number (ap (λ s. s.graph.nodes) c.append-owner.ensures.added) refl
    (ap (λ s. s.room) c.append-owner.ensures.added))

pub append_arcs-requires-clause-targets : goal.append_arcs-requires-clause-targets
append_arcs-requires-clause-targets c =
    let below : c.loop-node.node-index < length c.args.fresh.now = omega arith in
    rw c.as_slice.ensures
    (are_targets c.args.self.now c.args.bindings.now c.args.fresh.now c.loop-node.node-index c.next_number-first.result _ c.node-item.result c.requires below c.node-item.is c.next_number-first.ensures.number
    (ap (λ s. s.room.nodes) c.append-owner.ensures.added ∙ ap (λ r. r.nodes) c.loop-node.invariant.room))

pub loop-node-preserved : goal.loop-node-preserved
loop-node-preserved c =
    let below : c.loop-node.node-index < length c.args.fresh.now = omega arith in
    filled_more c.args.self.now c.loop-node.self c.args.bindings.now c.args.fresh.now c.args.version c.loop-node.node-index c.requires c.loop-node.invariant below c.node-item.result c.node-item.is
    c.append-owner.new.self c.append-owner.result (node_with c.node-item.result.label c.node-item.result.mark) c.append-owner.ensures.number (ap (λ s. s.graph.nodes) c.append-owner.ensures.added) refl
    (ap (λ s. s.room) c.append-owner.ensures.added)
    c.append_arcs.new.self c.next_number-first.result c.next_number-first.ensures.number (rw c.as_slice.ensures at c.append_arcs.ensures) (ap (λ s. s.graph.root) c.append-owner.ensures.added)
    (ap (λ s. s.versions) c.append-owner.ensures.added) (ap (λ s. s.newest) c.append-owner.ensures.added) refl refl
