use Rattle.std.proofs.Common.{length, take, arith}
use Rattle.std.proofs.lemmas.List.{length-map, length-take-le}
use Rattle.dactl_model.specs.Firing.{fresh_arc}
use Rattle.dactl_store.proofs.Growing.{grown_none, grown_free, grown_last}
use Rattle.dactl_store.proofs.Filling.{arcs_step}
use Rattle.dactl_store.proofs.store.Store.append_arcs.Goals as goal

pub loop-arc-init : goal.loop-arc-init
loop-arc-init c = grown_none c.args.self.now c.args.owner

pub append_arc-requires-clause-free : goal.append_arc-requires-clause-free
append_arc-requires-clause-free c =
    let arcs = c.args.arcs.now in
    let i = c.loop-arc.arc-index in
    rw c.loop-arc.invariant
    (grown_free c.args.self.now c.args.owner (length c.args.arcs.now) _ c.requires.owner
    (omega (arith, length-map (take i arcs) (fresh_arc c.args.first c.args.bindings.now (λ x. x)), length-take-le i arcs (omega arith))))

pub append_arc-requires-clause-owner : goal.append_arc-requires-clause-owner
append_arc-requires-clause-owner c =
    let arcs = c.args.arcs.now in
    let i = c.loop-arc.arc-index in
    rw c.loop-arc.invariant
    (grown_last c.args.self.now c.args.owner (length c.args.arcs.now) _ c.requires.owner
    (omega (arith, length-map (take i arcs) (fresh_arc c.args.first c.args.bindings.now (λ x. x)), length-take-le i arcs (omega arith))))

pub loop-arc-preserved : goal.loop-arc-preserved
loop-arc-preserved c =
    arcs_step c.args.self.now c.loop-arc.self c.append_arc.new.self c.args.owner c.args.first c.args.bindings.now c.args.arcs.now c.loop-arc.arc-index _ _ (omega arith) c.loop-arc.invariant c.mentioned_node-target.ensures c.append_arc.ensures
