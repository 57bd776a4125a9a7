use Rattle.std.proofs.Common.{◌≡◌, ◌+◌, ◌<◌, ◌≤◌, length, ap, refl, arith}
use Rattle.dactl_arcs.specs.Pool.{arc_record}
use Rattle.dactl_model.specs.Ending.{arcs_of}
use Rattle.dactl_store.specs.Table.{record_of, longer}
use Rattle.dactl_store.proofs.Seen.{arcs_counted, last_seen, last_few}
use Rattle.dactl_store.proofs.Changed.{IsStore-more, more_seen}
use Rattle.dactl_store.proofs.store.Store.append_arc.Goals as goal

pub unreachable-requires : goal.unreachable-requires
unreachable-requires c =
    let s = c.self.inside in
    let full : length c.self.inside.arcs.arcs ≡ c.self.inside.arcs.room = c.add-added.ensures.full.0 (rw c.in_default.is refl) in
    omega (arith, full, c.self.invariant.arcs_room, arcs_counted s.nodes s.arcs s.root s.room c.self.invariant, ap (λ held. arcs_of held.graph) c.self.view_is, ap (λ held. held.room.arcs) c.self.view_is)

pub add_arc-requires-clause-few : goal.add_arc-requires-clause-few
add_arc-requires-clause-few c =
    let s = c.self.inside in
    let few : (record_of c.self.inside.nodes.records c.args.owner.number).span.count + 1 ≤ 16 = last_few s.nodes s.arcs s.root s.room c.self.invariant _ c.self.view_is c.args.owner c.requires.owner in
    omega (arith, few)

pub invariant_of-self : goal.invariant_of-self
invariant_of-self c =
    let s = c.self.inside in
    let few : (record_of c.self.inside.nodes.records c.args.owner.number).span.count + 1 ≤ 16 = last_few s.nodes s.arcs s.root s.room c.self.invariant _ c.self.view_is c.args.owner c.requires.owner in
    let grown = rw c.in-Ok.is at c.add-added.ensures.added in
    let later = rw c.in-Ok.is at c.add-added.ensures.changed in
    let free : length c.self.inside.arcs.arcs < c.self.inside.arcs.room =
    omega (arith, c.self.invariant.arcs_room, arcs_counted s.nodes s.arcs s.root s.room c.self.invariant, ap (λ held. arcs_of held.graph) c.self.view_is, ap (λ held. held.room.arcs) c.self.view_is) in
    rw c.add_arc.ensures
    (IsStore-more s.nodes s.arcs s.root s.room c.self.invariant c.add-added.new.self c.args.owner.number (arc_record c.args.owner.number c.args.target.number c.args.waits) grown later c.add-added.ensures.newest c.add-added.ensures.kept
    (last_seen s.nodes s.arcs s.root s.room c.self.invariant _ c.self.view_is c.args.owner c.requires.owner) refl
    (longer (record_of c.self.inside.nodes.records c.args.owner.number)) refl refl few free)

pub returns : goal.returns
returns c =
    let s = c.self.inside in
    let grown = rw c.in-Ok.is at c.add-added.ensures.added in
    let later = rw c.in-Ok.is at c.add-added.ensures.changed in
    rw (c.add_arc.ensures, ← c.self.view_is)
    (more_seen s.nodes s.arcs s.root s.room c.self.invariant c.add-added.new.self c.args.owner.number (arc_record c.args.owner.number c.args.target.number c.args.waits) grown later c.add-added.ensures.newest c.add-added.ensures.kept
    (last_seen s.nodes s.arcs s.root s.room c.self.invariant _ c.self.view_is c.args.owner c.requires.owner) refl
    (longer (record_of c.self.inside.nodes.records c.args.owner.number)) refl)
