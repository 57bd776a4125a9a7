use Rattle.std.proofs.Common.{false, length, map, sym, ap, subst, ◌∙◌, arith}
use Rattle.std.specs.List.{All}
use Rattle.dactl_arcs.specs.Pool.{targets}
use Rattle.dactl_arcs.specs.Kept.{AreBelow}
use Rattle.dactl_arcs.specs.Slots.{IsHoused, in_slots, pool_seen}
use Rattle.dactl_arcs.specs.Moves.{retargeted}
use Rattle.dactl_arcs.specs.Stamps.{changed_by}
use Rattle.dactl_arcs.proofs.Housing.{AreSlotsBelow-from, IsHoused-moved, IsHoused-placed, kept_on, moved_placed, moved_seen, over_self}
use Rattle.dactl_arcs.proofs.pool.ArcPool.redirect.Goals as goal

pub stamp_moved-requires-clause-below : goal.stamp_moved-requires-clause-below
stamp_moved-requires-clause-below c =
    let number = targets (pool_seen c.self.inside.lists) in
    let below : AreBelow number c.args.moves.now = subst (λ n. AreBelow n c.args.moves.now) (sym (ap (λ p. targets p) c.self.view_is)) c.requires.below in
    AreSlotsBelow-from number _ c.args.moves.now c.self.invariant.slots below

pub stamp_moved-requires-clause-fits : goal.stamp_moved-requires-clause-fits
stamp_moved-requires-clause-fits c = omega (arith, c.self.invariant.slots, c.self.invariant.fits)

pub stamp_moved-requires-clause-ends : goal.stamp_moved-requires-clause-ends
stamp_moved-requires-clause-ends c = IsHoused-placed _ _ c.self.invariant.ends

pub move_slots-requires-clause-below : goal.move_slots-requires-clause-below
move_slots-requires-clause-below c =
    let number = targets (pool_seen c.self.inside.lists) in
    let below : AreBelow number c.args.moves.now = subst (λ n. AreBelow n c.args.moves.now) (sym (ap (λ p. targets p) c.self.view_is)) c.requires.below in
    AreSlotsBelow-from number _ c.args.moves.now (ap length c.stamp_moved.ensures.into ∙ c.self.invariant.slots) below

pub move_slots-requires-clause-fits : goal.move_slots-requires-clause-fits
move_slots-requires-clause-fits c = omega (arith, ap length c.stamp_moved.ensures.into, c.self.invariant.slots, c.self.invariant.fits)

pub move_slots-requires-clause-ends : goal.move_slots-requires-clause-ends
move_slots-requires-clause-ends c = subst (All IsHoused) (sym c.stamp_moved.ensures.arcs) (IsHoused-placed _ _ c.self.invariant.ends)

pub move_slots-requires-2-clause-below : goal.move_slots-requires-2-clause-below
move_slots-requires-2-clause-below c =
    let number = targets (pool_seen c.self.inside.lists) in
    let below : AreBelow number c.args.moves.now = subst (λ n. AreBelow n c.args.moves.now) (sym (ap (λ p. targets p) c.self.view_is)) c.requires.below in
    AreSlotsBelow-from number _ c.args.moves.now (c.move_slots.ensures.kept.targets ∙ ap length c.stamp_moved.ensures.into ∙ c.self.invariant.slots) below

pub move_slots-requires-2-clause-fits : goal.move_slots-requires-2-clause-fits
move_slots-requires-2-clause-fits c =
    omega (arith, c.move_slots.ensures.kept.targets, ap length c.stamp_moved.ensures.into, c.self.invariant.slots, c.self.invariant.fits)

pub move_slots-requires-2-clause-ends : goal.move_slots-requires-2-clause-ends
move_slots-requires-2-clause-ends c =
    let first = c.move_slots.ensures.arcs ∙ ap (map (retargeted (in_slots false c.args.moves.now))) c.stamp_moved.ensures.arcs in
    subst (All IsHoused) (sym first) (IsHoused-moved false c.args.moves.now _ (IsHoused-placed _ _ c.self.invariant.ends))

pub invariant_of-self : goal.invariant_of-self
invariant_of-self c =
    let number = targets (pool_seen c.self.inside.lists) in
    let below : AreBelow number c.args.moves.now = subst (λ n. AreBelow n c.args.moves.now) (sym (ap (λ p. targets p) c.self.view_is)) c.requires.below in
    let first = c.move_slots.ensures.arcs ∙ ap (map (retargeted (in_slots false c.args.moves.now))) c.stamp_moved.ensures.arcs in
    over_self number _ (record {
      slots = c.move_slots-2.ensures.kept.targets ∙ c.move_slots.ensures.kept.targets ∙ ap length c.stamp_moved.ensures.into ∙ c.self.invariant.slots;
      fits = c.self.invariant.fits;
      ends = moved_placed number c.args.moves.now below _ _ _ c.self.invariant.ends first c.move_slots-2.ensures.arcs;
    })

pub returns-clause-arcs : goal.returns-clause-arcs
returns-clause-arcs c =
    let number = targets (pool_seen c.self.inside.lists) in
    let below : AreBelow number c.args.moves.now = subst (λ n. AreBelow n c.args.moves.now) (sym (ap (λ p. targets p) c.self.view_is)) c.requires.below in
    let first = c.move_slots.ensures.arcs ∙ ap (map (retargeted (in_slots false c.args.moves.now))) c.stamp_moved.ensures.arcs in
    moved_seen number c.args.moves.now below _ _ _ c.self.invariant.ends first c.move_slots-2.ensures.arcs ∙ ap (λ p. map (retargeted c.args.moves.now) p.arcs) c.self.view_is

pub returns-clause-changed : goal.returns-clause-changed
returns-clause-changed c =
    c.move_slots-2.ensures.changed ∙ c.move_slots.ensures.changed ∙ c.stamp_moved.ensures.changed
    ∙ ap (λ p. changed_by c.args.moves.now c.args.stamp p.arcs p.changed) c.self.view_is

pub returns-clause-kept : goal.returns-clause-kept
returns-clause-kept c = record {
  targets = kept_on _ _ c.self.invariant _ c.self.view_is c.move_slots-2.new.lists (c.move_slots-2.ensures.kept.targets ∙ c.move_slots.ensures.kept.targets ∙ ap length c.stamp_moved.ensures.into);
  room = c.move_slots-2.ensures.kept.room ∙ c.move_slots.ensures.kept.room ∙ c.stamp_moved.ensures.room ∙ ap (λ p. p.room) c.self.view_is;
}
