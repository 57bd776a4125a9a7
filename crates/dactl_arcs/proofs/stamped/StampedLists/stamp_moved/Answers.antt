use Rattle.std.proofs.Common.{◌≡◌, ◌<◌, ◌≤◌, length, sym, ap, subst, ◌∙◌, arith}
use Rattle.std.proofs.lemmas.List.Elements.{All-weaker}
use Rattle.dactl_arcs.specs.declared.stamped.ArcStamp.{ArcStamp}
use Rattle.dactl_arcs.specs.Pool.{targets}
use Rattle.dactl_arcs.specs.Slots.{AreSlotsBelow}
use Rattle.dactl_arcs.proofs.StampedSlots.{stamps_old}
use Rattle.dactl_arcs.proofs.Stamping.{stamped_changes}
use Rattle.dactl_arcs.proofs.stamped.StampedLists.stamp_moved.Goals as goal

pub stamp_slots-requires-clause-below : goal.stamp_slots-requires-clause-below
stamp_slots-requires-clause-below c =
    let many : targets c.args.self.now ≡ length c.self.inside.slots = sym (ap (λ p. targets p) c.self.view_is) ∙ sym c.self.invariant.slots_long in
    subst (λ n. AreSlotsBelow n c.args.moves.now) many c.requires.below

pub stamp_slots-requires-clause-fits : goal.stamp_slots-requires-clause-fits
stamp_slots-requires-clause-fits c =
    let many : targets c.args.self.now ≡ length c.self.inside.slots = sym (ap (λ p. targets p) c.self.view_is) ∙ sym c.self.invariant.slots_long in
    omega (arith, many, c.requires.fits)

pub invariant_of-self : goal.invariant_of-self
invariant_of-self c =
    let newer : c.self.inside.newest < c.args.stamp = omega (arith, ap (λ p. p.newest) c.self.view_is, c.requires.newer) in
    record {
      arcs_long = c.self.invariant.arcs_long;
      slots_long = c.stamp_slots.ensures.long ∙ c.self.invariant.slots_long;
      taken = c.self.invariant.taken;
      few = c.self.invariant.few;
      slots_old = stamps_old c.args.moves.now c.args.stamp _ _ _ c.stamp_slots.ensures newer c.self.invariant.slots_old;
      arcs_old = All-weaker (λ (arc : ArcStamp). (arc.own ≤ c.self.inside.newest) × (arc.joined ≤ c.self.inside.newest)) (λ (arc : ArcStamp). (arc.own ≤ c.args.stamp) × (arc.joined ≤ c.args.stamp)) (λ arc old. (omega arith, omega arith)) _ c.self.invariant.arcs_old;
    }

pub returns-clause-changed : goal.returns-clause-changed
returns-clause-changed c =
    stamped_changes _ _ _ _ _ c.self.invariant _ c.self.view_is c.args.moves.now c.args.stamp _ c.requires.newer c.requires.ends c.stamp_slots.ensures c.len.ensures.valid
