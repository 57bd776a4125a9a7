use Rattle.std.proofs.Common.{◌<◌, ◌∷◌, [], ◌++◌, true, map, sym, ap, subst, ◌∙◌, arith}
use Rattle.std.specs.List.{All}
use Rattle.std.proofs.lemmas.List.{map-append}
use Rattle.std.proofs.lemmas.List.Elements.{All-push}
use Rattle.dactl_arcs.specs.Pool.{arc_record, targets}
use Rattle.dactl_arcs.specs.Slots.{IsPlaced, pool_seen, seen, slot_of}
use Rattle.dactl_arcs.proofs.Housing.{IsPlaced-slot, kept_on, over_self, seen_slot, slot_below}
use Rattle.dactl_arcs.proofs.pool.ArcPool.add.Goals as goal

pub slot_for-target-requires : goal.slot_for-target-requires
slot_for-target-requires c = omega (arith, c.requires.target, ap (λ p. targets p) c.self.view_is, c.self.invariant.fits)

pub push-requires-clause-target : goal.push-requires-clause-target
push-requires-clause-target c =
    let number = targets (pool_seen c.self.inside.lists) in
    let last : slot_of c.args.target true < targets c.self.inside.lists = omega (arith, c.requires.target, ap (λ p. targets p) c.self.view_is, c.self.invariant.slots) in
    omega (arith, slot_below c.args.target c.args.waits _ last, c.slot_for-target.ensures)

pub invariant_of-self : goal.invariant_of-self
invariant_of-self c =
    let number = targets (pool_seen c.self.inside.lists) in
    let owner_in : c.args.owner < number = omega (arith, c.requires.owner, ap (λ p. targets p) c.self.view_is) in
    let target_in_range : c.args.target < number = omega (arith, c.requires.target, ap (λ p. targets p) c.self.view_is) in
    let pushed = c.push.ensures.arcs ∙ ap (λ s. c.self.inside.lists.arcs ++ arc_record c.args.owner s c.args.waits ∷ []) c.slot_for-target.ensures in
    over_self number _ (record {
      slots = c.push.ensures.kept.targets ∙ c.self.invariant.slots;
      fits = c.self.invariant.fits;
      ends = subst (All (IsPlaced number)) (sym pushed) (All-push (IsPlaced number) _ _ c.self.invariant.ends (IsPlaced-slot number c.args.owner c.args.target c.args.waits owner_in target_in_range));
    })

pub returns-clause-added : goal.returns-clause-added
returns-clause-added c =
    let pushed = c.push.ensures.arcs ∙ ap (λ s. c.self.inside.lists.arcs ++ arc_record c.args.owner s c.args.waits ∷ []) c.slot_for-target.ensures in
    ap (map seen) pushed
    ∙ map-append seen c.self.inside.lists.arcs (arc_record c.args.owner (slot_of c.args.target c.args.waits) c.args.waits ∷ [])
    ∙ ap (λ r. map seen c.self.inside.lists.arcs ++ r ∷ []) (seen_slot c.args.owner c.args.target c.args.waits)
    ∙ ap (λ p. p.arcs ++ arc_record c.args.owner c.args.target c.args.waits ∷ []) c.self.view_is

pub returns-clause-kept : goal.returns-clause-kept
returns-clause-kept c = record {
  targets = kept_on _ _ c.self.invariant _ c.self.view_is c.push.new.self c.push.ensures.kept.targets;
  room = c.push.ensures.kept.room ∙ ap (λ p. p.room) c.self.view_is;
}
