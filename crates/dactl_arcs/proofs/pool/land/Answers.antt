use Rattle.std.proofs.Common.{◌≡◌, ◌<◌, ◌≤◌, ◌+◌, ◌∷◌, [], length, map, get_or, true, refl, sym, ap, ◌∙◌, arith}
use Rattle.std.proofs.lemmas.List.{length-map, take_all}
use Rattle.dactl_arcs.specs.declared.pool.TheConstants.{MOST_MOVES}
use Rattle.dactl_arcs.specs.Slots.{in_slots, raised}
use Rattle.dactl_arcs.specs.Moves.{landed, retargeted}
use Rattle.dactl_arcs.proofs.Moving.{landed_none, settles}
use Rattle.dactl_arcs.proofs.Housing.{AreAbove-slots, slot_above, slot_at, slot_below}
use Rattle.dactl_arcs.proofs.pool.land.Goals as goal

pub loop-place-init : goal.loop-place-init
loop-place-init c = (record { targets = refl; room = refl }, sym (landed_none 0 c.args.lists.now.arcs), refl, refl)

pub slot_for-requires : goal.slot_for-requires
slot_for-requires c =
    let inside : c.loop-place.place < length c.args.moves.now = omega arith in
    omega (arith, (c.requires.below c.loop-place.place (0, 0) inside).1, c.requires.fits)

pub merge-requires-clause-different : goal.merge-requires-clause-different
merge-requires-clause-different c =
    let inside : c.loop-place.place < length c.args.moves.now = omega arith in
    let pair = get_or c.args.moves.now c.loop-place.place (0, 0) in
    λ same. omega (arith, inside, c.requires.few, slot_above pair.1 c.args.waits, c.slot_for.ensures)

pub merge-requires-clause-to_in_range : goal.merge-requires-clause-to_in_range
merge-requires-clause-to_in_range c =
    let inside : c.loop-place.place < length c.args.moves.now = omega arith in
    let pair = get_or c.args.moves.now c.loop-place.place (0, 0) in
    omega (arith, slot_below pair.1 c.args.waits _ (c.requires.below c.loop-place.place (0, 0) inside).1, c.slot_for.ensures, c.loop-place.invariant.0.targets)

pub merge-requires-clause-from_in_range : goal.merge-requires-clause-from_in_range
merge-requires-clause-from_in_range c =
    let inside : c.loop-place.place < length c.args.moves.now = omega arith in
    let pair = get_or c.args.moves.now c.loop-place.place (0, 0) in
    omega (arith, c.requires.few, (c.requires.below c.loop-place.place (0, 0) inside).1, slot_above pair.1 true, c.loop-place.invariant.0.targets)

pub loop-place-preserved : goal.loop-place-preserved
loop-place-preserved c =
    let kept = c.loop-place.invariant.0 in
    let moves = in_slots c.args.waits c.args.moves.now in
    let long = length-map c.args.moves.now (raised c.args.waits) in
    let inside : c.loop-place.place < length c.args.moves.now = omega arith in
    let at = slot_at c.args.waits c.loop-place.place c.args.moves.now inside in
    let within : c.loop-place.place < length moves = omega (arith, long, inside) in
    let few : 0 + length moves ≤ MOST_MOVES = omega (arith, long, c.requires.few) in
    let here : c.loop-place.place ≡ 0 + c.loop-place.place = omega arith in
    let sent =
    c.merge.ensures.arcs
    ∙ ap (λ slot. map (retargeted ((c.loop-place.place, slot) ∷ [])) c.loop-place.lists.arcs) (c.slot_for.ensures ∙ ap (λ p. p.1) (sym at))
    ∙ ap (λ number. map (retargeted ((number, (get_or moves c.loop-place.place (0, 0)).1) ∷ [])) c.loop-place.lists.arcs) here in (
      record { targets = c.merge.ensures.kept.targets ∙ kept.targets; room = c.merge.ensures.kept.room ∙ kept.room },
      settles 0 c.loop-place.place MOST_MOVES moves (0, 0) within few _ _ _ (AreAbove-slots c.args.waits c.args.moves.now) c.loop-place.invariant.1 sent,
      c.merge.ensures.changed ∙ c.loop-place.invariant.2,
      c.merge.ensures.newest ∙ c.loop-place.invariant.3,
    )

pub returns-clause-arcs : goal.returns-clause-arcs
returns-clause-arcs c =
    let moves = in_slots c.args.waits c.args.moves.now in
    c.loop-place.invariant.1 ∙ ap (λ ms. map (landed 0 ms) c.args.lists.now.arcs) (take_all c.loop-place.place moves (omega (arith, length-map c.args.moves.now (raised c.args.waits))))
