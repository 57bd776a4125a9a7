use Rattle.std.proofs.Common.{◌<◌, ◌≤◌, ◌+◌, length, get_or, arith}
use Rattle.std.proofs.lemmas.List.{length-map}
use Rattle.dactl_arcs.specs.declared.pool.TheConstants.{MOST_MOVES}
use Rattle.dactl_arcs.specs.Slots.{in_slots, raised}
use Rattle.dactl_arcs.proofs.Moving.{moves_all}
use Rattle.dactl_arcs.proofs.Housing.{slot_below}
use Rattle.dactl_arcs.proofs.pool.move_slots.Goals as goal

pub slot_for-from-requires : goal.slot_for-from-requires
slot_for-from-requires c =
    let inside : 0 < length c.args.moves.now = omega arith in
    omega (arith, (c.requires.below 0 (0, 0) inside).0, c.requires.fits)

pub slot_for-to-requires : goal.slot_for-to-requires
slot_for-to-requires c =
    let inside : 0 < length c.args.moves.now = omega arith in
    omega (arith, (c.requires.below 0 (0, 0) inside).1, c.requires.fits)

pub move_slot-requires-clause-from_in_range : goal.move_slot-requires-clause-from_in_range
move_slot-requires-clause-from_in_range c =
    let inside : 0 < length c.args.moves.now = omega arith in
    let pair = get_or c.args.moves.now 0 (0, 0) in
    omega (arith, slot_below pair.0 c.args.waits _ (c.requires.below 0 (0, 0) inside).0, c.slot_for-from.ensures)

pub move_slot-requires-clause-to_in_range : goal.move_slot-requires-clause-to_in_range
move_slot-requires-clause-to_in_range c =
    let inside : 0 < length c.args.moves.now = omega arith in
    let pair = get_or c.args.moves.now 0 (0, 0) in
    omega (arith, slot_below pair.1 c.args.waits _ (c.requires.below 0 (0, 0) inside).1, c.slot_for-to.ensures)

pub returns-clause-arcs : goal.returns-clause-arcs
returns-clause-arcs c =
    let moves = in_slots c.args.waits c.args.moves.now in
    let few : 0 + length moves ≤ MOST_MOVES = omega (arith, length-map c.args.moves.now (raised c.args.waits), c.requires.few) in
    moves_all 0 MOST_MOVES moves _ _ _ few c.requires.ends c.park.ensures.arcs c.land.ensures.arcs
