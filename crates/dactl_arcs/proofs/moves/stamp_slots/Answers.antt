use Rattle.std.proofs.Common.{◌<◌, length, arith}
use Rattle.dactl_arcs.proofs.StampedSlots.{more_stamped, all_stamped, none_stamped}
use Rattle.dactl_arcs.proofs.moves.stamp_slots.Goals as goal

pub loop-pair-init : goal.loop-pair-init
loop-pair-init c = none_stamped c.args.moves.now c.args.stamp _

pub stamp_both-requires-clause-below : goal.stamp_both-requires-clause-below
stamp_both-requires-clause-below c =
    let inside : c.loop-pair.pair-index < length c.args.moves.now = omega arith in
    omega (arith, (c.requires.below c.loop-pair.pair-index (0, 0) inside).0, c.loop-pair.invariant.long)

pub stamp_both-requires-clause-fits : goal.stamp_both-requires-clause-fits
stamp_both-requires-clause-fits c =
    let inside : c.loop-pair.pair-index < length c.args.moves.now = omega arith in
    omega (arith, (c.requires.below c.loop-pair.pair-index (0, 0) inside).0, c.requires.fits)

pub loop-pair-preserved : goal.loop-pair-preserved
loop-pair-preserved c =
    let inside : c.loop-pair.pair-index < length c.args.moves.now = omega arith in
    more_stamped c.args.moves.now c.loop-pair.pair-index (0, 0) c.args.stamp _ _ _ _ inside (c.requires.below c.loop-pair.pair-index (0, 0) inside).0 c.moved_number-to.ensures c.stamp_both.ensures c.loop-pair.invariant

pub returns : goal.returns
returns c = all_stamped c.args.moves.now c.loop-pair.pair-index c.args.stamp _ _ (omega arith) c.loop-pair.invariant
