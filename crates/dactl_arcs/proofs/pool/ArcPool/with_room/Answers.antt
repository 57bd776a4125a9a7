use Rattle.std.proofs.Common.{length, ap, arith}
use Rattle.dactl_arcs.proofs.Housing.{over_self, targets_when}
use Rattle.dactl_arcs.proofs.pool.ArcPool.with_room.Goals as goal

pub invariant_of-result : goal.invariant_of-result
invariant_of-result c =
    over_self c.args.targets c.in_ok-with_room.field-0 (record {
      slots = c.in_ok-with_room.ensures.slots;
      fits = omega arith;
      ends = λ k d inside. absurd (omega (arith, ap length c.in_ok-with_room.ensures.arcs));
    })

pub returns-clause-number : goal.returns-clause-number
returns-clause-number c = targets_when c.args.targets c.in_ok-with_room.field-0 c.in_ok-with_room.ensures.slots
