use Rattle.std.proofs.Common.{arith}
use Rattle.dactl_names.proofs.Numbers.{room_before}
use Rattle.dactl_names.proofs.map.packed.Goals as goal

pub overflow_mul-number : goal.overflow_mul-number
overflow_mul-number c =
    let room = room_before c.args.name.now c.bytes.from c.bytes.number c.requires c.bytes-test.true c.bytes.invariant.within c.bytes.invariant.bytes c.bytes.invariant.number in omega (arith, room)

pub overflow_add-number : goal.overflow_add-number
overflow_add-number c =
    let room = room_before c.args.name.now c.bytes.from c.bytes.number c.requires c.bytes-test.true c.bytes.invariant.within c.bytes.invariant.bytes c.bytes.invariant.number in omega (arith, room)

pub overflow_add-number-in-bytes : goal.overflow_add-number-in-bytes
overflow_add-number-in-bytes c =
    let room = room_before c.args.name.now c.bytes.from c.bytes.number c.requires c.bytes-test.true c.bytes.invariant.within c.bytes.invariant.bytes c.bytes.invariant.number in omega (arith, room)
