use Rattle.std.proofs.Common.{◌+ℤ◌, ◌-ℤ◌, ◌*ℤ◌}
use Rattle.std.specs.Int.{w128}
use Rattle.std.proofs.Math.Facts.{to_z-of_z}
use Rattle.dactl_model.proofs.InRange.{in_range}
use Rattle.dactl_model.proofs.arithmetic.has_result.Goals as goal

pub returns-in-Add : goal.returns-in-Add
returns-in-Add c =
    let is = in_range c.args.wide c.checked_add.result (c.args.x +ℤ c.args.y) (rw (to_z-of_z {w = w128} {z = c.args.x} c.ranges.x, to_z-of_z {w = w128} {z = c.args.y} c.ranges.y) at c.checked_add.ensures) in
    rw c.in-Add.is (λ e. is.0 (c.is_in_range.ensures.0 e), λ inside. c.is_in_range.ensures.1 (is.1 inside))

pub returns-in-Sub : goal.returns-in-Sub
returns-in-Sub c =
    let is = in_range c.args.wide c.checked_sub.result (c.args.x -ℤ c.args.y) (rw (to_z-of_z {w = w128} {z = c.args.x} c.ranges.x, to_z-of_z {w = w128} {z = c.args.y} c.ranges.y) at c.checked_sub.ensures) in
    rw c.in-Sub.is (λ e. is.0 (c.is_in_range-in-Sub.ensures.0 e), λ inside. c.is_in_range-in-Sub.ensures.1 (is.1 inside))

pub returns-in-Mul : goal.returns-in-Mul
returns-in-Mul c =
    let is = in_range c.args.wide c.checked_mul.result (c.args.x *ℤ c.args.y) (rw (to_z-of_z {w = w128} {z = c.args.x} c.ranges.x, to_z-of_z {w = w128} {z = c.args.y} c.ranges.y) at c.checked_mul.ensures) in
    rw c.in-Mul.is (λ e. is.0 (c.is_in_range-in-Mul.ensures.0 e), λ inside. c.is_in_range-in-Mul.ensures.1 (is.1 inside))
