use Rattle.std.proofs.Common.{arith}
use Rattle.std.specs.Char.{is_ascii_digit}
use Rattle.std.proofs.lemmas.List.Sums.{prefix_len-le-length}
use Rattle.dactl_base.proofs.Passing.{passing_front, stopping_back}
use Rattle.dactl_base.proofs.numbers.split_digits.Goals as goal

pub split_at-requires : goal.split_at-requires
split_at-requires c = omega (arith, prefix_len-le-length is_ascii_digit c.args.bytes.now, c.count_digits.ensures)

pub returns-clause-digits : goal.returns-clause-digits
returns-clause-digits c = passing_front is_ascii_digit c.args.bytes.now _ _ c.split_at.ensures.front c.count_digits.ensures

pub returns-clause-behind : goal.returns-clause-behind
returns-clause-behind c = stopping_back is_ascii_digit c.args.bytes.now _ _ c.split_at.ensures.back c.count_digits.ensures
