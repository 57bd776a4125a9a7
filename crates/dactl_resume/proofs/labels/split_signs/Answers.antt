use Rattle.std.proofs.Common.{arith}
use Rattle.std.proofs.lemmas.List.Sums.{prefix_len-le-length}
use Rattle.dactl_base.proofs.Passing.{passing_front, stopping_back}
use Rattle.dactl_resume.specs.Parts.{is_sign}
use Rattle.dactl_resume.proofs.labels.split_signs.Goals as goal

pub split_at-requires : goal.split_at-requires
split_at-requires c = omega (arith, prefix_len-le-length is_sign c.args.bytes.now, c.count_signs.ensures)

pub returns-clause-signs : goal.returns-clause-signs
returns-clause-signs c = passing_front is_sign c.args.bytes.now _ _ c.split_at.ensures.front c.count_signs.ensures

pub returns-clause-behind : goal.returns-clause-behind
returns-clause-behind c = stopping_back is_sign c.args.bytes.now _ _ c.split_at.ensures.back c.count_signs.ensures
