use Rattle.std.proofs.Common.{arith}
use Rattle.std.proofs.lemmas.List.Sums.{prefix_len-le-length}
use Rattle.dactl_base.proofs.Passing.{passing_front, stopping_back}
use Rattle.dactl_resume.specs.Parts.{is_label_byte}
use Rattle.dactl_resume.proofs.labels.split_word.Goals as goal

pub split_at-requires : goal.split_at-requires
split_at-requires c = omega (arith, prefix_len-le-length is_label_byte c.args.bytes.now, c.count_word.ensures)

pub returns-clause-word : goal.returns-clause-word
returns-clause-word c = passing_front is_label_byte c.args.bytes.now _ _ c.split_at.ensures.front c.count_word.ensures

pub returns-clause-behind : goal.returns-clause-behind
returns-clause-behind c = stopping_back is_label_byte c.args.bytes.now _ _ c.split_at.ensures.back c.count_word.ensures
