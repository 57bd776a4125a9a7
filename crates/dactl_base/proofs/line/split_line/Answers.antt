use Rattle.std.proofs.Common.{◌+◌, ◌==◌, ℕ, min, not, length, take, ap, ◌∙◌, arith}
use Rattle.std.proofs.lemmas.List.Sums.{prefix_len-le-length}
use Rattle.dactl_base.proofs.NextLine.{line_front}
use Rattle.dactl_base.proofs.line.split_line.Goals as goal

pub overflow_add-count_before_feed : goal.overflow_add-count_before_feed
overflow_add-count_before_feed c = omega (arith, prefix_len-le-length (λ (b : ℕ). not (b == 10)) c.args.bytes.now, c.count_before_feed.ensures, c.requires.few)

pub returns-clause-line : goal.returns-clause-line
returns-clause-line c =
    let len = c.min-len.ensures ∙ ap (λ (k : ℕ). min (k + 1) (length c.args.bytes.now)) c.count_before_feed.ensures in
    c.split_at.ensures.front ∙ ap (λ (k : ℕ). take k c.args.bytes.now) len ∙ line_front c.args.bytes.now
