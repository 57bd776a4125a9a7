use Rattle.std.proofs.Common.{true, false, sym, ◌∙◌}
use Rattle.dactl_tokens.proofs.Longest.{name_found, lower_found, digit_found}
use Rattle.dactl_tokens.proofs.words.word.Goals as goal

pub returns-then-is_keyword-clause-some : goal.returns-then-is_keyword-clause-some
returns-then-is_keyword-clause-some c = name_found c.args.wide c.args.first c.args.rest.now c.args.bytes.now _ c.run_len-n.result true c.requires c.split_at.ensures.front (sym c.is_keyword.ensures ∙ c.if-is_keyword.true) (sym c.is_upper.ensures ∙ c.if-is_upper.true) c.run_len-n.ensures

pub returns-then-is_upper-clause-some : goal.returns-then-is_upper-clause-some
returns-then-is_upper-clause-some c = name_found c.args.wide c.args.first c.args.rest.now c.args.bytes.now _ c.run_len-n.result false c.requires c.split_at.ensures.front (sym c.is_keyword.ensures ∙ c.if-is_keyword.false) (sym c.is_upper.ensures ∙ c.if-is_upper.true) c.run_len-n.ensures

pub returns-then-is_lower-clause-some : goal.returns-then-is_lower-clause-some
returns-then-is_lower-clause-some c = lower_found c.args.wide c.args.first c.args.rest.now c.run_len-n-then-is_lower.result (sym c.is_upper.ensures ∙ c.if-is_upper.false) (sym c.is_lower.ensures ∙ c.if-is_lower.true) c.run_len-n-then-is_lower.ensures

pub returns-then-is_digit-clause-some : goal.returns-then-is_digit-clause-some
returns-then-is_digit-clause-some c = digit_found c.args.wide c.args.first c.args.rest.now c.run_len-n-then-is_digit.result (sym c.is_upper.ensures ∙ c.if-is_upper.false) (sym c.is_lower.ensures ∙ c.if-is_lower.false) (sym c.is_digit.ensures ∙ c.if-is_digit.true) c.run_len-n-then-is_digit.ensures
