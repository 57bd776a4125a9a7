use Rattle.std.proofs.Common.{sym, ◌∙◌}
use Rattle.dactl_tokens.proofs.Longest.{other_kind, alone_found, none_alone, long_found, minus_found, sign_found, none_found}
use Rattle.dactl_tokens.proofs.words.sign.Goals as goal

pub returns-then-is_sign_byte-clause-some : goal.returns-then-is_sign_byte-clause-some
returns-then-is_sign_byte-clause-some c = alone_found c.args.wide c.args.first c.args.rest.now c.in-empty.len_below (other_kind c.args.wide c.args.first c.requires.upper c.requires.lower c.requires.digit c.requires.quote) (sym c.is_sign_byte.ensures ∙ c.if-is_sign_byte.true)

pub returns-else-is_sign_byte-clause-none : goal.returns-else-is_sign_byte-clause-none
returns-else-is_sign_byte-clause-none c = none_alone c.args.wide c.args.first c.args.rest.now c.in-empty.len_below (other_kind c.args.wide c.args.first c.requires.upper c.requires.lower c.requires.digit c.requires.quote) (sym c.is_sign_byte.ensures ∙ c.if-is_sign_byte.false)

pub returns-then-is_long_sign-clause-some : goal.returns-then-is_long_sign-clause-some
returns-then-is_long_sign-clause-some c = long_found c.args.wide c.args.first c.args.rest.now c.in-len1-up.len_at_least (other_kind c.args.wide c.args.first c.requires.upper c.requires.lower c.requires.digit c.requires.quote) (sym c.is_long_sign.ensures ∙ c.if-is_long_sign.true)

pub returns-then-is_minus-clause-some : goal.returns-then-is_minus-clause-some
returns-then-is_minus-clause-some c = minus_found c.args.wide c.args.first c.args.rest.now c.in-len1-up.len_at_least (other_kind c.args.wide c.args.first c.requires.upper c.requires.lower c.requires.digit c.requires.quote) c.run_len-n.result (sym c.is_long_sign.ensures ∙ c.if-is_long_sign.false) (sym c.is_minus.ensures ∙ c.if-is_minus.true) c.run_len-n.ensures

pub returns-then-is_sign_byte-2-clause-some : goal.returns-then-is_sign_byte-2-clause-some
returns-then-is_sign_byte-2-clause-some c = sign_found c.args.wide c.args.first c.args.rest.now c.in-len1-up.len_at_least (other_kind c.args.wide c.args.first c.requires.upper c.requires.lower c.requires.digit c.requires.quote) (sym c.is_long_sign.ensures ∙ c.if-is_long_sign.false) (sym c.is_minus.ensures ∙ c.if-is_minus.false) (sym c.is_sign_byte-in-len1-up.ensures ∙ c.if-is_sign_byte-2.true)

pub returns-else-is_sign_byte-2-clause-none : goal.returns-else-is_sign_byte-2-clause-none
returns-else-is_sign_byte-2-clause-none c = none_found c.args.wide c.args.first c.args.rest.now c.in-len1-up.len_at_least (other_kind c.args.wide c.args.first c.requires.upper c.requires.lower c.requires.digit c.requires.quote) (sym c.is_long_sign.ensures ∙ c.if-is_long_sign.false) (sym c.is_minus.ensures ∙ c.if-is_minus.false) (sym c.is_sign_byte-in-len1-up.ensures ∙ c.if-is_sign_byte-2.false)
