use Rattle.std.proofs.Common.{sym, ◌∙◌}
use Rattle.dactl_tokens.proofs.Longest.{character_found, no_character_found, quote_cut}
use Rattle.dactl_tokens.proofs.words.character.Goals as goal

pub returns-then-is_character-clause-some : goal.returns-then-is_character-clause-some
returns-then-is_character-clause-some c = character_found c.args.rest.now c.in-len2-up.len_at_least (sym c.is_character.ensures ∙ c.if-is_character.true)

pub returns-else-is_character-clause-none : goal.returns-else-is_character-clause-none
returns-else-is_character-clause-none c = no_character_found c.args.rest.now c.in-len2-up.len_at_least (sym c.is_character.ensures ∙ c.if-is_character.false)

pub returns-in_default-clause-none : goal.returns-in_default-clause-none
returns-in_default-clause-none c = quote_cut c.args.rest.now c.in_default.len_below
