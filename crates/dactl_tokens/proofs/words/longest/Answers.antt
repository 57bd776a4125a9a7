use Rattle.dactl_tokens.proofs.Longest.{no_word_empty}
use Rattle.dactl_tokens.proofs.words.longest.Goals as goal

pub returns-in-empty-clause-none : goal.returns-in-empty-clause-none
returns-in-empty-clause-none c = no_word_empty c.args.wide c.args.bytes.now c.in-empty.len_below
