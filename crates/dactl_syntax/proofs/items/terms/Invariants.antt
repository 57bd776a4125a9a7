use Rattle.std.proofs.Common.{length}
use Rattle.dactl_terminals.specs.declared.token.Sort.TheVariants as s
use Rattle.dactl_terminals.specs.Sort.{same_sort}
use Rattle.dactl_terminals.specs.Seen.{toks}
use Rattle.dactl_terminals.proofs.Steps.{HasFound}
use Rattle.dactl_syntax.specs.Reading.{comma_term_at, terms_at}
use Rattle.dactl_syntax.proofs.items.terms.Given as goal

abbrev pub invariant-more : goal.invariant-more
invariant-more l = HasFound (same_sort s.Comma) (comma_term_at l.room) l.found l.text l.rest (terms_at l.room (toks l.text l.tokens))

abbrev pub decreases-more : goal.decreases-more
decreases-more l = length l.rest
