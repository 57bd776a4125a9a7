use Rattle.std.proofs.Common.{length}
use Rattle.dactl_terminals.specs.declared.token.Sort.TheVariants as s
use Rattle.dactl_terminals.specs.Sort.{same_sort}
use Rattle.dactl_terminals.specs.Reads.{comma_upper_at, names_at}
use Rattle.dactl_terminals.specs.Seen.{toks}
use Rattle.dactl_terminals.proofs.Steps.{HasFound}
use Rattle.dactl_terminals.proofs.names.names.Given as goal

abbrev pub invariant-more : goal.invariant-more
invariant-more l = HasFound (same_sort s.Comma) comma_upper_at l.found l.text l.rest (names_at (toks l.text l.tokens))

abbrev pub decreases-more : goal.decreases-more
decreases-more l = length l.rest
