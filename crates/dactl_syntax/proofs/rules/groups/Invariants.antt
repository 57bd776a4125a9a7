use Rattle.std.proofs.Common.{length}
use Rattle.dactl_syntax.specs.Sort.{starts_piece}
use Rattle.dactl_terminals.specs.Seen.{toks}
use Rattle.dactl_terminals.proofs.Steps.{HasFound}
use Rattle.dactl_syntax.specs.Reading.{group_at, groups_at}
use Rattle.dactl_syntax.proofs.rules.groups.Given as goal

abbrev pub invariant-more : goal.invariant-more
invariant-more l = HasFound starts_piece (group_at l.room) l.found l.text l.rest (groups_at l.room (toks l.text l.tokens))

abbrev pub decreases-more : goal.decreases-more
decreases-more l = length l.rest
