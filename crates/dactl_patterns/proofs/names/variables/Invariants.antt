use Rattle.std.proofs.Common.{◌≡◌, take}
use Rattle.dactl_meaning.specs.Expansion.{is_among, each_once}
use Rattle.dactl_patterns.specs.Naming.{has_word, names_in}
use Rattle.dactl_patterns.proofs.names.variables.Given as goal

-- the set has the names so far, and the list has them each once
abbrev pub invariant-loop-occurrence : goal.invariant-loop-occurrence
invariant-loop-occurrence l = record {
  held : has_word l.seen ≡ is_among (names_in (take l.occurrence-index l.occurrences));
  names : l.names ≡ each_once (names_in (take l.occurrence-index l.occurrences));
}
