use Rattle.std.proofs.Common.{◌≡◌, ◌++◌, map, drop}
use Rattle.dactl_patterns.specs.Naming.{has_word}
use Rattle.dactl_patterns.specs.Occurring.{seen}
use Rattle.dactl_patterns.specs.TreeFaults.{none_given, twice_faults}
use Rattle.dactl_patterns.proofs.faults.named_twice.Given as goal

-- what is found, and what the rest will add, is all
abbrev pub invariant-loop-occurrence : goal.invariant-loop-occurrence
invariant-loop-occurrence l = l.faults.items ++ twice_faults (has_word l.names) (map seen (drop l.occurrence-index l.occurrences)) ≡ l.initial.faults.items ++ twice_faults none_given (map seen l.occurrences)
