use Rattle.std.proofs.Common.{◌≡◌, ◌++◌, map, take}
use Rattle.dactl_syntax.specs.Canonical.{separated, bar, rule_text}
use Rattle.dactl_syntax.proofs.write_rules.rules.Given as goal

abbrev pub invariant-loop-index : goal.invariant-loop-index
invariant-loop-index l = l.out.items ≡ l.initial.out.items ++ separated bar (map rule_text (take l.index l.rules))
