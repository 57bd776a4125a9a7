use Rattle.std.proofs.Common.{◌≡◌, ◌++◌, map, take}
use Rattle.dactl_syntax.specs.Canonical.{separated, comma, term_text}
use Rattle.dactl_syntax.proofs.write_items.terms.Given as goal

abbrev pub invariant-loop-index : goal.invariant-loop-index
invariant-loop-index l = l.out.items ≡ l.initial.out.items ++ separated comma (map term_text (take l.index l.terms))
