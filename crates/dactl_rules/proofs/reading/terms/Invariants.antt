use Rattle.std.proofs.Common.{◌≡◌, map, take}
use Rattle.dactl_meaning.specs.Contractum.{term_of_part}
use Rattle.dactl_contractum.specs.Terms.{seen}
use Rattle.dactl_rules.proofs.reading.terms.Given as goal

abbrev pub invariant-loop-part : goal.invariant-loop-part
invariant-loop-part l = seen l.terms.items ≡ map term_of_part (take l.part-index l.parts)
