use Rattle.std.proofs.Common.{◌≡◌, take}
use Rattle.dactl_contractum.specs.Terms.{seen}
use Rattle.dactl_contractum.proofs.initials.references.Given as goal

abbrev pub invariant-loop-term : goal.invariant-loop-term
invariant-loop-term l = seen l.references.items ≡ take l.term-index l.terms
