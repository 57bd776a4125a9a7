use Rattle.std.proofs.Common.{◌≡◌, take}
use Rattle.dactl_meaning.specs.RuleFaults.{lefts_of}
use Rattle.dactl_contractum.specs.Lefts.{words}
use Rattle.dactl_contractum.proofs.lefts.lefts.Given as goal

abbrev pub invariant-loop-part : goal.invariant-loop-part
invariant-loop-part l = words l.lefts.items ≡ lefts_of (take l.part-index l.parts)
