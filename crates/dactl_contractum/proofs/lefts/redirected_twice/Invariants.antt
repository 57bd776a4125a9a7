use Rattle.std.proofs.Common.{take}
use Rattle.std.specs.List.{filter}
use Rattle.dactl_base.specs.declared.refusal.Kind.TheVariants as kinds
use Rattle.dactl_meaning.specs.Expansion.{is_among}
use Rattle.dactl_contractum.specs.Lefts.{words}
use Rattle.dactl_contractum.proofs.Twice.{AreTwice}
use Rattle.dactl_contractum.proofs.lefts.redirected_twice.Given as goal

abbrev pub invariant-loop-left : goal.invariant-loop-left
invariant-loop-left l = AreTwice kinds.RedirectedTwice l.redirected (filter (λ n. is_among l.variables n.text) (words (take l.left-index l.lefts))) l.seen l.initial.faults.items l.faults.items
