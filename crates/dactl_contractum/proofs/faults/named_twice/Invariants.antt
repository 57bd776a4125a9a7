use Rattle.std.proofs.Common.{map, take}
use Rattle.dactl_base.specs.declared.refusal.Kind.TheVariants as kinds
use Rattle.dactl_meaning.specs.Contractum.{given_names}
use Rattle.dactl_contractum.specs.Drawing.{sketch_of}
use Rattle.dactl_contractum.proofs.Twice.{AreTwice}
use Rattle.dactl_contractum.proofs.faults.named_twice.Given as goal

abbrev pub invariant-loop-sketch : goal.invariant-loop-sketch
invariant-loop-sketch l = AreTwice kinds.NamedTwice l.variables (given_names (map sketch_of (take l.sketch-index l.made))) l.seen l.initial.faults.items l.faults.items
