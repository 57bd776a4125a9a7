use Rattle.std.proofs.Common.{◌≡◌, ◌++◌, take}
use Rattle.std.specs.List.{flat_map}
use Rattle.dactl_model.specs.declared.program.Class.TheVariants as classes
use Rattle.dactl_meaning.specs.RuleFaults.{is_class}
use Rattle.dactl_symbols.specs.Scoping.{class_in}
use Rattle.dactl_contractum.specs.Lefts.{words, left_fixed}
use Rattle.dactl_contractum.proofs.lefts.not_overwritable.Given as goal

abbrev pub invariant-loop-left : goal.invariant-loop-left
invariant-loop-left l = l.faults.items ≡ l.initial.faults.items ++ flat_map (left_fixed (λ f. is_class classes.Overwritable (class_in l.viewer.scopes.now l.viewer.owner f)) l.variables l.roots l.pattern) (words (take l.left-index l.lefts))
