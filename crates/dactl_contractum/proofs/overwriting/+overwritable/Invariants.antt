use Rattle.std.proofs.Common.{◌≡◌, false, take}
use Rattle.dactl_model.specs.declared.program.Class.TheVariants as classes
use Rattle.dactl_meaning.specs.RuleFaults.{is_class}
use Rattle.dactl_symbols.specs.Scoping.{class_in}
use Rattle.dactl_contractum.specs.Writing.{some_give}
use Rattle.dactl_contractum.proofs.overwriting.+overwritable.Given as goal

abbrev pub invariant-in_arguments-loop-argument : goal.invariant-in_arguments-loop-argument
invariant-in_arguments-loop-argument l = some_give (λ f. is_class classes.Overwritable (class_in l.scopes l.owner f)) l.variable (take l.argument-index l.args) ≡ false
