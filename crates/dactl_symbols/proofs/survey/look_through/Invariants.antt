use Rattle.std.proofs.Common.{◌≡◌, take}
use Rattle.std.specs.List.{enumerate_from}
use Rattle.dactl_meaning.specs.Declarations.{built_in_names}
use Rattle.dactl_symbols.specs.Finds.{finds_of, no_finds, joined, joined_all, module_finds}
use Rattle.dactl_symbols.proofs.survey.look_through.Given as goal

abbrev pub invariant-loop-owner : goal.invariant-loop-owner
invariant-loop-owner l = finds_of l.survey ≡ joined (record no_finds { names = built_in_names }) (joined_all module_finds (take l.owner (enumerate_from 0 l.tree-items)))
