use Rattle.std.proofs.Common.{◌≡◌, ◌++◌, take, map}
use Rattle.dactl_symbols.specs.Declaring.{import_of}
use Rattle.dactl_symbols.proofs.survey.list_imports.Given as goal

abbrev pub invariant-loop-name : goal.invariant-loop-name
invariant-loop-name l = map import_of l.imports.items ≡ map import_of l.initial.imports.items ++ map (λ n. record { owner = l.owner; name = n }) (take l.name-index l.names)
