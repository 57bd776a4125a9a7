use Rattle.std.proofs.Common.{◌≡◌, ◌++◌, take, map}
use Rattle.dactl_meaning.specs.Declarations.{Written, AsSymbol}
use Rattle.dactl_symbols.specs.Declaring.{declaration_of}
use Rattle.dactl_symbols.proofs.survey.list_symbols.Given as goal

abbrev pub invariant-loop-name : goal.invariant-loop-name
invariant-loop-name l = map declaration_of l.declared.items ≡ map declaration_of l.initial.declared.items ++ map (λ n. record { name = n; home = Written l.owner; entity = AsSymbol l.class l.public }) (take l.name-index l.names)
