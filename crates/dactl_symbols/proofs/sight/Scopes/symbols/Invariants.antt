use Rattle.std.proofs.Common.{◌≡◌, map, take}
use Rattle.std.specs.List.{filter_map}
use Rattle.dactl_meaning.specs.Declarations.{entity_symbol}
use Rattle.dactl_symbols.specs.Declaring.{declaration_of}
use Rattle.dactl_symbols.proofs.sight.Scopes.symbols.Given as goal

abbrev pub invariant-loop-declared : goal.invariant-loop-declared
invariant-loop-declared l = l.symbols.items ≡ filter_map (λ d. entity_symbol d.name.text d.entity) (map declaration_of (take l.declared-index l.declared-items))
