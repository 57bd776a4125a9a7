use Rattle.std.proofs.Common.{◌≡◌, map, take}
use Rattle.std.specs.List.{filter_map}
use Rattle.dactl_symbols.specs.Declaring.{declaration_of}
use Rattle.dactl_symbols.specs.Sights.{owned_of, owned_in}
use Rattle.dactl_symbols.proofs.sight.list_owned.Given as goal

abbrev pub invariant-loop-declared : goal.invariant-loop-declared
invariant-loop-declared l = map owned_of l.owned.items ≡ filter_map owned_in (map declaration_of (take l.declared-index l.declared-items))
