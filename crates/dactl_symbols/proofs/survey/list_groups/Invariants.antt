use Rattle.std.proofs.Common.{◌≡◌, ◌++◌, take, map}
use Rattle.dactl_symbols.specs.Finds.{byte_of, rule_bytes}
use Rattle.dactl_symbols.proofs.survey.list_groups.Given as goal

abbrev pub invariant-loop-group : goal.invariant-loop-group
invariant-loop-group l = map byte_of l.places.items ≡ map byte_of l.initial.places.items ++ rule_bytes (take l.group-index l.groups)
