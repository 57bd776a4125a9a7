use Rattle.std.proofs.Common.{◌≡◌, ◌++◌, take, map}
use Rattle.dactl_symbols.specs.Finds.{byte_of}
use Rattle.dactl_symbols.proofs.survey.list_rules.Given as goal

abbrev pub invariant-loop-rule : goal.invariant-loop-rule
invariant-loop-rule l = map byte_of l.places.items ≡ map byte_of l.initial.places.items ++ map (λ r. r.place.byte) (take l.rule-index l.rules)
