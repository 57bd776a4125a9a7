use Rattle.std.proofs.Common.{◌≡◌, take}
use Rattle.std.specs.List.{filter_map}
use Rattle.dactl_patterns.specs.Cycling.{told, pattern_at}
use Rattle.dactl_patterns.proofs.uses.Web.patterns_among.Given as goal

abbrev pub invariant-loop-one : goal.invariant-loop-one
invariant-loop-one l = l.found.items ≡ filter_map (pattern_at l.self.text.now l.owner) (told (take l.one-index l.uses))
