use Rattle.std.proofs.Common.{◌≡◌, ◌++◌, map, take}
use Rattle.std.specs.List.{concat}
use Rattle.dactl_syntax.specs.declared.write_patterns.Standing.TheVariants as standing
use Rattle.dactl_syntax.specs.Canonical.{pattern_text, tail_text}
use Rattle.dactl_syntax.proofs.write_patterns.+write_patterns.Given as goal

abbrev pub invariant-pieces-loop-piece : goal.invariant-pieces-loop-piece
invariant-pieces-loop-piece l = l.out.items ≡ l.initial.out.items ++ concat (map (pattern_text standing.Inner) (take l.piece-index l.args))

abbrev pub invariant-links-loop-link : goal.invariant-links-loop-link
invariant-links-loop-link l = l.out.items ≡ l.initial.out.items ++ concat (map tail_text (take l.link-index l.rest))
