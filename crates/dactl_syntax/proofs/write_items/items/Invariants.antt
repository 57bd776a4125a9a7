use Rattle.std.proofs.Common.{◌≡◌, ◌++◌, map, take}
use Rattle.std.specs.List.{concat}
use Rattle.dactl_syntax.specs.Canonical.{item_text}
use Rattle.dactl_syntax.proofs.write_items.items.Given as goal

abbrev pub invariant-loop-one : goal.invariant-loop-one
invariant-loop-one l = l.out.items ≡ l.initial.out.items ++ concat (map item_text (take l.one-index l.items))
