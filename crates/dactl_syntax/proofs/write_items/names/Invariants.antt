use Rattle.std.proofs.Common.{◌≡◌, ◌++◌, map, take}
use Rattle.dactl_meaning.specs.declared.tree.Name.{Name}
use Rattle.dactl_syntax.specs.Canonical.{separated, comma, word}
use Rattle.dactl_syntax.proofs.write_items.names.Given as goal

abbrev pub invariant-loop-index : goal.invariant-loop-index
invariant-loop-index l = l.out.items ≡ l.initial.out.items ++ separated comma (map (λ (n : Name). word n.text) (take l.index l.names))
