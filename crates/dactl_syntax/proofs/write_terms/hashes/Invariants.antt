use Rattle.std.proofs.Common.{◌≡◌, ◌++◌, ◌∷◌, []}
use Rattle.dactl_syntax.specs.Canonical.{word, repeated}
use Rattle.dactl_syntax.proofs.write_terms.hashes.Given as goal

abbrev pub invariant-hash : goal.invariant-hash
invariant-hash l = l.out.items ≡ l.initial.out.items ++ repeated l._index (word (35 ∷ []))
