use Rattle.std.proofs.Common.{◌≡◌, length, take}
use Rattle.dactl_firing.specs.Site.{pairs_of}
use Rattle.dactl_firing.proofs.site.Site.pairs.Given as goal

-- the pairs so far
abbrev pub invariant-loop-place : goal.invariant-loop-place
invariant-loop-place l = record { so_far : take l.place l.pairs ≡ pairs_of l.first l.self.node l.self.bindings.now (take l.place l.moves); long : length l.pairs ≡ 65 }
