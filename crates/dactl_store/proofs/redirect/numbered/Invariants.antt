use Rattle.std.proofs.Common.{◌≡◌, length, take}
use Rattle.dactl_store.specs.Redirecting.{number_pairs}
use Rattle.dactl_store.proofs.redirect.numbered.Given as goal

-- the numbers so far
abbrev pub invariant-loop-place : goal.invariant-loop-place
invariant-loop-place l = record { so_far : take l.place l.pairs ≡ number_pairs (take l.place l.moves); long : length l.pairs ≡ 65 }
