use Rattle.std.proofs.Common.{◌≡◌, ◌-◌, ◌≤◌, ◌++◌, length, replicate, vec_capacity}
use Rattle.dactl_active.specs.Round.{blank}
use Rattle.dactl_active.proofs.places.store.Given as goal

-- the places so far are stored
abbrev pub invariant-loop-at : goal.invariant-loop-at
invariant-loop-at l =
    let old = l.initial.stored.items in
    (length old ≤ l.at) × (l.stored.items ≡ old ++ replicate (l.at - length old) blank) × (vec_capacity l.stored ≡ vec_capacity l.initial.stored)
