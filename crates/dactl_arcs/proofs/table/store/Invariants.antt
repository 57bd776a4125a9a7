use Rattle.std.proofs.Common.{◌≡◌, ◌-◌, ◌≤◌, ◌++◌, length, vec_capacity}
use Rattle.dactl_arcs.specs.Tables.{initials}
use Rattle.dactl_arcs.proofs.table.store.Given as goal

-- the places so far are stored
abbrev pub invariant-loop-at : goal.invariant-loop-at
invariant-loop-at l =
    let old = l.initial.stored.items in
    (length old ≤ l.at) × (l.stored.items ≡ old ++ initials l.counts (length old) (l.at - length old)) × (vec_capacity l.stored ≡ vec_capacity l.initial.stored)
