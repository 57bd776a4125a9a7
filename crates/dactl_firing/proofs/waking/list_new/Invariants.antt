use Rattle.std.proofs.Common.{◌≡◌, ◌+◌, ◌≤◌, ◌++◌, length, drop}
use Rattle.dactl_firing.specs.Waking.{new_acts}
use Rattle.dactl_firing.proofs.waking.list_new.Given as goal

-- with the active ones among the rest the list is as with all of them
abbrev pub invariant-loop-place : goal.invariant-loop-place
invariant-loop-place l = record {
  list : l.woken.list ++ new_acts (l.first + l.place) (drop l.place l.fresh) ≡ l.initial.woken.list ++ new_acts l.first l.fresh;
  few : length l.woken.list ≤ length l.initial.woken.list + l.place;
  room : l.woken.room ≡ l.initial.woken.room;
}
