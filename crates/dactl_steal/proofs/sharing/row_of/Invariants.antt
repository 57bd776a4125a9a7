use Rattle.std.proofs.Common.{◌≤◌, length}
use Rattle.dactl_steal.proofs.Shares.{RowState}
use Rattle.dactl_steal.proofs.sharing.row_of.Given as goal

abbrev pub invariant-loop-place : goal.invariant-loop-place
invariant-loop-place l = record {
  end : l.place ≤ length l.initial.hands;
  so : RowState l.number l.place l.initial.hands l.hands l.row.items;
}
