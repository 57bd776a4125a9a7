use Rattle.std.proofs.Common.{◌≡◌, ◌≤◌, length}
use Rattle.dactl_steal.proofs.Shares.{Sharing}
use Rattle.dactl_steal.proofs.sharing.share_out.Given as goal

abbrev pub invariant-loop-number : goal.invariant-loop-number
invariant-loop-number l = record {
  end : l.number ≤ length l.initial.hands;
  long : length l.hands ≡ length l.initial.hands;
  shared : Sharing l.number l.initial.hands l.hands;
}
