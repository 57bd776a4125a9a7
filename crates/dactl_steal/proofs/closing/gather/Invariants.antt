use Rattle.std.proofs.Common.{◌≡◌, ℕ, ◌+◌, ◌<◌, ◌≤◌, List, length}
use mathlib.Core.Option.{some}
use lib.ListN.{get_elem?}
use Rattle.crossbeam_deque.specs.Handles.{worker_deque, worker_view, SameWorker}
use Rattle.dactl_steal.specs.Closing.{RowsFit}
use Rattle.dactl_steal.specs.Others.{DequeId}
use Rattle.dactl_steal.proofs.Gathers.{Gathering}
use Rattle.dactl_steal.proofs.closing.gather.Given as goal

abbrev pub invariant-loop-place : goal.invariant-loop-place
invariant-loop-place l = record {
  same : SameWorker l.initial.deque l.deque;
  long : length l.rows ≡ length l.initial.rows;
  end : l.place ≤ length l.initial.rows;
  gathered : (deques : List DequeId) (count : ℕ) → count < length l.initial.rows → RowsFit deques (count + 1) l.initial.rows → get_elem? deques count ≡ some (worker_deque l.initial.deque)
      → Gathering deques count l.place (worker_view l.initial.deque) (worker_view l.deque) l.initial.rows l.rows;
}
