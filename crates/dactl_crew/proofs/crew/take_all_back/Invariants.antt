use Rattle.std.proofs.Common.{◌≡◌, ◌+◌, ◌*◌, ◌≤◌, ◌++◌, All, map, length, vec_capacity}
use Rattle.std.specs.List.{sum_by}
use Rattle.std.specs.Vec.Iter.{into_iter_items, into_iter_len}
use Rattle.dactl_shared.specs.Endings.{HadSeenEnd}
use Rattle.dactl_shared.specs.Stores.{program_of, rejoined, SameStore}
use Rattle.dactl_workers.specs.declared.report.WorkerReport.{WorkerReport}
use Rattle.dactl_crew.specs.Crews.{IsDone, IsOfSeat, numbers_of}
use Rattle.dactl_crew.proofs.Words.{words_of}
use Rattle.dactl_crew.proofs.crew.take_all_back.Given as goal

-- what is still to be taken back, and what was
abbrev pub invariant-loop-worker : goal.invariant-loop-worker
invariant-loop-worker g l = record {
  each : All (IsDone (words_of g.B.Board g.B.CrewBoard) l.initial.store l.initial.board) (into_iter_items l.worker-iterator);
  long : into_iter_len l.worker-iterator ≡ length (into_iter_items l.worker-iterator);
  store : SameStore l.initial.store l.store;
  sound : g.B.CrewBoard.is_sound l.board;
  hands : (hand : g.row.B-Hand.Denot) → g.B.Board.fits l.initial.board hand → g.B.Board.fits l.board hand;
  seats : length (rejoined l.store) + length (into_iter_items l.worker-iterator) ≡ length l.fn.workers.items;
  parts : g.B.CrewBoard.parts l.board + g.B.CrewBoard.share l.board * length (into_iter_items l.worker-iterator) ≡ 256;
  told : All (IsOfSeat (program_of l.initial.store) (rejoined l.store)) l.reports.items;
  ended : All (HadSeenEnd l.initial.store) (rejoined l.store);
  numbers : map (λ (r : WorkerReport). r.worker) l.reports.items ++ numbers_of (into_iter_items l.worker-iterator) ≡ numbers_of l.fn.workers.items;
  room : length l.reports.items + length (into_iter_items l.worker-iterator) ≤ vec_capacity l.reports;
  puts : length (g.B.CrewBoard.puts l.board) + sum_by (λ (r : WorkerReport). r.refused) l.reports.items ≡ sum_by (λ (r : WorkerReport). r.offered) l.reports.items;
  takes : length (g.B.CrewBoard.takes l.board) ≡ sum_by (λ (r : WorkerReport). r.taken) l.reports.items;
}
