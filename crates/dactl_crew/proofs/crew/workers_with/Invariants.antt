use Rattle.std.proofs.Common.{◌≡◌, ◌++◌, All, map, length}
use Rattle.std.specs.Vec.Iter.{into_iter_items, into_iter_len}
use Rattle.dactl_shared.specs.declared.store.WorkerSeat.{WorkerSeat}
use Rattle.dactl_shared.specs.Stores.{IsFresh}
use Rattle.dactl_crew.specs.Boards.{IsNewHand}
use Rattle.dactl_crew.specs.Crews.{IsIdle, numbers_of}
use Rattle.dactl_crew.proofs.Words.{words_of}
use Rattle.dactl_crew.proofs.crew.workers_with.Given as goal

-- the seats and hands that are still to come, and the workers that have theirs
abbrev pub invariant-loop-seat : goal.invariant-loop-seat
invariant-loop-seat g l = record {
  seats : All (IsFresh l.store) (into_iter_items l.seat-iterator);
  long : into_iter_len l.seat-iterator ≡ length (into_iter_items l.seat-iterator);
  hands : All (IsNewHand (g.B.Board.fits l.board) g.B.Board.put g.B.Board.taken g.B.Board.back) l.hands.items;
  count : length l.hands.items ≡ length (into_iter_items l.seat-iterator);
  each : All (IsIdle (words_of g.B.Board g.B.CrewBoard) l.store l.board l.widest) l.workers.items;
  numbers : numbers_of l.workers.items ++ map (λ (s : WorkerSeat). s.number) (into_iter_items l.seat-iterator) ≡ map (λ (s : WorkerSeat). s.number) l.fn.seats.items;
}
