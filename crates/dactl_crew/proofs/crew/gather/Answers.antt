use Rattle.std.proofs.Common.{rules, ◌≡◌, ◌≤◌, ℕ, length, sym, ◌∙◌, subst, vec_capacity, arith}
use Rattle.dactl_shared.specs.Stores.{workers_of}
use Rattle.dactl_crew.specs.Crews.{IsNewBoard, AreWorkers}
use Rattle.dactl_crew.proofs.Tallies.{seats_numbered}
use Rattle.dactl_crew.proofs.Words.{words_of}
use Rattle.dactl_crew.proofs.crew.gather.Goals as goal

pub returns-clause-crew : goal.returns-clause-crew
returns-clause-crew g c =
    let words = words_of g.B.Board g.B.CrewBoard in
    let store = c.in_ok-store.store in
    let board = c.in_ok-board.board in
    let s = c.in_ok-store.ensures in
    let b = c.in_ok-board.ensures in
    let w = c.in_ok-crew.ensures in
    let many : workers_of store ≡ c.args.workers = s.store.2 in
    let long : length c.in_ok-store.seats.items ≡ c.args.workers = search rules in
    let some_workers = c.requires.workers.0 in
    let few_workers = c.requires.workers.1 in
    let capacity : c.args.workers ≤ vec_capacity c.in_ok-reports.reports = search rules in
    record {
      some = omega arith;
      few = omega arith;
      none = s.store.3;
      board = subst (IsNewBoard words board) (sym many) (record { sound = b.sound; puts = b.none.0; takes = b.none.1; parts = b.parts });
      workers = subst (λ (n : ℕ). AreWorkers words store board c.args.widest n c.in_ok-crew.crew.items) (sym many) (record { numbers = w.numbers ∙ seats_numbered c.in_ok-store.seats.items c.args.workers s.numbers long; each = w.each });
      reports = c.in_ok-reports.ensures.items;
      room = omega arith;
    }
