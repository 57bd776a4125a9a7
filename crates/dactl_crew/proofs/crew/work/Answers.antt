use Rattle.std.proofs.Common.{rules, ◌≡◌, ◌<◌, ◌≤◌, ℕ, List, All, length, ap, sym, ◌∙◌, subst, vec_capacity, arith}
use Rattle.std.specs.List.{AllZip}
use Rattle.std.proofs.lemmas.List.{length-map}
use Rattle.dactl_settings.specs.Limits.{IsUpTo}
use Rattle.dactl_model.specs.declared.graph.Entry.{Entry}
use Rattle.dactl_shared.specs.Stores.{rejoined, program_of, limits_of, workers_of}
use Rattle.dactl_shared.specs.Endings.{HasEnd, HasEndAt, HadSeenEnd}
use Rattle.dactl_turn.specs.Gives.{entries_of, end_of}
use Rattle.dactl_turn.specs.declared.rule.Joined.{Joined}
use Rattle.dactl_turn.specs.Seats.{first_of}
use Rattle.dactl_turn.specs.declared.lock.Turn.{Turn}
use Rattle.dactl_shared.specs.declared.held.Held.{Held}
use Rattle.dactl_workers.specs.declared.report.WorkerReport.{WorkerReport}
use Rattle.dactl_workers.specs.declared.worker.Worker.{Worker}
use Rattle.dactl_workers.specs.Work.{HasWorked}
use Rattle.dactl_crew.specs.Crews.{IsNewBoard, IsOfSeat}
use Rattle.dactl_crew.specs.Running.{AreLimits}
use Rattle.dactl_crew.proofs.Offers.{few_offered}
use Rattle.dactl_crew.proofs.Tallies.{come_back, workers_long, all_reports, all_signed, one_ended, weigh_ones}
use Rattle.dactl_crew.proofs.Words.{words_of}
use Rattle.dactl_crew.proofs.crew.work.Goals as goal

pub farm-requires-clause-some : goal.farm-requires-clause-some
farm-requires-clause-some g c =
    let crew = c.args.crew in
    let long = workers_long (words_of g.B.Board g.B.CrewBoard) crew.store crew.board _ _ crew.workers.items c.requires.ready.workers in
    let same = ap length c.as_mut_slice.ensures.value in
    let some = c.requires.ready.some in
    omega arith

pub take_all_back-requires-clause-each : goal.take_all_back-requires-clause-each
take_all_back-requires-clause-each g c =
    let crew = c.args.crew in
    let worked = subst (λ (ws : List (Worker g.row.B-Hand.Denot)). AllZip (HasWorked (g.B.Board.fits crew.board) g.B.Board.put g.B.Board.taken g.B.Board.back crew.store) ws c.farm.new.workers) c.as_mut_slice.ensures.value c.farm.ensures.each in
    (come_back (words_of g.B.Board g.B.CrewBoard) crew.store crew.board _ _ crew.workers.len crew.workers.items c.farm.new.workers c.requires.ready.workers (search rules) worked).each

pub take_all_back-requires-clause-board : goal.take_all_back-requires-clause-board
take_all_back-requires-clause-board g c =
    let crew = c.args.crew in
    let worked = subst (λ (ws : List (Worker g.row.B-Hand.Denot)). AllZip (HasWorked (g.B.Board.fits crew.board) g.B.Board.put g.B.Board.taken g.B.Board.back crew.store) ws c.farm.new.workers) c.as_mut_slice.ensures.value c.farm.ensures.each in
    let back = come_back (words_of g.B.Board g.B.CrewBoard) crew.store crew.board _ _ crew.workers.len crew.workers.items c.farm.new.workers c.requires.ready.workers (search rules) worked in
    subst (IsNewBoard (words_of g.B.Board g.B.CrewBoard) crew.board) (sym back.long) c.requires.ready.board

pub take_all_back-requires-clause-room : goal.take_all_back-requires-clause-room
take_all_back-requires-clause-room g c =
    let crew = c.args.crew in
    let worked = subst (λ (ws : List (Worker g.row.B-Hand.Denot)). AllZip (HasWorked (g.B.Board.fits crew.board) g.B.Board.put g.B.Board.taken g.B.Board.back crew.store) ws c.farm.new.workers) c.as_mut_slice.ensures.value c.farm.ensures.each in
    let back = come_back (words_of g.B.Board g.B.CrewBoard) crew.store crew.board _ _ crew.workers.len crew.workers.items c.farm.new.workers c.requires.ready.workers (search rules) worked in
    subst (λ (n : ℕ). n ≤ vec_capacity crew.reports) (sym back.long) c.requires.ready.room

pub close-state-requires : goal.close-state-requires
close-state-requires g c =
    let crew = c.args.crew in
    let worked = subst (λ (ws : List (Worker g.row.B-Hand.Denot)). AllZip (HasWorked (g.B.Board.fits crew.board) g.B.Board.put g.B.Board.taken g.B.Board.back crew.store) ws c.farm.new.workers) c.as_mut_slice.ensures.value c.farm.ensures.each in
    let back = come_back (words_of g.B.Board g.B.CrewBoard) crew.store crew.board _ _ crew.workers.len crew.workers.items c.farm.new.workers c.requires.ready.workers (search rules) worked in
    c.take_all_back.ensures.seats ∙ back.long ∙ sym c.take_all_back.ensures.store.1

pub count_left-left-requires-clause-few : goal.count_left-left-requires-clause-few
count_left-left-requires-clause-few g c =
    let crew = c.args.crew in
    let worked = subst (λ (ws : List (Worker g.row.B-Hand.Denot)). AllZip (HasWorked (g.B.Board.fits crew.board) g.B.Board.put g.B.Board.taken g.B.Board.back crew.store) ws c.farm.new.workers) c.as_mut_slice.ensures.value c.farm.ensures.each in
    let back = come_back (words_of g.B.Board g.B.CrewBoard) crew.store crew.board _ _ crew.workers.len crew.workers.items c.farm.new.workers c.requires.ready.workers (search rules) worked in
    let t = c.take_all_back.ensures in
    let e = c.close-state.ensures in
    let state = c.close-state.result in
    let js = rejoined c.take_all_back.new.store in
    let reports = c.take_all_back.new.reports.items in
    let program : state.program ≡ program_of crew.store = e.base.0 ∙ ap (λ (x : Turn Held). (first_of x).state.value.program) t.store.0 in
    let limits : state.limits ≡ limits_of crew.store = e.base.1 ∙ ap (λ (x : Turn Held). (first_of x).state.value.limits) t.store.0 in
    let told : All (IsOfSeat state.program js) reports = subst (λ p. All (IsOfSeat p js) reports) (sym program) t.each in
    let long : length reports ≡ workers_of crew.store = sym (length-map reports (λ (r : WorkerReport). r.worker)) ∙ ap length t.numbers ∙ length-map _ (λ (w : Worker g.row.B-Hand.Denot). w.seat.number) ∙ back.long in
    let few_workers = c.requires.ready.few in
    let few = few_offered state e.course (subst AreLimits (sym limits) c.requires.limits) reports (all_reports state.program js state.journal reports e.begins e.mine told) (omega arith) in
    let puts = t.puts in
    omega arith

pub returns : goal.returns
returns g c =
    let crew = c.args.crew in
    let ready = c.requires.ready in
    let worked = subst (λ (ws : List (Worker g.row.B-Hand.Denot)). AllZip (HasWorked (g.B.Board.fits crew.board) g.B.Board.put g.B.Board.taken g.B.Board.back crew.store) ws c.farm.new.workers) c.as_mut_slice.ensures.value c.farm.ensures.each in
    let back = come_back (words_of g.B.Board g.B.CrewBoard) crew.store crew.board _ _ crew.workers.len crew.workers.items c.farm.new.workers ready.workers (search rules) worked in
    let t = c.take_all_back.ensures in
    let e = c.close-state.ensures in
    let state = c.close-state.result in
    let store = c.take_all_back.new.store in
    let js = rejoined store in
    let reports = c.take_all_back.new.reports.items in
    let some_workers = ready.some in
    let seats : length js ≡ workers_of crew.store = t.seats ∙ back.long in
    let some : 0 < length js = omega arith in
    let program : state.program ≡ program_of crew.store = e.base.0 ∙ ap (λ (x : Turn Held). (first_of x).state.value.program) t.store.0 in
    let limits : state.limits ≡ limits_of crew.store = e.base.1 ∙ ap (λ (x : Turn Held). (first_of x).state.value.limits) t.store.0 in
    let ends : All (λ (j : Joined). HadSeenEnd crew.store j → HasEnd state) js = subst (λ (x : Turn Held). All (λ (j : Joined). HasEndAt (first_of x).state.value.program (first_of x).state.value.limits (entries_of j.gives) (end_of j.gives) → HasEnd state) js) t.store.0 e.ends in
    let told : All (IsOfSeat state.program js) reports = subst (λ p. All (IsOfSeat p js) reports) (sym program) t.each in
    let l = c.count_left-left.ensures in
    let even = l.2 (λ _. 1) in
    let puts_ones = weigh_ones (g.B.CrewBoard.puts c.take_all_back.new.board) in
    let takes_ones = weigh_ones (g.B.CrewBoard.takes c.take_all_back.new.board) in
    let left_ones = weigh_ones l.0 in
    let left = l.1 in
    let puts = t.puts in
    let takes = t.takes in
    record {
      program = program;
      limits = limits;
      course = e.course;
      ended = one_ended (HadSeenEnd crew.store) js some t.ended ends;
      reports = record {
        numbers = t.numbers ∙ back.numbers;
        each = all_reports state.program js state.journal reports e.begins e.mine told;
        sums = omega arith;
        signed = subst (λ (n : ℕ). All (λ (entry : Entry). IsUpTo n entry.worker) state.journal) t.store.1 (all_signed (workers_of store) js state.journal e.numbers e.signed);
      };
    }
