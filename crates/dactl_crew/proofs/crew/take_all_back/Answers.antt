use Rattle.std.proofs.Common.{rules, ◌≡◌, ◌+◌, ◌*◌, ◌≤◌, ℕ, List, [], ◌∷◌, ◌++◌, All, map, length, length-append, append_assoc, refl, ap, sym, ◌∙◌, subst, vec_capacity, arith}
use Rattle.std.specs.List.{sum_by}
use Rattle.std.specs.Vec.Iter.{into_iter_items, into_iter_len}
use Rattle.std.proofs.lemmas.List.{map-append}
use Rattle.std.proofs.lemmas.List.Elements.{All-nil, All-cons, All-push, All-weaker, All-from_recursion, recursion_from_All}
use Rattle.dactl_turn.specs.declared.rule.Joined.{Joined}
use Rattle.dactl_shared.specs.declared.store.WorkerSeat.{WorkerSeat}
use Rattle.dactl_shared.specs.Endings.{HadSeenEnd}
use Rattle.dactl_shared.specs.Stores.{joined, rejoined, program_of}
use Rattle.dactl_workers.specs.declared.worker.Worker.{Worker}
use Rattle.dactl_workers.specs.declared.report.WorkerReport.{WorkerReport}
use Rattle.dactl_crew.specs.Crews.{IsOfSeat, IsDone, numbers_of}
use Rattle.dactl_crew.proofs.Tallies.{of_more, of_first, sum_more, one_share}
use Rattle.dactl_crew.proofs.Words.{words_of}
use Rattle.dactl_crew.proofs.crew.take_all_back.Goals as goal

-- the number of the worker goes from the workers to the reports
moved : {H : Type 0} (reports : List WorkerReport) (r : WorkerReport) (w : Worker H) (rest : List (Worker H)) → r.worker ≡ w.seat.number → map (λ (r : WorkerReport). r.worker) (reports ++ r ∷ []) ++ numbers_of rest ≡ map (λ (r : WorkerReport). r.worker) reports ++ numbers_of (w ∷ rest)
moved reports r w rest is =
    ap (λ (ns : List ℕ). ns ++ numbers_of rest) (map-append (λ (r : WorkerReport). r.worker) reports (r ∷ []))
    ∙ append_assoc (map (λ (r : WorkerReport). r.worker) reports) (r.worker ∷ []) (numbers_of rest)
    ∙ ap (λ (n : ℕ). map (λ (r : WorkerReport). r.worker) reports ++ (n ∷ numbers_of rest)) is

pub loop-worker-init : goal.loop-worker-init
loop-worker-init g c =
    let words = words_of g.B.Board g.B.CrewBoard in
    let it = c.into_iter-worker-iterator.result in
    let store = c.args.store.now in
    let board = c.args.board.now in
    let items : into_iter_items it ≡ c.args.workers.items = search rules in
    let long : into_iter_len it ≡ length (into_iter_items it) = search rules in
    let count : length (into_iter_items it) ≡ length c.args.workers.items = ap length items in
    let none = c.requires.none in
    let b = c.requires.board in
    let room = c.requires.room in
    let no_seats : length (rejoined store) ≡ 0 = ap length none.0 in
    let no_reports : length c.args.reports.now.items ≡ 0 = ap length none.1 in
    let no_puts : length (words.puts board) ≡ 0 = ap length b.puts in
    let no_takes : length (words.takes board) ≡ 0 = ap length b.takes in
    let no_refused : sum_by (λ (r : WorkerReport). r.refused) c.args.reports.now.items ≡ 0 = ap (sum_by (λ (r : WorkerReport). r.refused)) none.1 in
    let no_offered : sum_by (λ (r : WorkerReport). r.offered) c.args.reports.now.items ≡ 0 = ap (sum_by (λ (r : WorkerReport). r.offered)) none.1 in
    let no_taken : sum_by (λ (r : WorkerReport). r.taken) c.args.reports.now.items ≡ 0 = ap (sum_by (λ (r : WorkerReport). r.taken)) none.1 in
    record {
      each = subst (All (IsDone words store board)) (sym items) c.requires.each;
      long = long;
      store = (refl, refl);
      sound = b.sound;
      hands = λ hand fits. fits;
      seats = omega arith;
      parts = subst (λ (n : ℕ). words.parts board + words.share board * n ≡ 256) (sym count) b.parts;
      told = subst (All (IsOfSeat (program_of store) (rejoined store))) (sym none.1) (All-nil (IsOfSeat (program_of store) (rejoined store)));
      ended = subst (All (HadSeenEnd store)) (sym none.0) (All-nil (HadSeenEnd store));
      numbers = (λ i. map (λ (r : WorkerReport). r.worker) (none.1 i) ++ numbers_of (items i));
      room = omega arith;
      puts = omega arith;
      takes = omega arith;
    }

pub take_back-requires-clause-hand : goal.take_back-requires-clause-hand
take_back-requires-clause-hand g c =
    let words = words_of g.B.Board g.B.CrewBoard in
    let i = c.loop-worker.invariant in
    let w = c.in-Some.worker in
    let Done = IsDone words c.args.store.now c.args.board.now in
    let rest = into_iter_items c.next.new.self in
    let items : into_iter_items c.loop-worker.worker-iterator ≡ w ∷ rest = c.in-Some.ensures.steps.0 in
    let both = recursion_from_All Done (w ∷ rest) (subst (All Done) items i.each) in
    i.hands c.into_parts-seat.result.hand (subst (words.fits c.args.board.now) (sym c.into_parts-seat.ensures.hand) both.0.hand)

pub loop-worker-preserved : goal.loop-worker-preserved
loop-worker-preserved g c =
    let words = words_of g.B.Board g.B.CrewBoard in
    let i = c.loop-worker.invariant in
    let w = c.in-Some.worker in
    let p = c.into_parts-seat in
    let store = c.args.store.now in
    let js = rejoined c.loop-worker.store in
    let reports = c.loop-worker.reports.items in
    let rest = into_iter_items c.next.new.self in
    let items : into_iter_items c.loop-worker.worker-iterator ≡ w ∷ rest = c.in-Some.ensures.steps.0 in
    let fewer : into_iter_len c.next.new.self + 1 ≡ into_iter_len c.loop-worker.worker-iterator = c.in-Some.ensures.steps.1 in
    let long : length (into_iter_items c.loop-worker.worker-iterator) ≡ length rest + 1 = ap length items ∙ omega arith in
    let both = recursion_from_All (IsDone words store c.args.board.now) (w ∷ rest) (subst (All (IsDone words store c.args.board.now)) items i.each) in
    let done = both.0 in
    let seat : p.result.seat ≡ w.seat = p.ensures.seat in
    let hand : p.result.hand ≡ w.hand = p.ensures.hand in
    let report : p.result.report ≡ w.report = p.ensures.report in
    let pushed : c.push.new.self.items ≡ reports ++ p.result.report ∷ [] = search rules in
    let longer : length c.push.new.self.items ≡ length reports + 1 = ap length pushed ∙ length-append reports (p.result.report ∷ []) in
    let capacity : vec_capacity c.loop-worker.reports ≤ vec_capacity c.push.new.self = search rules in
    let kept = c.rejoin.ensures.kept in
    let more : length (rejoined c.rejoin.new.self) ≡ length js + 1 = (let q = ap length kept in omega arith) in
    let board = c.take_back.ensures in
    let refused = sum_more (λ (r : WorkerReport). r.refused) reports p.result.report in
    let offered = sum_more (λ (r : WorkerReport). r.offered) reports p.result.report in
    let taken = sum_more (λ (r : WorkerReport). r.taken) reports p.result.report in
    let refused2 = ap (sum_by (λ (r : WorkerReport). r.refused)) pushed in
    let offered2 = ap (sum_by (λ (r : WorkerReport). r.offered)) pushed in
    let taken2 = ap (sum_by (λ (r : WorkerReport). r.taken)) pushed in
    let refused3 : p.result.report.refused ≡ w.report.refused = ap (λ (r : WorkerReport). r.refused) report in
    let offered3 : p.result.report.offered ≡ w.report.offered = ap (λ (r : WorkerReport). r.offered) report in
    let taken3 : p.result.report.taken ≡ w.report.taken = ap (λ (r : WorkerReport). r.taken) report in
    let puts : length (words.puts c.take_back.new.self) ≡ length (words.puts c.loop-worker.board) + length (words.put w.hand) =
    ap length board.puts ∙ (length-append (words.puts c.loop-worker.board) (words.put p.result.hand) ∙ ap (λ (h : g.row.B-Hand.Denot). length (words.puts c.loop-worker.board) + length (words.put h)) hand) in
    let takes : length (words.takes c.take_back.new.self) ≡ length (words.takes c.loop-worker.board) + length (words.taken w.hand) =
    ap length board.takes ∙ (length-append (words.takes c.loop-worker.board) (words.taken p.result.hand) ∙ ap (λ (h : g.row.B-Hand.Denot). length (words.takes c.loop-worker.board) + length (words.taken h)) hand) in
    let iseats = i.seats in
    let ilong = i.long in
    let iroom = i.room in
    let iputs = i.puts in
    let itakes = i.takes in
    let dput = done.put in
    let dtaken = done.taken in
    record {
      each = All-from_recursion (IsDone words store c.args.board.now) rest both.1;
      long = omega arith;
      store = (c.rejoin.ensures.same.0 ∙ i.store.0, c.rejoin.ensures.same.1 ∙ i.store.1);
      sound = board.sound;
      hands = λ hand fits. board.hands hand (i.hands hand fits);
      seats = omega arith;
      parts = one_share _ _ _ _ _ _ board.share board.parts long i.parts;
      told = subst (λ (z : List Joined × List WorkerReport). All (IsOfSeat (program_of store) z.0) z.1) (λ k. (sym kept k, sym pushed k))
          (All-push (IsOfSeat (program_of store) (joined p.result.seat ∷ js)) reports p.result.report
          (All-weaker (IsOfSeat (program_of store) js) (IsOfSeat (program_of store) (joined p.result.seat ∷ js)) (of_more (program_of store) (joined p.result.seat) js) reports i.told)
          (subst (λ (z : WorkerSeat × WorkerReport). IsOfSeat (program_of store) (joined z.0 ∷ js) z.1) (λ k. (sym seat k, sym report k)) (of_first (program_of store) (joined w.seat) js w.report (sym done.worker) done.report)));
      ended = subst (All (HadSeenEnd store)) (sym kept) (All-cons (HadSeenEnd store) (joined p.result.seat) js (subst (λ (s : WorkerSeat). HadSeenEnd store (joined s)) (sym seat) done.ended) i.ended);
      numbers = ap (λ (rs : List WorkerReport). map (λ (r : WorkerReport). r.worker) rs ++ numbers_of rest) pushed ∙ moved reports p.result.report w rest (ap (λ (r : WorkerReport). r.worker) report ∙ done.worker)
          ∙ ap (λ (ws : List (Worker g.row.B-Hand.Denot)). map (λ (r : WorkerReport). r.worker) reports ++ numbers_of ws) (sym items) ∙ i.numbers;
      room = omega arith;
      puts = omega arith;
      takes = omega arith;
    }
