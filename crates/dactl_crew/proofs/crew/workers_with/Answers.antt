use Rattle.std.proofs.Common.{rules, ◌≡◌, ◌+◌, ℕ, List, [], ◌∷◌, ◌++◌, All, Some, map, length, length-append, append_assoc, ap, sym, ◌∙◌, subst, arith}
use Rattle.std.specs.Vec.Iter.{into_iter_items, into_iter_len}
use Rattle.std.proofs.lemmas.List.{map-append}
use Rattle.std.proofs.lemmas.List.Elements.{All-pop, All-push, All-from_recursion, recursion_from_All}
use Rattle.dactl_shared.specs.declared.store.WorkerSeat.{WorkerSeat}
use Rattle.dactl_shared.specs.Stores.{IsFresh, limits_of}
use Rattle.dactl_workers.specs.declared.worker.Worker.{Worker}
use Rattle.dactl_crew.specs.Boards.{IsNewHand}
use Rattle.dactl_crew.specs.Crews.{IsIdle, numbers_of, worker_with}
use Rattle.dactl_crew.proofs.Tallies.{idle_worker}
use Rattle.dactl_crew.proofs.Words.{words_of}
use Rattle.dactl_crew.proofs.crew.workers_with.Goals as goal

-- the number of the seat goes to its worker
moved : {H : Type 0} (workers : List (Worker H)) (w : Worker H) (seat : WorkerSeat) (rest : List WorkerSeat) → w.seat.number ≡ seat.number
    → numbers_of (workers ++ w ∷ []) ++ map (λ (s : WorkerSeat). s.number) rest ≡ numbers_of workers ++ map (λ (s : WorkerSeat). s.number) (seat ∷ rest)
moved {H} workers w seat rest is =
    ap (λ (ns : List ℕ). ns ++ map (λ (s : WorkerSeat). s.number) rest) (map-append (λ (x : Worker H). x.seat.number) workers (w ∷ []))
    ∙ append_assoc (numbers_of workers) (w.seat.number ∷ []) (map (λ (s : WorkerSeat). s.number) rest)
    ∙ ap (λ (n : ℕ). numbers_of workers ++ (n ∷ map (λ (s : WorkerSeat). s.number) rest)) is

pub loop-seat-preserved : goal.loop-seat-preserved
loop-seat-preserved g c =
    let words = words_of g.B.Board g.B.CrewBoard in
    let New = IsNewHand (words.fits c.args.board.now) words.put words.taken words.back in
    let i = c.loop-seat.invariant in
    let seat = c.in-Some.seat in
    let hand = c.in-Some-pop.hand in
    let store = c.args.store.now in
    let board = c.args.board.now in
    let rest = into_iter_items c.next.new.self in
    let workers = c.loop-seat.workers.items in
    let w = c.in_ok-worker_of.field-0 in
    let items : into_iter_items c.loop-seat.seat-iterator ≡ seat ∷ rest = c.in-Some.ensures.steps.0 in
    let fewer : into_iter_len c.next.new.self + 1 ≡ into_iter_len c.loop-seat.seat-iterator = c.in-Some.ensures.steps.1 in
    let long : length (into_iter_items c.loop-seat.seat-iterator) ≡ length rest + 1 = ap length items ∙ omega arith in
    let both = recursion_from_All (IsFresh store) (seat ∷ rest) (subst (All (IsFresh store)) items i.seats) in
    let popped : c.loop-seat.hands.items ≡ c.pop.new.self.items ++ hand ∷ [] = c.in-Some-pop.ensures.items in
    let less : length c.loop-seat.hands.items ≡ length c.pop.new.self.items + 1 = ap length popped ∙ length-append c.pop.new.self.items (hand ∷ []) in
    let others = All-pop New c.loop-seat.hands.items c.pop.new.self.items (Some hand) popped i.hands in
    let made : w ≡ worker_with seat hand c.args.widest c.limits-nodes.result.nodes = c.in_ok-worker_of.ensures in
    let pushed : c.push.new.self.items ≡ workers ++ w ∷ [] = search rules in
    let nodes : c.limits-nodes.result.nodes ≡ (limits_of store).nodes = ap (λ l. l.nodes) c.limits-nodes.ensures in
    let ilong = i.long in
    let icount = i.count in
    record {
      seats = All-from_recursion (IsFresh store) rest both.1;
      long = omega arith;
      hands = others.0;
      count = omega arith;
      each = subst (All (IsIdle words store board c.args.widest)) (sym pushed) (All-push (IsIdle words store board c.args.widest) workers w i.each (subst (IsIdle words store board c.args.widest) (sym made) (idle_worker words store board c.args.widest c.limits-nodes.result.nodes seat hand both.0 others.1 nodes)));
      numbers = ap (λ (ws : List (Worker g.row.B-Hand.Denot)). numbers_of ws ++ map (λ (s : WorkerSeat). s.number) rest) pushed ∙ moved workers w seat rest (ap (λ (x : Worker g.row.B-Hand.Denot). x.seat.number) made)
          ∙ ap (λ (ss : List WorkerSeat). numbers_of workers ++ map (λ (s : WorkerSeat). s.number) ss) (sym items) ∙ i.numbers;
    }
