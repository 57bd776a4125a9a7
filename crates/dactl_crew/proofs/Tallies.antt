-- What the workers' reports tell, when all seats and hands are taken back.
use Rattle.std.proofs.Common.{◌≡◌, ℕ, zero, suc, ◌+◌, ◌*◌, ◌≤◌, ◌<◌, List, [], ◌∷◌, ◌++◌, map, refl, sym, ap, ◌∙◌, subst, length, take, drop, slice_get, Some, All, arith}
use Rattle.std.specs.List.{sum_by, AllByRecursion, AllZip}
use Rattle.std.proofs.Math.Nat.{mul-suc}
use Rattle.std.proofs.lemmas.List.Sums.{sum_by-append, sum_by-cons}
use Rattle.std.proofs.lemmas.List.Elements.{All-weaker, All-contains, All-from_recursion, recursion_from_All, length_all_zip}
use Rattle.std.proofs.lemmas.List.{length-map}
use Rattle.std.proofs.Math.Seq.{take-append_seam}
use Rattle.dactl_model.specs.declared.graph.NodeId.{NodeId}
use Rattle.dactl_model.specs.declared.graph.Entry.{Entry}
use Rattle.dactl_model.specs.declared.program.Program.{Program}
use Rattle.dactl_queue.specs.Accounts.{weigh}
use Rattle.dactl_shared.specs.declared.store.SharedStore.{SharedStore}
use Rattle.dactl_shared.specs.Stores.{seen_of, limits_of, IsFresh, IsSigned, AreNumbered}
use Rattle.dactl_shared.specs.declared.store.WorkerSeat.{WorkerSeat}
use Rattle.dactl_settings.specs.Limits.{IsUpTo}
use Rattle.dactl_turn.specs.declared.rule.Joined.{Joined}
use Rattle.dactl_turn.specs.Gives.{entries_of, by_worker, mine_in, StartsWith}
use Rattle.dactl_workers.specs.declared.report.WorkerReport.{WorkerReport}
use Rattle.dactl_workers.specs.declared.worker.Worker.{Worker}
use Rattle.dactl_workers.specs.Reports.{IsReport}
use Rattle.dactl_workers.specs.Work.{HasWorked}
use Rattle.dactl_workers.proofs.Reports.{reported, report_on}
use Rattle.dactl_crew.specs.Reports.{numbers_from}
use Rattle.dactl_crew.specs.Boards.{Words, IsNewHand}
use Rattle.dactl_crew.specs.Crews.{IsIdle, IsDone, IsOfSeat, AreWorkers, numbers_of, worker_with}

module _ {B H : Type 0} (words : Words B H) where
  -- a worker with a new seat and a new hand can start
  pub idle_worker : (store : SharedStore) (board : B) (widest nodes : ℕ) (seat : WorkerSeat) (hand : H) → IsFresh store seat → IsNewHand (words.fits board) words.put words.taken words.back hand → nodes ≡ (limits_of store).nodes → IsIdle words store board widest (worker_with seat hand widest nodes)
  idle_worker store board widest nodes seat hand fresh new is = record {
    ready = record {
      own = fresh.0;
      stale = fresh.2;
      passive = fresh.3;
      hand = new.0;
      is_back = new.3;
      footprint = omega arith;
      woken = omega arith;
      known = refl;
      report = refl;
    };
    seen = fresh.1;
    put = new.1;
    taken = new.2;
  }

  -- a worker that had done nothing and has worked is done
  done_of : (store : SharedStore) (board : B) (widest : ℕ) (old new : Worker H) → IsIdle words store board widest old → HasWorked (words.fits board) words.put words.taken words.back store old new → IsDone words store board new
  done_of store board widest old new idle worked =
      let d = worked.done in
      let seen : seen_of old.seat ≡ [] = ap entries_of idle.seen in
      let offered : old.report.offered ≡ 0 = ap (λ (r : WorkerReport). r.offered) idle.ready.report in
      let refused : old.report.refused ≡ 0 = ap (λ (r : WorkerReport). r.refused) idle.ready.report in
      let took : old.report.taken ≡ 0 = ap (λ (r : WorkerReport). r.taken) idle.ready.report in
      let even = d.even in
      let all_offered = d.offered in
      let all_took = d.took in
      let put : length (words.put new.hand) ≡ length d.puts = ap length (d.put ∙ ap (λ (xs : List NodeId). xs ++ d.puts) idle.put) in
      let taken : length (words.taken new.hand) ≡ length d.takes = ap length (d.taken ∙ ap (λ (xs : List NodeId). xs ++ d.takes) idle.taken) in
      record {
        own = worked.own;
        hand = worked.hand;
        ended = worked.end;
        worker = worked.worker;
        report = reported (words.fits board) words.put words.taken words.back store widest old new idle.ready seen worked;
        put = omega arith;
        taken = omega arith;
      }

  -- and so all workers, which keep their numbers
  pub all_done : (store : SharedStore) (board : B) (widest : ℕ) (olds news : List (Worker H)) → AllByRecursion (IsIdle words store board widest) olds → AllZip (HasWorked (words.fits board) words.put words.taken words.back store) olds news
      → AllByRecursion (IsDone words store board) news × (numbers_of news ≡ numbers_of olds)
  all_done store board widest [] [] idle worked = (tt, refl)
  all_done store board widest [] (new ∷ news) idle worked = absurd worked
  all_done store board widest (old ∷ olds) [] idle worked = absurd worked
  all_done store board widest (old ∷ olds) (new ∷ news) idle worked =
      let rest = all_done store board widest olds news idle.1 worked.1 in
      let number : new.seat.number ≡ old.seat.number = worked.0.number in
      ((done_of store board widest old new idle.0 worked.0, rest.0), (λ i. number i ∷ rest.1 i))

-- ---- the numbers of the workers

numbers_long : (first count : ℕ) → length (numbers_from first count) ≡ count
numbers_long first zero = refl
numbers_long first (suc count) = let rest = numbers_long (first + 1) count in omega arith

pub workers_long : {B H : Type 0} (words : Words B H) (store : SharedStore) (board : B) (widest count : ℕ) (workers : List (Worker H)) → AreWorkers words store board widest count workers → length workers ≡ count
workers_long {B} {H} words store board widest count workers are = sym (length-map workers (λ (w : Worker H). w.seat.number)) ∙ ap length are.numbers ∙ numbers_long 1 count

numbered_on : (seats : List WorkerSeat) (first : ℕ) → ((i : ℕ) (w : WorkerSeat) → slice_get seats i ≡ Some w → w.number ≡ i + first) → map (λ (w : WorkerSeat). w.number) seats ≡ numbers_from first (length seats)
numbered_on [] first each = refl
numbered_on (seat ∷ seats) first each =
    let here : seat.number ≡ first = omega (arith, each 0 seat refl) in
    let rest = numbered_on seats (first + 1) (λ i w is. let at = each (suc i) w is in omega arith) in
    (λ k. here k ∷ rest k)

-- seats that are numbered from 1 have the numbers from 1
pub seats_numbered : (seats : List WorkerSeat) (count : ℕ) → AreNumbered seats → length seats ≡ count → map (λ (w : WorkerSeat). w.number) seats ≡ numbers_from 1 count
seats_numbered seats count numbered is = numbered_on seats 1 numbered ∙ ap (numbers_from 1) is

-- the workers, as they are handed back from a slice
handed_back : {H : Type 0} (n : ℕ) (olds news : List (Worker H)) → n ≡ length olds → length news ≡ length olds → take n (news ++ drop (length news) olds) ≡ news
handed_back n olds news long same = subst (λ (k : ℕ). take k (news ++ drop (length news) olds) ≡ news) (same ∙ sym long) (take-append_seam news (drop (length news) olds))

module _ {B H : Type 0} (words : Words B H) (store : SharedStore) (board : B) where
  -- so many workers in the order of their numbers, each of which is done
  pub record AreDone (count : ℕ) (workers : List (Worker H)) : Type 0 where
    pub long : length workers ≡ count
    pub numbers : numbers_of workers ≡ numbers_from 1 count
    pub each : All (IsDone words store board) workers

  -- workers that could start and have worked, as they come back from a slice of the first so many
  pub come_back : (widest count n : ℕ) (olds news : List (Worker H)) → AreWorkers words store board widest count olds → n ≡ length olds → AllZip (HasWorked (words.fits board) words.put words.taken words.back store) olds news
      → AreDone count (take n (news ++ drop (length news) olds))
  come_back widest count n olds news are whole worked =
      let done = all_done words store board widest olds news (recursion_from_All _ olds are.each) worked in
      let same : length news ≡ length olds = sym (length_all_zip _ olds news worked) in
      subst (AreDone count) (sym (handed_back n olds news whole same)) (record {
        long = same ∙ workers_long words store board widest count olds are;
        numbers = done.1 ∙ are.numbers;
        each = All-from_recursion (IsDone words store board) news done.0;
      })

-- ---- one seat more is back

pub of_more : (p : Program) (j : Joined) (js : List Joined) (r : WorkerReport) → IsOfSeat p js r → IsOfSeat p (j ∷ js) r
of_more p j js r o = (o.0, (suc o.1.0, (let l = o.1.1 in omega arith), o.1.2), o.2, o.3)

pub of_first : (p : Program) (j : Joined) (js : List Joined) (r : WorkerReport) → j.number ≡ r.worker → IsReport p (entries_of j.gives) r → IsOfSeat p (j ∷ js) r
of_first p j js r is told = (j, (0, omega arith, refl), is, told)

-- one hand fewer is out, and its share is back
pub one_share : (old_parts new_parts old_share new_share m n : ℕ) → new_share ≡ old_share → new_parts ≡ old_parts + old_share → m ≡ n + 1 → old_parts + old_share * m ≡ 256 → new_parts + new_share * n ≡ 256
one_share old_parts new_parts old_share new_share m n same parts fewer whole =
    let now : new_parts + new_share * n ≡ (old_parts + old_share) + old_share * n = (λ i. parts i + same i * n) in
    let split : old_share * m ≡ old_share * n + old_share = ap (λ (k : ℕ). old_share * k) (let q : m ≡ suc n = omega arith in q) ∙ mul-suc old_share n in
    now ∙ omega arith

pub sum_more : (f : WorkerReport → ℕ) (rs : List WorkerReport) (r : WorkerReport) → sum_by f (rs ++ r ∷ []) ≡ sum_by f rs + f r
sum_more f rs r = let a = sum_by-append f rs (r ∷ []) in let b = sum_by-cons f r [] in let z : sum_by f [] ≡ 0 = refl in omega arith

pub weigh_ones : (xs : List NodeId) → weigh (λ _. 1) xs ≡ length xs
weigh_ones [] = refl
weigh_ones (x ∷ xs) = let rest = weigh_ones xs in omega arith

-- ---- all seats are back

-- where each seat had seen an end, and each that had gives one, there is one
pub one_ended : {B : Type 0} (A : Joined → Type 0) (js : List Joined) → 0 < length js → All A js → All (λ (j : Joined). A j → B) js → B
one_ended {B} A [] some each ends = absurd (omega arith)
one_ended {B} A (j ∷ js) some each ends = (recursion_from_All (λ (j : Joined). A j → B) (j ∷ js) ends).0 (recursion_from_All A (j ∷ js) each).0

-- reports of what the seats had seen are reports of a journal that begins with it, where no seat's entries follow
pub all_reports : (p : Program) (js : List Joined) (journal : List Entry) (rs : List WorkerReport) → All (λ (j : Joined). StartsWith journal (entries_of j.gives)) js → All (λ (j : Joined). by_worker j.number journal ≡ mine_in j) js
    → All (IsOfSeat p js) rs → All (IsReport p journal) rs
all_reports p js journal rs begins mine told = All-weaker (IsOfSeat p js) (IsReport p journal)
    (λ r o. let j = o.0 in
    let same : by_worker j.number journal ≡ by_worker j.number (entries_of j.gives) = All-contains (λ (j : Joined). by_worker j.number journal ≡ mine_in j) js j mine o.1 in
    report_on p (entries_of j.gives) journal r (All-contains (λ (j : Joined). StartsWith journal (entries_of j.gives)) js j begins o.1)
    (subst (λ (k : ℕ). by_worker k journal ≡ by_worker k (entries_of j.gives)) o.2 same) o.3) rs told

-- each entry is by one of the workers
pub all_signed : (workers : ℕ) (js : List Joined) (journal : List Entry) → All (λ (j : Joined). (0 < j.number) × (j.number ≤ workers)) js → All (IsSigned js) journal → All (λ (e : Entry). IsUpTo workers e.worker) journal
all_signed workers js journal numbers signed = All-weaker (IsSigned js) (λ (e : Entry). IsUpTo workers e.worker)
    (λ e s. let within = All-contains (λ (j : Joined). (0 < j.number) × (j.number ≤ workers)) js s.0 numbers s.1 in
    subst (IsUpTo workers) s.2 (within.0, within.1)) journal signed
