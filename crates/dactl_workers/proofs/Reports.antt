-- What a report tells: of the entries that the worker's seat had seen, and of a journal that begins with them.
use Rattle.std.proofs.Common.{◌≡◌, ℕ, List, [], ◌++◌, sym, ap, ◌∙◌, subst, append-nil, length, arith}
use Rattle.dactl_model.specs.declared.graph.NodeId.{NodeId}
use Rattle.dactl_model.specs.declared.graph.Entry.{Entry}
use Rattle.dactl_model.specs.declared.program.Program.{Program}
use Rattle.dactl_turn.specs.Gives.{by_worker, StartsWith}
use Rattle.dactl_shared.specs.declared.store.SharedStore.{SharedStore}
use Rattle.dactl_shared.specs.Stores.{seen_of, program_of}
use Rattle.dactl_workers.specs.declared.report.WorkerReport.{WorkerReport}
use Rattle.dactl_workers.specs.declared.worker.Worker.{Worker}
use Rattle.dactl_workers.specs.Accounts.{OwnActs, by_others}
use Rattle.dactl_workers.specs.Work.{IsReady, HasWorked}
use Rattle.dactl_workers.specs.Reports.{IsReport}
use Rattle.dactl_workers.proofs.OwnActs.{acts_append, acts_of_others}
use Rattle.dactl_workers.proofs.Done.{none_own, others_stay}

-- the report of a worker that was new, and whose seat had seen nothing
pub reported : {H : Type 0} (fits : H → Type 0) (put taken : H → List NodeId) (back : H → ℕ) (s : SharedStore) (widest : ℕ) (old new : Worker H) → IsReady fits back s widest old → seen_of old.seat ≡ []
    → HasWorked fits put taken back s old new → IsReport (program_of s) (seen_of new.seat) new.report
reported fits put taken back s widest old new ready none worked = let d = worked.done in let k = old.seat.number in let p = program_of s in
    let number : new.report.worker ≡ k = worked.worker ∙ worked.number in
    let entries : seen_of new.seat ≡ d.entries = d.seen ∙ ap (λ (es : List Entry). es ++ d.entries) none in
    let commits : old.report.commits ≡ 0 = ap (λ (r : WorkerReport). r.commits) ready.report in
    let offered : old.report.offered ≡ 0 = ap (λ (r : WorkerReport). r.offered) ready.report in
    let took : old.report.taken ≡ 0 = ap (λ (r : WorkerReport). r.taken) ready.report in
    let mine : length (by_worker new.report.worker (seen_of new.seat)) ≡ length (by_worker k d.entries) = (λ i. length (by_worker (number i) (entries i))) in
    let others : length (by_others new.report.worker (seen_of new.seat)) ≡ length (by_others k (seen_of new.seat)) = ap (λ (z : ℕ). length (by_others z (seen_of new.seat))) number in
    let before : length (by_others k (seen_of old.seat)) ≡ 0 = ap (λ (es : List Entry). length (by_others k es)) none in
    let c = d.commits in let o = d.offered in let st = d.stale in let pa = d.paid in let s0 = ready.stale in let p0 = ready.passive in let s1 = worked.stale in let p1 = worked.passive in record {
      commits = omega arith;
      offers = d.offers;
      acts = subst (λ (z : ℕ × List Entry × List Entry). OwnActs p z.0 z.1 z.2 d.offers) (λ i. (sym number i, none i, sym entries i)) d.acts;
      offered = omega arith;
      stale = omega arith;
      paid = omega arith;
    }

-- a report that tells of a front tells of the whole, where no entry of its number follows
pub report_on : (p : Program) (front whole : List Entry) (r : WorkerReport) → StartsWith whole front → by_worker r.worker whole ≡ by_worker r.worker front → IsReport p front r → IsReport p whole r
report_on p front whole r b same t = let k = r.worker in let none_there = none_own p k front whole b same in let more = others_stay k front whole b.0 b.1 in let s = t.stale in let w = t.paid in record {
  commits = t.commits ∙ ap length (sym same);
  offers = t.offers ++ [];
  acts = subst (λ z. OwnActs p k [] z (t.offers ++ [])) (sym b.1) (acts_append p k [] front b.0 t.offers [] t.acts (acts_of_others p k front b.0 none_there));
  offered = t.offered ∙ ap length (sym (append-nil t.offers));
  stale = omega arith;
  paid = omega arith;
}
