use Rattle.std.proofs.Common.{rules, subst, ◌≡◌, ℕ, ap, sym, ◌∙◌}
use Rattle.dactl_model.specs.declared.graph.Limits.{Limits}
use Rattle.dactl_model.specs.declared.program.Program.{Program}
use Rattle.dactl_model.specs.Graphs.{HasNode}
use Rattle.dactl_model.specs.Versions.{IsShown}
use Rattle.dactl_store.specs.Held.{IsReadingOf}
use Rattle.dactl_state.specs.Runs.{Run, IsCourse}
use Rattle.dactl_turn.specs.Gives.{entries_of, by_worker}
use Rattle.dactl_turn.specs.Seats.{number_of, gives_of}
use Rattle.dactl_shared.specs.Stores.{program_of, limits_of, IsStateAt}
use Rattle.dactl_shared.proofs.Nodes.{node_found, targets_known}
use Rattle.dactl_shared.proofs.Turns.{none_mine, looked_entries, shown_then}
use Rattle.dactl_shared.proofs.store.SharedStore.read.Goals as goal

pub read-reading-requires : goal.read-reading-requires
read-reading-requires g c = let t = c.take-held.ensures in let r = c.take-held.result.state.value in
    let d : c.deref.result.now ≡ r = search rules in let e : c.deref-2.result.now ≡ r = search rules in
    let at : IsStateAt (program_of c.args.self.now) (limits_of c.args.self.now) (gives_of c.take-held.new.seat) r = record {
      course = subst IsCourse d c.count.ensures.course;
      program = ap (λ (z : Program × Limits). z.0) t.base;
      limited = ap (λ (z : Program × Limits). z.1) t.base;
      entries = t.entries;
      end = t.end;
    } in subst (λ (z : Run). HasNode z.held.graph c.args.node) (sym e) (node_found (program_of c.args.self.now) (limits_of c.args.self.now) (gives_of c.take-held.new.seat) (gives_of c.args.seat.now.seat) r c.args.node at t.later c.requires.node)

pub returns-clause-shown : goal.returns-clause-shown
returns-clause-shown g c = let t = c.take-held.ensures in let r = c.take-held.result.state.value in let e : c.deref-2.result.now ≡ r = search rules in
    shown_then (program_of c.args.self.now) (gives_of c.take-held.new.seat) (gives_of c.give.new.seat) r c.read-reading.result r.full (ap (λ (z : Program × Limits). z.0) t.base) t.entries c.give.ensures.seen (subst (λ (z : Run). IsShown z.program z.journal c.read-reading.result) e c.read-reading.ensures.shown)

pub returns-clause-mine : goal.returns-clause-mine
returns-clause-mine g c = let t = c.take-held.ensures in let a = t.mine in let b = c.give.ensures.same in let d = c.give.ensures.seen in let q = c.args.seat.now.same in
    ap (λ (k : ℕ). by_worker k (entries_of (gives_of c.give.new.seat))) (sym q ∙ (sym t.same.0 ∙ sym b.0))
    ∙ ((λ i. by_worker (b.0 i) (entries_of (d i))) ∙ (none_mine (number_of c.take-held.new.seat) (gives_of c.take-held.new.seat) (c.take-held.result.state.value.full) ∙ a)
    ∙ ap (λ (k : ℕ). by_worker k (entries_of (gives_of c.args.seat.now.seat))) q)

pub returns-clause-known : goal.returns-clause-known
returns-clause-known g c = let t = c.take-held.ensures in let r = c.take-held.result.state.value in let gs = gives_of c.take-held.new.seat in let new = gives_of c.give.new.seat in
    let e : c.deref-2.result.now ≡ r = search rules in let is = t.entries ∙ sym (looked_entries gs new r.full c.give.ensures.seen) in
    targets_known (program_of c.args.self.now) (entries_of new) r c.args.node c.read-reading.result (subst IsCourse e c.read-reading.ensures.course) (ap (λ (z : Program × Limits). z.0) t.base) is
    (subst (λ (z : Run). IsReadingOf z.held c.args.node c.read-reading.result) e c.read-reading.ensures.reading)
