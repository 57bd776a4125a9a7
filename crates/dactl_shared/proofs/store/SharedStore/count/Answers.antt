use Rattle.std.proofs.Common.{rules, subst, ◌≡◌, ℕ, ◌<◌, length, ap, sym, ◌∙◌}
use Rattle.dactl_model.specs.declared.program.Program.{Program}
use Rattle.dactl_model.specs.declared.graph.Limits.{Limits}
use Rattle.dactl_state.specs.Runs.{Run, IsCourse}
use Rattle.dactl_turn.specs.Gives.{entries_of, by_worker}
use Rattle.dactl_turn.specs.Seats.{number_of, gives_of}
use Rattle.dactl_shared.specs.Stores.{program_of}
use Rattle.dactl_shared.proofs.Nodes.{node_known}
use Rattle.dactl_shared.proofs.Turns.{none_mine, looked_entries}
use Rattle.dactl_shared.proofs.store.SharedStore.count.Goals as goal

pub returns-clause-mine : goal.returns-clause-mine
returns-clause-mine g c = let t = c.take-held.ensures in let a = t.mine in let b = c.give.ensures.same in let d = c.give.ensures.seen in let q = c.args.seat.now.same in
    ap (λ (k : ℕ). by_worker k (entries_of (gives_of c.give.new.seat))) (sym q ∙ (sym t.same.0 ∙ sym b.0))
    ∙ ((λ i. by_worker (b.0 i) (entries_of (d i))) ∙ (none_mine (number_of c.take-held.new.seat) (gives_of c.take-held.new.seat) (c.take-held.result.state.value.full) ∙ a)
    ∙ ap (λ (k : ℕ). by_worker k (entries_of (gives_of c.args.seat.now.seat))) q)

pub returns-clause-known : goal.returns-clause-known
returns-clause-known g c n below = let t = c.take-held.ensures in let r = c.take-held.result.state.value in let gs = gives_of c.take-held.new.seat in
    let d : c.deref.result.now ≡ r = search rules in
    let is = t.entries ∙ sym (looked_entries gs (gives_of c.give.new.seat) r.full c.give.ensures.seen) in
    node_known (program_of c.args.self.now) (entries_of (gives_of c.give.new.seat)) r n (subst IsCourse d c.count-nodes.ensures.course) (ap (λ (z : Program × Limits). z.0) t.base) is
    (subst (λ (z : Run). n.number < length z.held.graph.nodes) d (subst (λ (k : ℕ). n.number < k) c.count-nodes.ensures.count below))
