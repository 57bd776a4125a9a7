use Rattle.std.proofs.Common.{rules, subst, ◌≡◌, ℕ, MatchOption, ap, sym, ◌∙◌}
use Rattle.dactl_model.specs.declared.program.Program.{Program}
use Rattle.dactl_model.specs.declared.graph.Limits.{Limits}
use Rattle.dactl_model.specs.Matching.{IsActive}
use Rattle.dactl_model.specs.Ending.{IsPassive}
use Rattle.dactl_state.specs.Runs.{Run, IsCourse}
use Rattle.dactl_turn.specs.Gives.{entries_of, end_of, by_worker}
use Rattle.dactl_turn.specs.Seats.{number_of, gives_of}
use Rattle.dactl_shared.specs.Stores.{program_of, limits_of}
use Rattle.dactl_shared.proofs.Nodes.{active_known}
use Rattle.dactl_shared.proofs.Endings.{passive_ended}
use Rattle.dactl_shared.proofs.Turns.{none_mine, looked_entries}
use Rattle.dactl_shared.proofs.store.SharedStore.next_active.Goals as goal

pub returns-clause-mine : goal.returns-clause-mine
returns-clause-mine g c = let t = c.take-held.ensures in let a = t.mine in let b = c.give.ensures.same in let d = c.give.ensures.seen in let q = c.args.seat.now.same in
    ap (λ (k : ℕ). by_worker k (entries_of (gives_of c.give.new.seat))) (sym q ∙ (sym t.same.0 ∙ sym b.0))
    ∙ ((λ i. by_worker (b.0 i) (entries_of (d i))) ∙ (none_mine (number_of c.take-held.new.seat) (gives_of c.take-held.new.seat) (c.next_active-node.new.self.full) ∙ a)
    ∙ ap (λ (k : ℕ). by_worker k (entries_of (gives_of c.args.seat.now.seat))) q)

pub returns-clause-known : goal.returns-clause-known
returns-clause-known g c = let t = c.take-held.ensures in let r = c.take-held.result.state.value in let gs = gives_of c.take-held.new.seat in let node = c.next_active-node.result in
    let d : c.deref_mut.result.now ≡ r = search rules in
    let is = t.entries ∙ sym (looked_entries gs (gives_of c.give.new.seat) c.next_active-node.new.self.full c.give.ensures.seen) in
    active_known (program_of c.args.self.now) (entries_of (gives_of c.give.new.seat)) r node (subst IsCourse d c.next_active-node.ensures.course.0) (ap (λ (z : Program × Limits). z.0) t.base) is
    (subst (λ (z : Run). MatchOption node (IsPassive z.held.graph) (IsActive z.held.graph)) d c.next_active-node.ensures.active)

pub returns-clause-ended : goal.returns-clause-ended
returns-clause-ended g c = let t = c.take-held.ensures in let r = c.take-held.result.state.value in let gs = gives_of c.take-held.new.seat in let node = c.next_active-node.result in
    let d : c.deref_mut.result.now ≡ r = search rules in let new = gives_of c.give.new.seat in
    let is = t.entries ∙ sym (looked_entries gs new c.next_active-node.new.self.full c.give.ensures.seen) in
    passive_ended (program_of c.args.self.now) (limits_of c.args.self.now) (entries_of new) (end_of new) r node (subst IsCourse d c.next_active-node.ensures.course.0) (ap (λ (z : Program × Limits). z.0) t.base) is
    (subst (λ (z : Run). MatchOption node (IsPassive z.held.graph) (IsActive z.held.graph)) d c.next_active-node.ensures.active)
