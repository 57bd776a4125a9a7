use Rattle.std.proofs.Common.{rules, subst, All, ◌≡◌, ℕ, List, [], ◌∷◌, ◌++◌, ap, sym, ◌∙◌, Option}
use Rattle.dactl_model.specs.declared.program.Program.{Program}
use Rattle.dactl_model.specs.declared.graph.Limits.{Limits}
use Rattle.dactl_model.specs.declared.graph.Entry.{Entry}
use Rattle.dactl_turn.specs.Gives.{listed, entries_of, by_worker, give}
use Rattle.dactl_turn.specs.Seats.{number_of, gives_of}
use Rattle.dactl_shared.specs.Counts.{entry_by}
use Rattle.dactl_shared.specs.Stores.{program_of, limits_of, IsStateAt}
use Rattle.dactl_shared.proofs.Endings.{commit_ended}
use Rattle.dactl_shared.proofs.Nodes.{woken_known}
use Rattle.dactl_shared.proofs.Turns.{stands_on, shown_on, mine_grows}
use Rattle.dactl_shared.proofs.store.SharedStore.commit.Goals as goal
use Rattle.dactl_model.specs.Versions.{IsShown}
use Rattle.dactl_state.specs.Runs.{Run, IsCourse, Commits, TellsRest}

pub commit-answer-requires-clause-shown : goal.commit-answer-requires-clause-shown
commit-answer-requires-clause-shown g c = let t = c.take-held.ensures in let d : c.deref_mut.result.now ≡ c.take-held.result.state.value = search rules in let rs = c.args.attempt.now.footprint.readings in
    subst (λ (z : Run). All (IsShown z.program z.journal) rs) (sym d) (shown_on (program_of c.args.self.now) (gives_of c.take-held.new.seat) (gives_of c.args.seat.now.seat) c.take-held.result.state.value rs (ap (λ (z : Program × Limits). z.0) t.base) t.entries t.later c.requires.shown)

pub returns-clause-step : goal.returns-clause-step
returns-clause-step g c = let t = c.take-held.ensures in let r = c.take-held.result.state.value in let p = program_of c.args.self.now in let l = limits_of c.args.self.now in let gs = gives_of c.take-held.new.seat in
    let event = c.args.attempt.now.event in let w = c.args.seat.now.number in let a = c.commit-answer.result in let s = c.commit-answer.ensures in let next = c.commit-answer.new.self in
    let d : c.deref_mut.result.now ≡ r = search rules in let rs = c.args.attempt.now.footprint.readings in
    let done : Commits r next event rs w c.commit-answer.new.woken.list a = subst (λ (z : Run). Commits z next event rs w c.commit-answer.new.woken.list a) d s.commits in
    let at : IsStateAt p l gs r = record {
      course = subst IsCourse d s.course.0;
      program = ap (λ (z : Program × Limits). z.0) t.base;
      limited = ap (λ (z : Program × Limits). z.1) t.base;
      entries = t.entries;
      end = t.end;
    } in
    let after : gives_of c.give.new.seat ≡ gs ++ give (entry_by a w event) next.full ∷ [] = c.give.ensures.seen ∙ ap (λ (z : Option Entry). gs ++ give z next.full ∷ []) c.entry_of-entry.ensures in record {
      found = gs;
      later = t.later;
      run = r;
      is = at;
      next = next;
      after = after;
      stands = stands_on p l gs (gives_of c.give.new.seat) r next event c.args.attempt.now.footprint.readings w c.commit-answer.new.woken.list a at s.course.1 after done;
      commits = done;
      rest = subst (λ (z : Run). TellsRest z a) d s.rest;
    }

pub returns-clause-mine : goal.returns-clause-mine
returns-clause-mine g c = let t = c.take-held.ensures in let b = c.give.ensures.same in let d = c.give.ensures.seen in let w = c.args.seat.now.number in let q = c.args.seat.now.same in let event = c.args.attempt.now.event in
    ap (λ (k : ℕ). by_worker k (entries_of (gives_of c.give.new.seat))) (sym q ∙ (sym t.same.0 ∙ sym b.0))
    ∙ ((λ i. by_worker (b.0 i) (entries_of (d i)))
    ∙ (mine_grows (number_of c.take-held.new.seat) w (gives_of c.take-held.new.seat) c.entry_of-entry.result (c.commit-answer.new.self.full) c.commit-answer.result event
    (sym q ∙ sym t.same.0) c.entry_of-entry.ensures
    ∙ ap (λ (l : List Entry). l ++ listed (entry_by c.commit-answer.result w event)) t.mine)
    ∙ ap (λ (k : ℕ). by_worker k (entries_of (gives_of c.args.seat.now.seat)) ++ listed (entry_by c.commit-answer.result w event)) q)

pub returns-clause-known : goal.returns-clause-known
returns-clause-known g c = let step = returns-clause-step g c in
    woken_known (program_of c.args.self.now) (limits_of c.args.self.now) (gives_of c.give.new.seat) step.run step.next c.args.attempt.now.event c.args.attempt.now.footprint.readings c.args.seat.now.number
    c.commit-answer.new.woken.list c.commit-answer.result step.stands step.is.program step.commits

pub returns-clause-ended : goal.returns-clause-ended
returns-clause-ended g c = let step = returns-clause-step g c in
    commit_ended (program_of c.args.self.now) (limits_of c.args.self.now) (gives_of c.give.new.seat) step.run step.next c.args.attempt.now.event c.args.attempt.now.footprint.readings c.args.seat.now.number
    c.commit-answer.new.woken.list c.commit-answer.result step.stands step.is.course step.commits
