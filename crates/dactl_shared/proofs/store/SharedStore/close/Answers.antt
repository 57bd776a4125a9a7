use Rattle.std.proofs.Common.{rules, subst, ◌≡◌, ◌<◌, ◌≤◌, ap, sym, ◌∙◌, arith}
use Rattle.std.proofs.lemmas.List.Elements.{All-weaker}
use Rattle.dactl_turn.specs.declared.rule.Joined.{Joined}
use Rattle.dactl_state.specs.Runs.{Run, IsCourse, EndOf}
use Rattle.dactl_model.specs.declared.graph.Limits.{Limits}
use Rattle.dactl_model.specs.declared.program.Program.{Program}
use Rattle.dactl_shared.specs.Endings.{HasEndAt, HasEnd}
use Rattle.dactl_shared.proofs.Endings.{ended_on}
use Rattle.dactl_turn.specs.Gives.{entries_of, end_of, by_worker, mine_in, or_else, IsFront, StartsWith}
use Rattle.dactl_turn.proofs.Gives.{or_else-prefix}
use Rattle.dactl_shared.specs.Stores.{rejoined, program_of, limits_of, IsStateAt}
use Rattle.dactl_shared.proofs.Turns.{begins, all_signed}
use Rattle.dactl_shared.proofs.store.SharedStore.close.Goals as goal

pub returns-clause-begins : goal.returns-clause-begins
returns-clause-begins c = let l = c.close-state.ensures.later in let js = c.into_inner.result.journal in
    let d : c.into_inner.result ≡ c.close-state.result.state.value = search rules in let is = ap (λ (z : Run). z.journal) d ∙ l.2 in
    All-weaker (IsFront l.0) (λ (j : Joined). StartsWith js (entries_of j.gives)) (λ j f. begins l.0 js j.gives is f.0) (rejoined c.args.self) l.4

pub returns-clause-mine : goal.returns-clause-mine
returns-clause-mine c = let l = c.close-state.ensures.later in let js = c.into_inner.result.journal in
    let d : c.into_inner.result ≡ c.close-state.result.state.value = search rules in let is = ap (λ (z : Run). z.journal) d ∙ l.2 in
    All-weaker (IsFront l.0) (λ (j : Joined). by_worker j.number js ≡ mine_in j) (λ j f. ap (by_worker j.number) is ∙ f.1) (rejoined c.args.self) l.4

pub returns-clause-numbers : goal.returns-clause-numbers
returns-clause-numbers c = let made = c.args.self.made in
    All-weaker (λ (j : Joined). (0 < j.number) × (j.number < c.args.self.maker.place.me.0.made)) (λ (j : Joined). (0 < j.number) × (j.number ≤ c.args.self.workers)) (λ j f. let a = f.1 in (f.0, omega arith)) (rejoined c.args.self) c.close-state.ensures.numbers

pub returns-clause-signed : goal.returns-clause-signed
returns-clause-signed c = let d : c.into_inner.result ≡ c.close-state.result.state.value = search rules in all_signed (rejoined c.args.self) c.into_inner.result.journal (λ k. ap (λ (z : Run). by_worker k z.journal) d ∙ c.close-state.ensures.each k)

pub returns-clause-full : goal.returns-clause-full
returns-clause-full c = let l = c.close-state.ensures.later in let full = c.into_inner.result.full in
    let d : c.into_inner.result ≡ c.close-state.result.state.value = search rules in let is = ap (λ (z : Run). z.full) d ∙ l.3 in
    All-weaker (IsFront l.0) (λ (j : Joined). or_else (end_of j.gives) full ≡ full) (λ j f. ap (or_else (end_of j.gives)) is ∙ (or_else-prefix l.0 j.gives f.0 ∙ sym is)) (rejoined c.args.self) l.4

pub returns-clause-ends : goal.returns-clause-ends
returns-clause-ends c = let l = c.close-state.ensures.later in let r = c.close-state.result.state.value in
    let d : c.into_inner.result ≡ r = search rules in let e : c.deref.result.now ≡ r = search rules in let p = program_of c.args.self in let limits = limits_of c.args.self in
    let b = c.close-state.ensures.base in
    let at : IsStateAt p limits l.0 r = record {
      course = subst IsCourse e c.end.ensures.course;
      program = ap (λ (z : Program × Limits). z.0) b;
      limited = ap (λ (z : Program × Limits). z.1) b;
      entries = l.2;
      end = l.3;
    } in
    let told : EndOf r c.end.result = subst (λ (z : Run). EndOf z c.end.result) e c.end.ensures.end in
    All-weaker (IsFront l.0) (λ (j : Joined). HasEndAt p limits (entries_of j.gives) (end_of j.gives) → HasEnd c.into_inner.result)
    (λ j f h. subst HasEnd (sym d) (ended_on p limits l.0 j.gives r c.end.result at told f.0 h)) (rejoined c.args.self) l.4
