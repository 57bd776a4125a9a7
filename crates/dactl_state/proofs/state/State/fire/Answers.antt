use Rattle.std.proofs.Common.{rules, ◌≡◌, ℕ, ◌+◌, [], ◌∷◌, ◌++◌, None, sym, ap, subst, length}
use Rattle.dactl_model.specs.declared.graph.Event.TheVariants.{Fire}
use Rattle.dactl_model.specs.Ending.{IsFull}
use Rattle.dactl_model.specs.Steps.{MayHappen}
use Rattle.dactl_store.specs.Redirecting.{IsLatest}
use Rattle.dactl_state.specs.Grown.{entry_of}
use Rattle.dactl_state.specs.Runs.{Run, IsCourse, IsStepped, EndOf}
use Rattle.dactl_state.proofs.Course.{next_latest, full_kept, fired_course}
use Rattle.dactl_state.proofs.state.State.fire.Goals as goal

pub fire-requires-clause-latest : goal.fire-requires-clause-latest
fire-requires-clause-latest c = let s = c.self.inside in let i = c.self.invariant in
    let u : Run = record { program = s.program; limits = s.limits; journal = s.journal.items; held = s.store; full = s.full } in
    let number : s.done + 1 ≡ length s.journal.items + 1 = ap (λ (k : ℕ). k + 1) i.1 in subst (λ (k : ℕ). IsLatest k s.store) (sym number) (next_latest u i.0)

pub invariant_of-self : goal.invariant_of-self
invariant_of-self c = let s = c.self.inside in let i = c.self.invariant in let v = c.self.view_is in let n = c.args.node in let rule = c.args.rule in let bs = c.args.bindings.now in
    let u : Run = record { program = s.program; limits = s.limits; journal = s.journal.items; held = s.store; full = s.full } in
    let none = subst (λ (z : Run). EndOf z None) (sym v) c.requires.free in let may = subst (λ (z : Run). MayHappen z.program z.held.graph bs (Fire n rule)) (sym v) c.requires.may in
    let kept = full_kept u n rule bs c.fire.new.store c.fire.new.woken.list c.in-Err.full i.0 none may c.in-Err.ensures.err in (kept.0, i.1, i.2)

pub returns-in-Err-clause-full : goal.returns-in-Err-clause-full
returns-in-Err-clause-full c = let s = c.self.inside in let i = c.self.invariant in let v = c.self.view_is in let n = c.args.node in let rule = c.args.rule in let bs = c.args.bindings.now in
    let u : Run = record { program = s.program; limits = s.limits; journal = s.journal.items; held = s.store; full = s.full } in
    let none = subst (λ (z : Run). EndOf z None) (sym v) c.requires.free in let may = subst (λ (z : Run). MayHappen z.program z.held.graph bs (Fire n rule)) (sym v) c.requires.may in
    let kept = full_kept u n rule bs c.fire.new.store c.fire.new.woken.list c.in-Err.full i.0 none may c.in-Err.ensures.err in
    subst (λ (z : Run). IsFull z.program z.limits z.held.graph n rule c.in-Err.full.needed c.in-Err.full.left) v kept.1

pub returns-in-Err-clause-course : goal.returns-in-Err-clause-course
returns-in-Err-clause-course c = (subst IsCourse c.self.view_is c.self.invariant.0, (invariant_of-self c).0)

pub invariant_of-self-2 : goal.invariant_of-self-2
invariant_of-self-2 c = let s = c.self.inside in let i = c.self.invariant in let v = c.self.view_is in let n = c.args.node in let rule = c.args.rule in let bs = c.args.bindings.now in
    let u : Run = record { program = s.program; limits = s.limits; journal = s.journal.items; held = s.store; full = s.full } in
    let none = subst (λ (z : Run). EndOf z None) (sym v) c.requires.free in let may = subst (λ (z : Run). MayHappen z.program z.held.graph bs (Fire n rule)) (sym v) c.requires.may in
    let items : c.push_reserved.new.self.items ≡ s.journal.items ++ entry_of c.args.worker (Fire n rule) ∷ [] = search rules in
    let number : s.done + 1 ≡ length s.journal.items + 1 = ap (λ (k : ℕ). k + 1) i.1 in
    let two = fired_course u n rule c.args.worker (s.done + 1) bs c.fire.new.store c.push_reserved.new.self.items c.fire.new.woken.list i.0 none may number c.in_default.ensures.ok c.keep.ensures items in
    (two.0, search rules, search rules)

pub returns-clause-ok : goal.returns-clause-ok
returns-clause-ok c = let s = c.self.inside in let i = c.self.invariant in let v = c.self.view_is in let n = c.args.node in let rule = c.args.rule in let bs = c.args.bindings.now in
    let u : Run = record { program = s.program; limits = s.limits; journal = s.journal.items; held = s.store; full = s.full } in
    let none = subst (λ (z : Run). EndOf z None) (sym v) c.requires.free in let may = subst (λ (z : Run). MayHappen z.program z.held.graph bs (Fire n rule)) (sym v) c.requires.may in
    let items : c.push_reserved.new.self.items ≡ s.journal.items ++ entry_of c.args.worker (Fire n rule) ∷ [] = search rules in
    let number : s.done + 1 ≡ length s.journal.items + 1 = ap (λ (k : ℕ). k + 1) i.1 in
    let two = fired_course u n rule c.args.worker (s.done + 1) bs c.fire.new.store c.push_reserved.new.self.items c.fire.new.woken.list i.0 none may number c.in_default.ensures.ok c.keep.ensures items in
    let new : Run = record { program = s.program; limits = s.limits; journal = c.push_reserved.new.self.items; held = c.fire.new.store; full = s.full } in
    subst (λ (z : Run). IsStepped z new (Fire n rule) c.args.worker c.fire.new.woken.list) v two.1

pub returns-clause-course : goal.returns-clause-course
returns-clause-course c = (subst IsCourse c.self.view_is c.self.invariant.0, (invariant_of-self-2 c).0)
