use Rattle.std.proofs.Common.{rules, ◌≡◌, [], ◌∷◌, ◌++◌, None, sym, subst}
use Rattle.dactl_model.specs.declared.graph.Event.TheVariants.{Note}
use Rattle.dactl_model.specs.Steps.{MayHappen}
use Rattle.dactl_state.specs.Grown.{entry_of}
use Rattle.dactl_state.specs.Runs.{Run, IsCourse, IsStepped, EndOf}
use Rattle.dactl_state.proofs.Course.{noted_course}
use Rattle.dactl_state.proofs.state.State.note.Goals as goal

pub invariant_of-self : goal.invariant_of-self
invariant_of-self c = let s = c.self.inside in let i = c.self.invariant in let v = c.self.view_is in let n = c.args.node in let e = c.note.ensures in
    let u : Run = record { program = s.program; limits = s.limits; journal = s.journal.items; held = s.store; full = s.full } in
    let none = subst (λ (z : Run). EndOf z None) (sym v) c.requires.free in let may = subst (λ (z : Run). MayHappen z.program z.held.graph [] (Note n)) (sym v) c.requires.may in
    let items : c.push_reserved.new.self.items ≡ s.journal.items ++ entry_of c.args.worker (Note n) ∷ [] = search rules in
    let two = noted_course u n c.args.worker c.note.new.store c.push_reserved.new.self.items c.note.new.woken.list i.0 none may e.graph e.versions e.room e.newest e.woken c.keep.ensures items in
    (two.0, search rules, search rules)

pub returns-clause-stepped : goal.returns-clause-stepped
returns-clause-stepped c = let s = c.self.inside in let i = c.self.invariant in let v = c.self.view_is in let n = c.args.node in let e = c.note.ensures in
    let u : Run = record { program = s.program; limits = s.limits; journal = s.journal.items; held = s.store; full = s.full } in
    let none = subst (λ (z : Run). EndOf z None) (sym v) c.requires.free in let may = subst (λ (z : Run). MayHappen z.program z.held.graph [] (Note n)) (sym v) c.requires.may in
    let items : c.push_reserved.new.self.items ≡ s.journal.items ++ entry_of c.args.worker (Note n) ∷ [] = search rules in
    let two = noted_course u n c.args.worker c.note.new.store c.push_reserved.new.self.items c.note.new.woken.list i.0 none may e.graph e.versions e.room e.newest e.woken c.keep.ensures items in
    let new : Run = record { program = s.program; limits = s.limits; journal = c.push_reserved.new.self.items; held = c.note.new.store; full = s.full } in
    subst (λ (z : Run). IsStepped z new (Note n) c.args.worker c.note.new.woken.list) v two.1

pub returns-clause-course : goal.returns-clause-course
returns-clause-course c = (subst IsCourse c.self.view_is c.self.invariant.0, (invariant_of-self c).0)
