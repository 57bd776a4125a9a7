use Rattle.std.proofs.Common.{sym, subst}
use Rattle.dactl_active.specs.Ring.{turned}
use Rattle.dactl_store.specs.Held.{Held}
use Rattle.dactl_store.specs.Held as held
use Rattle.dactl_state.specs.Runs.{Run, IsCourse}
use Rattle.dactl_state.proofs.Course.{turned_course}
use Rattle.dactl_state.proofs.state.State.next_active.Goals as goal

pub invariant_of-self : goal.invariant_of-self
invariant_of-self c = let s = c.self.inside in let i = c.self.invariant in let t = c.active.ensures.turned in
    let u : Run = record { program = s.program; limits = s.limits; journal = s.journal.items; held = s.store; full = s.full } in
    let k = turned_course u (turned s.store.active) i.0 (subst held.IsValid t c.active.ensures.valid) in
    (subst (λ (z : Held). let r : Run = record { program = s.program; limits = s.limits; journal = s.journal.items; held = z; full = s.full } in IsCourse r) (sym t) k, i.1, i.2)

pub returns-clause-course : goal.returns-clause-course
returns-clause-course c = (subst IsCourse c.self.view_is c.self.invariant.0, (invariant_of-self c).0)
