use Rattle.std.proofs.Common.{rules, sym, subst}
use Rattle.dactl_model.specs.Graphs.{HasNode}
use Rattle.dactl_model.specs.Versions.{IsShown}
use Rattle.dactl_store.specs.Held.{IsReadingOf}
use Rattle.dactl_state.specs.Runs.{Run}
use Rattle.dactl_state.proofs.Course.{read_shown}
use Rattle.dactl_state.proofs.state.State.read.Goals as goal

pub returns-clause-shown : goal.returns-clause-shown
returns-clause-shown c = let s = c.self.inside in let i = c.self.invariant in
    let u : Run = record { program = s.program; limits = s.limits; journal = s.journal.items; held = s.store; full = s.full } in
    let read : IsReadingOf s.store c.args.node c.reading.result = search rules in
    subst (λ (z : Run). IsShown z.program z.journal c.reading.result) c.self.view_is
    (read_shown u c.args.node c.reading.result i.0 (subst (λ (z : Run). HasNode z.held.graph c.args.node) (sym c.self.view_is) c.requires) read)
