use Rattle.std.proofs.Common.{[], List, All, MatchOption, Option, refl, sym, subst}
use Rattle.dactl_model.specs.declared.reading.Reading.{Reading}
use Rattle.dactl_model.specs.Graphs.{HasNode}
use Rattle.dactl_model.specs.Versions.{IsShown}
use Rattle.dactl_state.specs.declared.state.Answer.{Answer}
use Rattle.dactl_state.specs.declared.state.Answer.TheVariants.{Stale}
use Rattle.dactl_state.specs.Grown.{HasNotGrown, IsFirstGrown}
use Rattle.dactl_state.specs.Runs.{Run, Commits, Refuses, IsCurrent}
use Rattle.dactl_state.proofs.Course.{all_there, opened}
use Rattle.dactl_state.proofs.state.State.refusal.Goals as goal

pub first_grown-requires : goal.first_grown-requires
first_grown-requires c = let s = c.self.inside in let rs = c.args.attempt.now.footprint.readings in
    let u : Run = record { program = s.program; limits = s.limits; journal = s.journal.items; held = s.store; full = s.full } in
    let shown = subst (λ (z : Run). All (IsShown z.program z.journal) rs) (sym c.self.view_is) c.requires in
    subst (λ (z : List Reading). All (λ (rd : Reading). HasNode s.store.graph rd.node) z) (sym c.readings.ensures) (all_there u rs c.self.invariant.0 shown)

pub returns-in_err-reading-clause-refuses : goal.returns-in_err-reading-clause-refuses
returns-in_err-reading-clause-refuses c = let s = c.self.inside in let event = c.args.attempt.now.event in let rs = c.args.attempt.now.footprint.readings in
    let u : Run = record { program = s.program; limits = s.limits; journal = s.journal.items; held = s.store; full = s.full } in
    let current : IsCurrent u event rs = record {
      free = opened u s.done event c.node_of.result c.self.invariant.1 c.in_default.ensures c.node_of.ensures c.if-not-is_active.ensures;
      grown = subst (λ (z : List Reading). All (HasNotGrown s.store) z) c.readings.ensures c.in_err-reading.ensures;
    } in
    subst (λ (o : Option Answer). MatchOption o (IsCurrent c.args.self.now event rs) (Refuses c.args.self.now event rs)) (sym c.from_residual.ensures) (subst (λ (z : Run). IsCurrent z event rs) c.self.view_is current)

pub returns-clause-refuses : goal.returns-clause-refuses
returns-clause-refuses c = let s = c.self.inside in let event = c.args.attempt.now.event in let rs = c.args.attempt.now.footprint.readings in
    let u : Run = record { program = s.program; limits = s.limits; journal = s.journal.items; held = s.store; full = s.full } in
    let r = c.in_ok-reading.reading in let now = c.in_ok-reading.now in λ worker.
    let free = opened u s.done event c.node_of.result c.self.invariant.1 c.in_default.ensures c.node_of.ensures c.if-not-is_active.ensures in
    let first : IsFirstGrown s.store rs r now = subst (λ (z : List Reading). IsFirstGrown s.store z r now) c.readings.ensures c.in_ok-reading.ensures in
    let stale : Commits u u event rs worker [] (Stale r.node r.version now) = (free, (r, refl, refl, first), refl, refl) in
    subst (λ (z : Run). Commits z z event rs worker [] (Stale r.node r.version now)) c.self.view_is stale
