use Rattle.std.proofs.Common.{List, ap, sym, subst}
use Rattle.dactl_model.specs.declared.graph.NodeId.{NodeId}
use Rattle.dactl_model.specs.declared.graph.Event.TheVariants.{Fire}
use Rattle.dactl_model.specs.Steps.{MayHappen}
use Rattle.dactl_model.specs.Rooms.{NodeList}
use Rattle.dactl_state.specs.Runs.{Commits}
use Rattle.dactl_state.proofs.Course.{current_may_happen}
use Rattle.dactl_state.proofs.state.State.commit.Goals as goal

pub returns-in-Some-clause-commits : goal.returns-in-Some-clause-commits
returns-in-Some-clause-commits c = let r = c.args.self.now in let a = c.args.attempt.now in
    subst (λ (z : List NodeId). Commits r r a.event a.footprint.readings c.args.worker z c.in-Some.answer) (ap (λ (w : NodeList). w.list) (sym c.clear.ensures)) (c.in-Some.ensures.refuses c.args.worker)

pub fire-requires-clause-may : goal.fire-requires-clause-may
fire-requires-clause-may c = let r = c.args.self.now in let a = c.args.attempt.now in let fp = a.footprint in
    let may = current_may_happen r a.event fp.readings fp.bindings c.in_default.ensures.course c.requires.shown c.requires.shows c.in_default.ensures.refuses in
    subst (λ (z : List NodeId). MayHappen r.program r.held.graph z (Fire c.in-Fire.node c.in-Fire.rule)) (sym c.bindings-bindings.ensures) (subst (MayHappen r.program r.held.graph fp.bindings) c.in-Fire.is may)

pub note-requires-clause-may : goal.note-requires-clause-may
note-requires-clause-may c = let r = c.args.self.now in let a = c.args.attempt.now in let fp = a.footprint in
    let may = current_may_happen r a.event fp.readings fp.bindings c.in_default.ensures.course c.requires.shown c.requires.shows c.in_default.ensures.refuses in
    subst (MayHappen r.program r.held.graph fp.bindings) c.in-Note.is may
