use Rattle.std.proofs.Common.{◌≡◌, ◌+◌, Some, subst, sym}
use Rattle.std.specs.List.{slice_get}
use Rattle.dactl_model.specs.Graphs.{HasArc, HasPlace}
use Rattle.dactl_store.specs.Layout.{arc_of}
use Rattle.dactl_store.proofs.Seen.{below_seen, arc_seen}
use Rattle.dactl_store.proofs.view.StoreView.arc.Goals as goal

pub returns : goal.returns
returns c =
    let s = c.self.inside in
    let below = below_seen s.nodes s.arcs s.root s.room c.self.invariant _ c.self.view_is c.args.node.number c.requires.node in
    let there = subst (λ held. HasPlace held.graph c.args.node c.args.place) (sym c.self.view_is) c.requires.place in
    let at = subst (λ r. slice_get c.self.inside.arcs.arcs (r.span.first + c.args.place) ≡ Some c.arc-record.result) c.get.ensures.found c.arc-record.ensures in
    subst (λ held. HasArc held.graph c.args.node c.args.place (arc_of c.arc-record.result)) c.self.view_is
    (arc_seen s.nodes s.arcs s.root s.room c.self.invariant c.args.node c.args.place c.arc-record.result below there at)
