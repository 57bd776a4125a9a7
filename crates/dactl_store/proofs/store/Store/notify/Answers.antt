use Rattle.std.proofs.Common.{◌≡◌, length, ap, ◌∙◌, arith}
use Rattle.dactl_model.specs.declared.graph.Event.TheVariants.{Note}
use Rattle.dactl_model.specs.declared.graph.Mark.TheVariants.{Idle}
use Rattle.dactl_store.specs.Held.{with_mark}
use Rattle.dactl_store.specs.Layout.{graph_of}
use Rattle.dactl_store.proofs.Seen.{nodes_counted}
use Rattle.dactl_store.proofs.Growing.{length-changed_at}
use Rattle.dactl_store.proofs.Moved.{owners}
use Rattle.dactl_store.proofs.Noted.{IsStore-noted, graph_noted, versions_noted, acts_listed}
use Rattle.dactl_store.proofs.Acting.{acts_are}
use Rattle.dactl_store.proofs.store.Store.notify.Goals as goal

pub notify_owners-requires-clause-target : goal.notify_owners-requires-clause-target
notify_owners-requires-clause-target c =
    let s = c.self.inside in
    let count = ap (λ h. length h.graph.nodes) (c.self.view_is ∙ c.set_mark.ensures) in
    omega (arith, count, length-changed_at c.args.n.number (λ node. record node { mark = Idle }) c.args.self.now.graph.nodes, nodes_counted s.nodes s.arcs s.root s.room c.self.invariant, c.requires.node, c.self.invariant.nodes_few, c.self.invariant.nodes_room, c.self.invariant.targets)

pub notify_owners-requires-clause-owners : goal.notify_owners-requires-clause-owners
notify_owners-requires-clause-owners c = owners c.self.inside.nodes c.self.inside.arcs c.self.inside.root c.self.inside.room c.self.invariant

pub notify_owners-requires-clause-room : goal.notify_owners-requires-clause-room
notify_owners-requires-clause-room c =
    let s = c.self.inside in
    let count = ap (λ h. length h.graph.nodes) (c.self.view_is ∙ c.set_mark.ensures) in
    omega (arith, count, length-changed_at c.args.n.number (λ node. record node { mark = Idle }) c.args.self.now.graph.nodes, nodes_counted s.nodes s.arcs s.root s.room c.self.invariant, c.requires.room, ap (λ w. w.room) c.clear.ensures)

pub clear_waits-requires : goal.clear_waits-requires
clear_waits-requires c =
    let s = c.self.inside in
    let count = ap (λ h. length h.graph.nodes) (c.self.view_is ∙ c.set_mark.ensures) in
    omega (arith, count, length-changed_at c.args.n.number (λ node. record node { mark = Idle }) c.args.self.now.graph.nodes, nodes_counted s.nodes s.arcs s.root s.room c.self.invariant, c.requires.node, c.self.invariant.nodes_few, c.self.invariant.nodes_room, c.self.invariant.targets)

pub invariant_of-self : goal.invariant_of-self
invariant_of-self c =
    let s = c.self.inside in
    let idled : graph_of c.self.inside.nodes.records c.self.inside.arcs.arcs c.self.inside.root ≡ with_mark c.args.self.now.graph c.args.n Idle = ap (λ h. h.graph) (c.self.view_is ∙ c.set_mark.ensures) in
    IsStore-noted s.nodes s.arcs s.root s.room c.self.invariant c.notify_owners.new.nodes c.clear_waits.new.self c.args.n c.args.self.now.graph c.clear_waits.ensures.arcs c.notify_owners.ensures.notified idled
    c.clear_waits.ensures.changed c.clear_waits.ensures.kept.targets c.clear_waits.ensures.kept.room c.notify_owners.ensures.room

pub returns-clause-graph : goal.returns-clause-graph
returns-clause-graph c =
    let s = c.self.inside in
    let idled : graph_of c.self.inside.nodes.records c.self.inside.arcs.arcs c.self.inside.root ≡ with_mark c.args.self.now.graph c.args.n Idle = ap (λ h. h.graph) (c.self.view_is ∙ c.set_mark.ensures) in
    graph_noted s.nodes s.arcs s.root s.room c.self.invariant c.notify_owners.new.nodes c.clear_waits.new.self c.args.n c.args.self.now.graph c.clear_waits.ensures.arcs c.notify_owners.ensures.notified idled

pub returns-clause-versions : goal.returns-clause-versions
returns-clause-versions c =
    let s = c.self.inside in
    let idled : graph_of c.self.inside.nodes.records c.self.inside.arcs.arcs c.self.inside.root ≡ with_mark c.args.self.now.graph c.args.n Idle = ap (λ h. h.graph) (c.self.view_is ∙ c.set_mark.ensures) in
    versions_noted s.nodes s.arcs s.root s.room c.self.invariant c.notify_owners.new.nodes c.clear_waits.new.self c.args.n c.args.self.now.graph c.clear_waits.ensures.arcs c.notify_owners.ensures.notified idled
    c.clear_waits.ensures.changed
    ∙ ap (λ h. h.versions) (c.self.view_is ∙ c.set_mark.ensures)

pub returns-clause-woken : goal.returns-clause-woken
returns-clause-woken c =
    let s = c.self.inside in
    let idled : graph_of c.self.inside.nodes.records c.self.inside.arcs.arcs c.self.inside.root ≡ with_mark c.args.self.now.graph c.args.n Idle = ap (λ h. h.graph) (c.self.view_is ∙ c.set_mark.ensures) in
    acts_are c.args.self.now.graph (graph_of c.notify_owners.new.nodes.records c.clear_waits.new.self.arcs c.self.inside.root) (Note c.args.n) c.notify_owners.new.woken.list c.sort.new.self.list
    c.notify_owners.ensures.woken.distinct c.sort.ensures.same c.sort.ensures.ascending
    (acts_listed s.nodes s.arcs s.root s.room c.self.invariant c.notify_owners.new.nodes c.clear_waits.new.self c.args.n c.args.self.now.graph c.clear_waits.ensures.arcs c.notify_owners.ensures.notified idled
    c.notify_owners.new.woken.list c.notify_owners.ensures.woken c.requires.node)
