use Rattle.std.proofs.Common.{ap, sym, subst, ◌∙◌}
use Rattle.dactl_arcs.specs.Pool.{targets}
use Rattle.dactl_arcs.specs.Kept.{AreBelow}
use Rattle.dactl_model.specs.declared.graph.NodeId.{NodeId}
use Rattle.dactl_store.specs.Layout.{held_of}
use Rattle.dactl_store.specs.Redirecting.{number_pairs, IsVersioned, IsLatest, sent, redirected}
use Rattle.dactl_store.proofs.Moved.{pairs_below, IsStore-moved, graph_moved, versioned}
use Rattle.dactl_store.proofs.store.Store.redirect_numbers.Goals as goal

pub redirect-requires-clause-below : goal.redirect-requires-clause-below
redirect-requires-clause-below c =
    subst (AreBelow (targets c.self.inside.arcs)) (sym c.requires.pairs)
    (subst (λ room. AreBelow room (number_pairs c.args.moves.now)) (ap (λ h. h.room.nodes) (sym c.self.view_is) ∙ sym c.self.invariant.targets) (pairs_below _ c.args.moves.now c.requires.nodes))

pub invariant_of-self : goal.invariant_of-self
invariant_of-self c =
    let s = c.self.inside in
    let moved = rw c.requires.pairs at c.redirect.ensures.arcs in
    let stamped = rw c.requires.pairs at c.redirect.ensures.changed in
    IsStore-moved s.nodes s.arcs s.root s.room c.self.invariant c.redirect.new.self c.args.moves.now c.args.version c.redirect.ensures.kept moved stamped

pub returns-clause-graph : goal.returns-clause-graph
returns-clause-graph c =
    let s = c.self.inside in
    let moved = rw c.requires.pairs at c.redirect.ensures.arcs in
    let stamped = rw c.requires.pairs at c.redirect.ensures.changed in
    let root = rw c.requires.pairs at c.moved_number.ensures in
    graph_moved s.nodes s.arcs s.root s.room c.self.invariant c.redirect.new.self c.args.moves.now c.args.version c.redirect.ensures.kept moved stamped _ root
    ∙ ap (λ h. redirected (sent c.args.moves.now) h.graph) c.self.view_is

pub returns-clause-versions : goal.returns-clause-versions
returns-clause-versions c =
    let s = c.self.inside in
    let moved = rw c.requires.pairs at c.redirect.ensures.arcs in
    let stamped = rw c.requires.pairs at c.redirect.ensures.changed in
    let root : NodeId = record { number = c.moved_number.result } in
    subst (λ before. IsVersioned c.args.version before (held_of c.self.inside.nodes c.redirect.new.self (record { number = c.moved_number.result }) c.self.inside.room)) c.self.view_is
    (versioned s.nodes s.arcs s.root s.room c.self.invariant c.redirect.new.self c.args.moves.now c.args.version c.redirect.ensures.kept moved stamped root (subst (IsLatest c.args.version) (sym c.self.view_is) c.requires.latest))
