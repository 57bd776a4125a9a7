use Rattle.std.proofs.Common.{subst}
use Rattle.dactl_store.specs.Held.{IsValid, IsReadingOf}
use Rattle.dactl_store.proofs.Seen.{below_seen, span_within, span_few, reading_seen, valid}
use Rattle.dactl_store.proofs.store.Store.reading.Goals as goal

pub read_along-version-requires-clause-within : goal.read_along-version-requires-clause-within
read_along-version-requires-clause-within c =
    let s = c.self.inside in
    rw c.get-node.ensures.found (span_within s.nodes s.arcs s.root s.room c.self.invariant c.args.n.number (below_seen s.nodes s.arcs s.root s.room c.self.invariant _ c.self.view_is c.args.n.number c.requires))

pub read_along-version-requires-clause-few : goal.read_along-version-requires-clause-few
read_along-version-requires-clause-few c =
    let s = c.self.inside in
    rw c.get-node.ensures.found (span_few s.nodes s.arcs s.root s.room c.self.invariant c.args.n.number (below_seen s.nodes s.arcs s.root s.room c.self.invariant _ c.self.view_is c.args.n.number c.requires))

pub returns-clause-reading : goal.returns-clause-reading
returns-clause-reading c =
    let s = c.self.inside in
    let below = below_seen s.nodes s.arcs s.root s.room c.self.invariant _ c.self.view_is c.args.n.number c.requires in
    let read = c.read_along-version.result in
    subst (λ held. IsReadingOf held c.args.n (record { node = c.args.n; label = c.get-node.result.label; targets = read.0; version = read.1 })) c.self.view_is
    (reading_seen s.nodes s.arcs s.root s.room c.self.invariant c.args.n c.get-node.result read.0 read.1 below c.get-node.ensures.found c.read_along-version.ensures.targets c.read_along-version.ensures.version)

pub returns-clause-valid : goal.returns-clause-valid
returns-clause-valid c = subst IsValid c.self.view_is (valid _ _ c.self.inside.root _ c.self.invariant c.get-node.ensures.valid)
