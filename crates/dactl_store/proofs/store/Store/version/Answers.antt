use Rattle.std.proofs.Common.{Some, ap, sym, subst, ◌∙◌}
use Rattle.dactl_store.specs.Held.{IsValid, IsVersionAt}
use Rattle.dactl_store.specs.Layout.{version_of}
use Rattle.dactl_store.proofs.Seen.{below_seen, span_within, version_seen, valid}
use Rattle.dactl_store.proofs.store.Store.version.Goals as goal

pub version_along-requires-clause-within : goal.version_along-requires-clause-within
version_along-requires-clause-within c =
    let s = c.self.inside in
    rw c.get.ensures.found (span_within s.nodes s.arcs s.root s.room c.self.invariant c.args.n.number (below_seen s.nodes s.arcs s.root s.room c.self.invariant _ c.self.view_is c.args.n.number c.requires))

pub returns-clause-version : goal.returns-clause-version
returns-clause-version c =
    let s = c.self.inside in
    let below = below_seen s.nodes s.arcs s.root s.room c.self.invariant _ c.self.view_is c.args.n.number c.requires in
    subst (λ held. IsVersionAt held c.args.n c.version_along.result) c.self.view_is
    (version_seen s.nodes s.arcs s.root s.room c.self.invariant c.args.n.number below ∙ ap Some (sym (c.version_along.ensures ∙ ap (version_of c.self.inside.arcs.changed) c.get.ensures.found)))

pub returns-clause-valid : goal.returns-clause-valid
returns-clause-valid c = subst IsValid c.self.view_is (valid _ _ c.self.inside.root _ c.self.invariant c.get.ensures.valid)
