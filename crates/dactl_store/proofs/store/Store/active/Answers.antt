use Rattle.std.proofs.Common.{subst, sym, ◌∙◌}
use Rattle.dactl_model.specs.Matching.{IsActive}
use Rattle.dactl_model.specs.Ending.{IsPassive}
use Rattle.dactl_store.specs.Held.{IsValid}
use Rattle.dactl_store.proofs.Seen.{valid, valid_turned, empty_ring, none_active, front_active}
use Rattle.dactl_store.proofs.store.Store.active.Goals as goal

pub returns-in_default-clause-active : goal.returns-in_default-clause-active
returns-in_default-clause-active c =
    subst (λ held. IsPassive held.graph) c.self.view_is
    (none_active c.self.inside.nodes c.self.inside.arcs.arcs c.self.inside.root c.first_active.ensures.valid (empty_ring c.self.inside.nodes _ c.first_active.ensures.first c.in_default.is))

pub returns-in_default-clause-valid : goal.returns-in_default-clause-valid
returns-in_default-clause-valid c = subst IsValid c.self.view_is (valid _ _ c.self.inside.root _ c.self.invariant c.first_active.ensures.valid)

pub returns-clause-active : goal.returns-clause-active
returns-clause-active c =
    subst (λ held. IsActive held.graph (record { number = c.in-Some.front })) c.self.view_is
    (front_active c.self.inside.nodes c.self.inside.arcs.arcs c.self.inside.root c.in-Some.front c.first_active.ensures.valid (sym c.first_active.ensures.first ∙ c.in-Some.is))

pub returns-clause-valid : goal.returns-clause-valid
returns-clause-valid c =
    rw c.turn.ensures (valid_turned c.self.inside.nodes c.self.inside.arcs c.self.inside.root c.self.inside.room c.self.invariant c.first_active.ensures.valid)
