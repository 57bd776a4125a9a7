use Rattle.std.proofs.Common.{subst}
use Rattle.std.specs.Bool.{MatchBool}
use Rattle.dactl_model.specs.Ending.{IsPassive}
use Rattle.dactl_store.specs.Held.{IsValid, HasActive}
use Rattle.dactl_store.proofs.Seen.{valid, any_seen}
use Rattle.dactl_store.proofs.store.Store.any_active.Goals as goal

pub returns-clause-active : goal.returns-clause-active
returns-clause-active c =
    subst (λ held. MatchBool c.is_some.result (HasActive held.graph) (IsPassive held.graph)) c.self.view_is
    (any_seen c.self.inside.nodes c.self.inside.arcs.arcs c.self.inside.root _ _ c.first_active.ensures.valid c.first_active.ensures.first c.is_some.ensures)

pub returns-clause-valid : goal.returns-clause-valid
returns-clause-valid c = subst IsValid c.self.view_is (valid _ _ c.self.inside.root _ c.self.invariant c.first_active.ensures.valid)
