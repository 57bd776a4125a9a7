use Rattle.std.proofs.Common.{ap, subst, ◌∙◌}
use Rattle.dactl_store.specs.Held.{IsValid, left_in}
use Rattle.dactl_store.proofs.Seen.{valid, left_seen}
use Rattle.dactl_store.proofs.store.Store.left.Goals as goal

pub returns-clause-left : goal.returns-clause-left
returns-clause-left c =
    left_seen c.self.inside.nodes c.self.inside.arcs c.self.inside.root c.self.inside.room c.self.invariant _ _ c.count.ensures.count c.len.ensures.len ∙ ap left_in c.self.view_is

pub returns-clause-valid : goal.returns-clause-valid
returns-clause-valid c = subst IsValid c.self.view_is (valid _ _ c.self.inside.root _ c.self.invariant c.count.ensures.valid)
