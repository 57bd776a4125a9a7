use Rattle.std.proofs.Common.{subst}
use Rattle.dactl_store.specs.Held.{IsValid}
use Rattle.dactl_store.proofs.Seen.{valid}
use Rattle.dactl_store.proofs.store.Store.next_number.Goals as goal

pub returns-clause-valid : goal.returns-clause-valid
returns-clause-valid c = subst IsValid c.self.view_is (valid _ _ c.self.inside.root _ c.self.invariant c.count.ensures.valid)
