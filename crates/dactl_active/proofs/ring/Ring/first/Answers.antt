use Rattle.std.proofs.Common.{subst}
use Rattle.dactl_active.specs.Ring.{IsValid}
use Rattle.dactl_active.proofs.Linking.{valid}
use Rattle.dactl_active.proofs.ring.Ring.first.Goals as goal

pub returns-then-self-eq0-clause-valid : goal.returns-then-self-eq0-clause-valid
returns-then-self-eq0-clause-valid c = subst IsValid c.self.view_is (valid _ _ _ c.self.invariant)

pub returns-clause-valid : goal.returns-clause-valid
returns-clause-valid c = subst IsValid c.self.view_is (valid _ _ _ c.self.invariant)
