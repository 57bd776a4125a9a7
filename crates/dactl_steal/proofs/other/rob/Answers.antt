use Rattle.std.proofs.Common.{◌<◌, ℕ, sym, ap, subst}
use Rattle.dactl_steal.proofs.Deques.{takes}
use Rattle.dactl_steal.proofs.other.rob.Goals as goal

pub steal_as-requires-clause-takes : goal.steal_as-requires-clause-takes
steal_as-requires-clause-takes g c = takes _ _ (subst (λ (z : ℕ). 0 < z) (sym (ap (λ v. v.parts) c.loop.invariant.1)) c.requires.part)
