use Rattle.std.proofs.Common.{ℕ, ◌<◌, IsTrue}
use Rattle.dactl_model.specs.Binders as spec
use Rattle.dactl_model.proofs.pattern_checks.binds_each.Given as goal

-- each variable so far has a binder
abbrev pub invariant-loop-variable : goal.invariant-loop-variable
invariant-loop-variable l = (v : ℕ) → v < l.variable → IsTrue (spec.binds v l.pattern)
