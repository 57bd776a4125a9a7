use Rattle.std.proofs.Common.{◌⊎◌, sym, ◌∙◌, subst, Contains, List, Some, None}
use Rattle.dactl_base.specs.declared.refusal.Refusal.{Refusal}
use Rattle.dactl_symbols.specs.Least.{TellsLeast}
use Rattle.dactl_symbols.proofs.Sooner.{tells-sooner}
use Rattle.dactl_rules.proofs.WholeRules.{with_fixed}
use Rattle.dactl_rules.proofs.rule.with_pattern.Goals as goal

pub returns-in-Some-clause-faults : goal.returns-in-Some-clause-faults
returns-in-Some-clause-faults c = λ told tells.
    let all = c.as_slice-2.ensures.value ∙ c.in_ok-not_overwritable.ensures ∙ with_fixed c.args.viewer.scopes.now c.args.viewer.owner c.args.parts.now c.args.pattern c.args.known.faults.items c.as_slice.result.now c.as_slice.ensures.value in
    subst (λ (l : List Refusal). TellsLeast (λ r. Contains l r ⊎ Contains told r) (Some c.in-Some.refusal)) all
    (subst (TellsLeast (λ r. Contains c.as_slice-2.result.now r ⊎ Contains told r)) (sym c.in-Some.ensures) (tells-sooner (Contains c.as_slice-2.result.now) (Contains told) c.first.result c.args.known.of_pattern c.first.ensures tells))

pub returns-in_ok-meant-in-None-clause-faults : goal.returns-in_ok-meant-in-None-clause-faults
returns-in_ok-meant-in-None-clause-faults c = λ told tells.
    let all = c.as_slice-2.ensures.value ∙ c.in_ok-not_overwritable.ensures ∙ with_fixed c.args.viewer.scopes.now c.args.viewer.owner c.args.parts.now c.args.pattern c.args.known.faults.items c.as_slice.result.now c.as_slice.ensures.value in
    subst (λ (l : List Refusal). TellsLeast (λ r. Contains l r ⊎ Contains told r) None) all
    (subst (TellsLeast (λ r. Contains c.as_slice-2.result.now r ⊎ Contains told r)) (sym c.in-None.ensures) (tells-sooner (Contains c.as_slice-2.result.now) (Contains told) c.first.result c.args.known.of_pattern c.first.ensures tells))
