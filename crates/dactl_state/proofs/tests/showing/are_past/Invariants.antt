use Rattle.std.proofs.Common.{◌≤◌, ◌⊎◌, Bool, [], ◌∷◌, All, take}
use Rattle.dactl_model.specs.declared.program.Rule.{Rule}
use Rattle.dactl_model.specs.RuleTold.{IsRuleNo}
use Rattle.dactl_state.proofs.tests.showing.are_past.Given as goal

abbrev pub invariant-loop-rule : goal.invariant-loop-rule
invariant-loop-rule l = (wide : Bool) → All (λ (x : Rule). (l.group ≤ x.group) ⊎ IsRuleNo wide (l.reading ∷ []) l.reading.node x) (take l.rule-index l.rules)
