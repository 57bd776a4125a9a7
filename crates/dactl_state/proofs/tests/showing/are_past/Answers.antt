use Rattle.std.proofs.Common.{◌≤◌, ◌⊎◌, List, [], ◌∷◌, All, refl, subst}
use Rattle.std.proofs.lemmas.List.{take_all}
use Rattle.std.proofs.lemmas.List.Elements.{All-more}
use Rattle.dactl_model.specs.declared.program.Rule.{Rule}
use Rattle.dactl_model.specs.RuleTold.{IsRuleNo}
use Rattle.dactl_state.proofs.tests.showing.are_past.Goals as goal

pub loop-rule-preserved : goal.loop-rule-preserved
loop-rule-preserved c = λ wide. let r = c.args.reading.now in let P = λ (x : Rule). (c.args.group ≤ x.group) ⊎ IsRuleNo wide (r ∷ []) r.node x in
    All-more P c.args.rules.now c.loop-rule.rule-index c.rule-item.result c.loop-rule-test.true (c.loop-rule.invariant wide) (subst P c.rule-item.is (c.if-not-is_past.ensures wide refl))

pub returns : goal.returns
returns c = λ wide always. let r = c.args.reading.now in let P = λ (x : Rule). (c.args.group ≤ x.group) ⊎ IsRuleNo wide (r ∷ []) r.node x in
    subst (λ (z : List Rule). All P z) (take_all c.loop-rule.rule-index c.args.rules.now c.loop-rule-test.false) (c.loop-rule.invariant wide)
