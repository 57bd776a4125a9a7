use Rattle.std.proofs.Common.{rules, ◌≡◌, ◌⊎◌, ⊎_elim, ℕ, ◌<◌, ◌≤◌, List, [], ◌∷◌, Option, Some, All, refl, sym, ◌∙◌, subst, slice_get, arith}
use Rattle.std.proofs.lemmas.Option.{get_or_from_slice_get, slice_get_within}
use Rattle.dactl_model.specs.declared.graph.NodeId.{NodeId}
use Rattle.dactl_model.specs.declared.program.Program.{Program}
use Rattle.dactl_model.specs.declared.program.Rule.{Rule}
use Rattle.dactl_model.specs.declared.reading.Reading.{Reading}
use Rattle.dactl_model.specs.Matching.{Precedes}
use Rattle.dactl_model.specs.RuleTold.{IsRuleNo}
use Rattle.dactl_state.proofs.tests.showing.shows_fire.Goals as goal

same_rule : (a b : Rule) → (let l : Option Rule = Some a in l) ≡ Some b → a ≡ b
same_rule a b e = cc

-- where each rule is of no earlier group or fails, those of earlier groups fail
earlier_fail : (p : Program) (rs : List Reading) (n : NodeId) (r : ℕ) (rule : Rule) → slice_get p.rules r ≡ Some rule → All (λ (x : Rule). (rule.group ≤ x.group) ⊎ IsRuleNo p.wide rs n x) p.rules
    → (s : ℕ) (earlier : Rule) → slice_get p.rules s ≡ Some earlier → Precedes p s r → IsRuleNo p.wide rs n earlier
earlier_fail p rs n r rule is all s earlier at before =
    let one : before.earlier ≡ earlier = same_rule before.earlier earlier (sym before.is_earlier ∙ at) in
    let other : before.later ≡ rule = same_rule before.later rule (sym before.is_later ∙ is) in
    let below : earlier.group < rule.group = subst (λ (z : Rule × Rule). z.0.group < z.1.group) (λ i. (one i, other i)) before.group in
    let here : (rule.group ≤ earlier.group) ⊎ IsRuleNo p.wide rs n earlier =
    subst (λ (x : Rule). (rule.group ≤ x.group) ⊎ IsRuleNo p.wide rs n x) (get_or_from_slice_get p.rules s earlier earlier at) (all s earlier (slice_get_within p.rules s earlier at)) in
    ⊎_elim (λ (le : rule.group ≤ earlier.group). absurd (omega arith)) (λ (no : IsRuleNo p.wide rs n earlier). no) here

pub returns-then-is_yes : goal.returns-then-is_yes
returns-then-is_yes c = λ past. let p = c.args.program.now in let rule = c.rule-chosen.result.now in record {
  rule = rule;
  is_rule = c.rule-chosen.ensures;
  read = search rules;
  yes = c.if-is_yes.ensures.yes p.wide refl;
  first = earlier_fail p (c.args.reading.now ∷ []) c.args.reading.now.node c.args.rule rule c.rule-chosen.ensures (subst (λ (z : List Rule). All (λ (x : Rule). (rule.group ≤ x.group) ⊎ IsRuleNo p.wide (c.args.reading.now ∷ []) c.args.reading.now.node x) z) c.as_slice-rules.ensures (c.are_past.ensures p.wide past));
  bindings_are = sym (c.if-is_yes.ensures.none refl);
}
