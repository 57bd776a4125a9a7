use Rattle.std.proofs.Common.{map, refl, subst}
use Rattle.std.specs.List.{flat_map}
use Rattle.std.proofs.lemmas.List.{take_all}
use Rattle.dactl_contractum.specs.Listing.{placed}
use Rattle.dactl_rules.specs.RuleLists.{HasRules, groups_in}
use Rattle.dactl_rules.proofs.RuleLists.{groups_of_items_more, rules_all}
use Rattle.dactl_rules.proofs.compiled.rules.Goals as goal

pub loop-item-preserved : goal.loop-item-preserved
loop-item-preserved c =
    groups_of_items_more c.args.patterns.now.text.now placed c.args.items.now c.loop-item.item-index c.item-item.result _ c.loop-item.compiled c.add_item.new.self c.loop-item-test.true c.item-item.is c.loop-item.invariant c.in_ok-add_item.ensures

pub returns : goal.returns
returns c =
    subst (λ l. HasRules c.args.patterns.now.text.now (flat_map groups_in (map placed l)) c.loop-item.compiled) (take_all c.loop-item.item-index c.args.items.now c.loop-item-test.false)
    (rules_all c.args.patterns.now.text.now _ _ c.loop-item.compiled c.new.ensures.items refl refl c.loop-item.invariant)
