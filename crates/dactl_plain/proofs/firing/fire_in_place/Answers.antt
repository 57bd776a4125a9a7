use Rattle.std.proofs.lemmas.Result.{IfOk-weaker}
use Rattle.dactl_plain.proofs.Ready.{can_fire, is_fired}
use Rattle.dactl_plain.proofs.firing.fire_in_place.Goals as goal

pub fire_body-requires : goal.fire_body-requires
fire_body-requires c = can_fire _ _ _ _ _ _ c.requires.program c.rule.ensures c.requires.numbers c.requires.matching

pub returns : goal.returns
returns c = IfOk-weaker _ _ _ (λ after is. is_fired _ _ after _ _ _ c.args.bindings.now c.rule.ensures c.requires.matching is) c.fire_body.ensures
