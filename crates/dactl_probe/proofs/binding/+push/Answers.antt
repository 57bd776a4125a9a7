use Rattle.std.proofs.Common.{◌≤◌, rules, sym, subst}
use denote.Param.Weighed.{most, at_most}
use Rattle.dactl_model.proofs.program.Pat.TheLaws.{the_size}
use Rattle.dactl_probe.proofs.Pushing.{pushed_more, pushed_room}
use Rattle.dactl_probe.proofs.binding.+push.Goals as goal

pub push_each_bound-push_bound-requires : goal.push_each_bound-push_bound-requires
push_each_bound-push_bound-requires t c =
    let deep = subst (λ x. the_size x ≤ most the_size c.args.patterns.now) (sym c.index-patterns-place.is) (at_most the_size c.args.patterns.now c.loop-place.place c.index-patterns-place.result c.loop-place-test.true) in
    let room = pushed_room c.args.footprint.now c.loop-place.footprint _ _ _ _ _ _ c.requires c.loop-place.invariant c.loop-place-test.true c.if-place-targets.false c.index-patterns-place.is in
    (search rules, room)

pub push_each_bound-loop-place-preserved : goal.push_each_bound-loop-place-preserved
push_each_bound-loop-place-preserved t c =
    pushed_more c.args.footprint.now c.loop-place.footprint c.push_bound.new.footprint _ _ _ _ _ _ c.loop-place.invariant c.loop-place-test.true c.if-place-targets.false c.index-patterns-place.is c.push_bound.ensures
