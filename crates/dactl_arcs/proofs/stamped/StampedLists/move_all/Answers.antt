use Rattle.std.proofs.Common.{◌∷◌, [], ◌<◌, map, sym, ap, ◌∙◌, arith}
use Rattle.dactl_arcs.specs.Pool.{targets}
use Rattle.dactl_arcs.specs.Linked.{linked}
use Rattle.dactl_arcs.specs.Moves.{retargeted}
use Rattle.dactl_arcs.proofs.Steps.{sent_absorbed, sent_all}
use Rattle.dactl_arcs.proofs.stamped.StampedLists.move_all.Goals as goal

pub loop-arc-preserved : goal.loop-arc-preserved
loop-arc-preserved c =
    let kept = c.loop-arc.invariant.0 in
    let inside : c.args.from < targets c.loop-arc.self = omega (arith, kept.targets, c.requires.from_in_range) in
    let at_front = sym c.first_into.ensures.first ∙ c.in-Some.is in
    let sent = sent_absorbed (linked c.loop-arc.self) c.args.from c.args.to c.in-Some.arc c.requires.different (c.first_into.ensures.valid.lists.walks c.args.from inside) at_front in
    (record { targets = c.move_first.ensures.kept.targets ∙ kept.targets; room = c.move_first.ensures.kept.room ∙ kept.room }, ap (map (retargeted ((c.args.from, c.args.to) ∷ []))) c.move_first.ensures.arcs ∙ sent ∙ c.loop-arc.invariant.1, c.move_first.ensures.changed ∙ c.loop-arc.invariant.2, c.move_first.ensures.newest ∙ c.loop-arc.invariant.3)

pub returns-clause-arcs : goal.returns-clause-arcs
returns-clause-arcs c =
    let kept = c.loop-arc.invariant.0 in
    let inside : c.args.from < targets c.loop-arc.self = omega (arith, kept.targets, c.requires.from_in_range) in
    let ended = sym c.first_into.ensures.first ∙ c.in_default.is in
    sym (sent_all (linked c.loop-arc.self) c.args.from c.args.to (c.first_into.ensures.valid.lists.walks c.args.from inside) ended) ∙ c.loop-arc.invariant.1
