use Rattle.std.proofs.Common.{◌<◌, ◌∷◌, [], map, sym, ap, ◌∙◌, arith}
use Rattle.std.specs.List.{slice_get}
use Rattle.dactl_arcs.specs.Pool.{targets}
use Rattle.dactl_arcs.specs.Linked.{linked}
use Rattle.dactl_arcs.specs.Moves.{retargeted}
use Rattle.dactl_arcs.proofs.Steps.{none_left, sent_absorbed, sent_all}
use Rattle.dactl_arcs.proofs.stamped.StampedLists.move_only.Goals as goal

pub returns-clause-arcs : goal.returns-clause-arcs
returns-clause-arcs c =
    let old = c.args.self.now in
    let new = c.move_first.new.self in
    let inside : c.args.from < targets new = omega (arith, c.move_first.ensures.kept.targets, c.requires.from_in_range) in
    let at_front = ap (λ walk. slice_get walk 0) c.requires.only in
    let sent = sent_absorbed (linked old) c.args.from c.args.to c.args.arc c.requires.different (c.len.ensures.valid.lists.walks c.args.from c.requires.from_in_range) at_front in
    let ended = none_left _ _ c.args.arc c.requires.only c.move_first.ensures.fewer in
    sym (sent_all (linked new) c.args.from c.args.to (c.len-2.ensures.valid.lists.walks c.args.from inside) ended)
    ∙ ap (map (retargeted ((c.args.from, c.args.to) ∷ []))) c.move_first.ensures.arcs ∙ sent
