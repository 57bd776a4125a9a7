use Rattle.std.proofs.Common.{map, ap, ◌∙◌}
use Rattle.dactl_arcs.specs.Naming.{swapped}
use Rattle.dactl_arcs.proofs.Moving.{swapped_back}
use Rattle.dactl_arcs.proofs.stamped.StampedLists.merge_lists.Goals as goal

pub returns-clause-arcs : goal.returns-clause-arcs
returns-clause-arcs c =
    c.swap.ensures.arcs ∙ ap (map (swapped c.args.from c.args.to)) c.move_all-2.ensures.arcs ∙ swapped_back c.args.from c.args.to _ c.requires.different
