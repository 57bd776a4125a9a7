use Rattle.std.proofs.Common.{sym, ◌∙◌}
use Rattle.dactl_arcs.specs.Linked.{linked}
use Rattle.dactl_arcs.proofs.Steps.{sent_all}
use Rattle.dactl_arcs.proofs.stamped.StampedLists.merge.Goals as goal

pub returns-in_default-clause-arcs : goal.returns-in_default-clause-arcs
returns-in_default-clause-arcs c =
    let walk = c.first_into.ensures.valid.lists.walks c.args.from c.requires.from_in_range in
    sym (sent_all (linked c.args.self.now) c.args.from c.args.to walk (sym c.first_into.ensures.first ∙ c.in_default.is))
