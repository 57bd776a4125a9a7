use Rattle.std.proofs.Common.{sym, ◌∙◌}
use Rattle.dactl_model.specs.Readings.{told}
use Rattle.dactl_probe.proofs.Pairs.{pair_node_first, pair_node_none}
use Rattle.dactl_probe.proofs.Rules.{bound_pair}
use Rattle.dactl_probe.proofs.rule.bound.Goals as goal

pub returns-in-Some : goal.returns-in-Some
returns-in-Some c =
    let pairs = (told c.args.readings.now c.args.rule.now.pattern c.args.node).pairs in
    sym (bound_pair pairs c.args.rule.now.variables c.args.variable c.requires ∙ pair_node_first pairs c.args.variable c.in-Some.found (sym c.first_bound.ensures ∙ c.in-Some.is))

pub returns-in-None : goal.returns-in-None
returns-in-None c =
    let pairs = (told c.args.readings.now c.args.rule.now.pattern c.args.node).pairs in
    sym (bound_pair pairs c.args.rule.now.variables c.args.variable c.requires ∙ pair_node_none pairs c.args.variable (sym c.first_bound.ensures ∙ c.in-None.is))
