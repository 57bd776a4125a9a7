use Rattle.std.proofs.Common.{is_some, ap, ◌∙◌}
use Rattle.dactl_contractum.proofs.ToldFaults.{variable_told}
use Rattle.dactl_contractum.proofs.variables.Variables.contains.Goals as goal

pub returns : goal.returns
returns c = c.is_some.ensures ∙ ap is_some c.number.ensures ∙ variable_told c.args.self.now c.args.name.now
