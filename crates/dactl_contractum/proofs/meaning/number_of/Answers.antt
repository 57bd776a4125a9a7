use Rattle.std.proofs.Common.{sym, ◌∙◌}
use Rattle.dactl_contractum.proofs.Meanings.{variable_some, variable_none}
use Rattle.dactl_contractum.proofs.meaning.number_of.Goals as goal

pub returns-in-Some : goal.returns-in-Some
returns-in-Some c = sym (variable_some c.args.variables.now c.args.name.now c.in-Some.number (sym c.in-Some.ensures)).1

pub returns-in-None : goal.returns-in-None
returns-in-None c = c.count.ensures ∙ sym (variable_none c.args.variables.now c.args.name.now (sym c.in-None.ensures)).1
