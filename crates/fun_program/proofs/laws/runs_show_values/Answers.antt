use Rattle.fun_program.proofs.Values.{runs_show_values}
use Rattle.fun_program.proofs.laws.runs_show_values.Goals as goal

pub returns : goal.returns
returns c = runs_show_values
