use Rattle.fun_laws.proofs.Valid.{runs_are_tidy}
use Rattle.fun_laws.proofs.laws.runs_are_tidy.Goals as goal

pub returns : goal.returns
returns c = runs_are_tidy
