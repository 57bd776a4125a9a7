use Rattle.fun_laws.proofs.Worked.{example_has_no_value}
use Rattle.fun_laws.proofs.laws.example_has_no_value.Goals as goal

pub returns : goal.returns
returns c = example_has_no_value
