use Rattle.fun_laws.proofs.Valid.{values_are_meant}
use Rattle.fun_laws.proofs.laws.values_are_meant.Goals as goal

pub returns : goal.returns
returns c = values_are_meant
