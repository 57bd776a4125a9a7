use Rattle.fun_reading.proofs.Small.{faultless_are_small}
use Rattle.fun_reading.proofs.laws.faultless_are_small.Goals as goal

pub returns : goal.returns
returns c = faultless_are_small
