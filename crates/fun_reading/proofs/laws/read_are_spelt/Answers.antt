use Rattle.fun_reading.proofs.Spelt.{read_are_spelt}
use Rattle.fun_reading.proofs.laws.read_are_spelt.Goals as goal

pub returns : goal.returns
returns c = read_are_spelt
