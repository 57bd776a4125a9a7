use Rattle.fun_reading.proofs.Light.{read_are_light}
use Rattle.fun_reading.proofs.laws.read_are_light.Goals as goal

pub returns : goal.returns
returns c = read_are_light
