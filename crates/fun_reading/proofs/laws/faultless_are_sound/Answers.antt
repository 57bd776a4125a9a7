use Rattle.fun_reading.proofs.Sound.{faultless_are_sound}
use Rattle.fun_reading.proofs.laws.faultless_are_sound.Goals as goal

pub returns : goal.returns
returns c = faultless_are_sound
