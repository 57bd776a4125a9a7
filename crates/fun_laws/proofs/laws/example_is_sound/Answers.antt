use Rattle.fun_laws.proofs.Worked.{example_is_sound}
use Rattle.fun_laws.proofs.laws.example_is_sound.Goals as goal

pub returns : goal.returns
returns c = example_is_sound
