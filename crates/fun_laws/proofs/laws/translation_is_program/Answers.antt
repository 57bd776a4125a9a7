use Rattle.fun_laws.proofs.Whole.{is_program}
use Rattle.fun_laws.proofs.laws.translation_is_program.Goals as goal

pub returns : goal.returns
returns c = is_program
