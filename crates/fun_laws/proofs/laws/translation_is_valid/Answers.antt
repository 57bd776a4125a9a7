use Rattle.fun_laws.proofs.Valid.{translation_is_valid}
use Rattle.fun_laws.proofs.laws.translation_is_valid.Goals as goal

pub returns : goal.returns
returns c = translation_is_valid
