use Rattle.fun_laws.proofs.Valid.{countable}
use Rattle.fun_laws.proofs.laws.translation_is_countable.Goals as goal

pub returns : goal.returns
returns c = countable
