use Rattle.fun_laws.proofs.Spelled.{spelled}
use Rattle.fun_laws.proofs.laws.translation_is_spelled.Goals as goal

pub returns : goal.returns
returns c = spelled
