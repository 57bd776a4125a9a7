use Rattle.fun_laws.proofs.NoFaults.{translation_has_no_fault}
use Rattle.fun_laws.proofs.laws.translation_has_no_fault.Goals as goal

pub returns : goal.returns
returns c = translation_has_no_fault
