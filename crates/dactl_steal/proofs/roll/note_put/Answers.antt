use Rattle.std.proofs.Common.{refl}
use Rattle.dactl_steal.proofs.Members.{notes}
use Rattle.dactl_steal.proofs.roll.note_put.Goals as goal

pub another-requires-clause-rule : goal.another-requires-clause-rule
another-requires-clause-rule g c = notes _ _ _ refl
