use Rattle.std.proofs.Common.{◌<◌, arith}
use Rattle.dactl_queue.proofs.Accounts.{lends_one}
use Rattle.dactl_steal.proofs.sharing.other_of.Goals as goal

pub another-pass-requires : goal.another-pass-requires
another-pass-requires c = let n = c.requires.3 in lends_one _ _ (let p = n.parts in let l = c.requires.2 in omega arith) n.put n.taken
