use Rattle.std.proofs.Common.{refl}
use Rattle.dactl_contractum.proofs.Drawings.{arcs_set}
use Rattle.dactl_contractum.proofs.drawing.Drawing.finish.Goals as goal

pub returns-clause-made : goal.returns-clause-made
returns-clause-made c = arcs_set c.args.self.now.made.items c.args.number c.index_mut.result.now _ c.requires c.index_mut.ensures.value refl
