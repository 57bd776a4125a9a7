use Rattle.dactl_active.proofs.Linking.{remarked}
use Rattle.dactl_active.proofs.ring.mark.Goals as goal

pub returns : goal.returns
returns c = remarked _ _ c.args.n c.args.present c.requires c.set_present.ensures
