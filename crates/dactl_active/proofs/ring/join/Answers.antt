use Rattle.dactl_active.proofs.Linking.{rejoined}
use Rattle.dactl_active.proofs.ring.join.Goals as goal

pub returns : goal.returns
returns c =
    rejoined _ _ _ c.args.before c.args.after c.requires.before_in_range c.requires.after_in_range c.set_next.ensures c.set_previous.ensures
