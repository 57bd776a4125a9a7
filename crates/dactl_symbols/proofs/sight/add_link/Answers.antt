use Rattle.dactl_symbols.proofs.LinkSteps.{adds-one}
use Rattle.dactl_symbols.proofs.sight.add_link.Goals as goal

pub returns-in_ok-insert : goal.returns-in_ok-insert
returns-in_ok-insert c = adds-one c.args.links.now c.insert.new.self c.args.owner c.args.home c.in-Some.home c.in-Some.is c.in_ok-insert.ensures.updates
