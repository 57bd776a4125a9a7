use Rattle.dactl_store.proofs.Latest.{latest_next}
use Rattle.dactl_store.proofs.tests.redirect.Goals as goal

pub returns : goal.returns
returns c = latest_next c.args.version c.args.store.now c.redirect.new.self c.redirect.ensures.versions c.requires c.redirect.ensures.newest
