use Rattle.dactl_model.proofs.ActsCount as law
use Rattle.dactl_model.proofs.laws.counts_active.Goals as goal

pub returns : goal.returns
returns c = law.counts_active
