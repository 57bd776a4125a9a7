use Rattle.dactl_model.proofs.VersionsRise as law
use Rattle.dactl_model.proofs.laws.shown_stays.Goals as goal

pub returns : goal.returns
returns c = law.shown_stays
