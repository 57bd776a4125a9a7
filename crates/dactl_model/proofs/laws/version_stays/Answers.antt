use Rattle.dactl_model.proofs.VersionSteps as law
use Rattle.dactl_model.proofs.laws.version_stays.Goals as goal

pub returns : goal.returns
returns c = law.version_stays
