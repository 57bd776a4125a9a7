use Rattle.dactl_model.proofs.VersionsRise as law
use Rattle.dactl_model.proofs.laws.versions_rise.Goals as goal

pub returns : goal.returns
returns c = law.versions_rise
