use Rattle.dactl_model.proofs.VersionsRise as law
use Rattle.dactl_model.proofs.laws.same_version_same_content.Goals as goal

pub returns : goal.returns
returns c = law.same_version_same_content
