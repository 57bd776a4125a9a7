use Rattle.dactl_model.proofs.VersionSteps as law
use Rattle.dactl_model.proofs.laws.versions_begin.Goals as goal

pub returns : goal.returns
returns c = law.versions_begin
