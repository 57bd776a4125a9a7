use Rattle.dactl_model.proofs.VersionSteps as law
use Rattle.dactl_model.proofs.laws.shown_agrees.Goals as goal

pub returns : goal.returns
returns c = law.shown_agrees
