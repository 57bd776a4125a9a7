use Rattle.dactl_model.proofs.ReadingsTell as law
use Rattle.dactl_model.proofs.laws.readings_tell.Goals as goal

pub returns : goal.returns
returns c = law.readings_tell
