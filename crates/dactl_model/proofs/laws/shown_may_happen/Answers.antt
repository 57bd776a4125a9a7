use Rattle.dactl_model.proofs.ReadingsTell as law
use Rattle.dactl_model.proofs.laws.shown_may_happen.Goals as goal

pub returns : goal.returns
returns c = law.shown_may_happen
