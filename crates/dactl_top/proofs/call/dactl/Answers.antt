use Rattle.dactl_top.proofs.Consequences.{answered, headline, caused, keeps_faith}
use Rattle.dactl_top.proofs.Exactness.{exact}
use Rattle.dactl_top.proofs.call.dactl.Goals as goal

pub returns-clause-headline : goal.returns-clause-headline
returns-clause-headline g c = headline _ (answered _ _ _ _ _ _ _ c.answer_words-outcome.ensures.cause c.conclude.ensures.given c.conclude.ensures.kept c.conclude.ensures.told)

pub returns-clause-exact : goal.returns-clause-exact
returns-clause-exact g c = exact _ (answered _ _ _ _ _ _ _ c.answer_words-outcome.ensures.cause c.conclude.ensures.given c.conclude.ensures.kept c.conclude.ensures.told)

pub returns-clause-keeps : goal.returns-clause-keeps
returns-clause-keeps g c = keeps_faith _ (answered _ _ _ _ _ _ _ c.answer_words-outcome.ensures.cause c.conclude.ensures.given c.conclude.ensures.kept c.conclude.ensures.told)

pub returns-clause-caused : goal.returns-clause-caused
returns-clause-caused g c = caused _ (answered _ _ _ _ _ _ _ c.answer_words-outcome.ensures.cause c.conclude.ensures.given c.conclude.ensures.kept c.conclude.ensures.told)
