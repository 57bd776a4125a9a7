use Rattle.dactl_resume.proofs.Texts.{text_is_kept}
use Rattle.dactl_resume.proofs.laws.text_is_kept.Goals as goal

pub returns : goal.returns
returns c = text_is_kept
