use Rattle.dactl_resume.proofs.Texts.{text_comes_back}
use Rattle.dactl_resume.proofs.laws.text_comes_back.Goals as goal

pub returns : goal.returns
returns c = text_comes_back
