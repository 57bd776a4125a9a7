use Rattle.dactl_resume.proofs.SameText.{text_has_one_graph}
use Rattle.dactl_resume.proofs.laws.text_has_one_graph.Goals as goal

pub returns : goal.returns
returns c = text_has_one_graph
