use Rattle.dactl_resume.proofs.Exact.{has_one_graph}
use Rattle.dactl_resume.proofs.laws.has_one_graph.Goals as goal

pub returns : goal.returns
returns c = has_one_graph
