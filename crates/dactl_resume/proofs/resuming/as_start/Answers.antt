use Rattle.std.proofs.Common.{◌∙◌}
use Rattle.dactl_resume.proofs.Starts.{start_whole}
use Rattle.dactl_resume.proofs.resuming.as_start.Goals as goal

pub returns-clause-graph : goal.returns-clause-graph
returns-clause-graph c = start_whole c.args.graph c.from_vec.result c.as_slice-nodes.result.now c.loop-node.node-index (c.from_vec.ensures ∙ c.loop-node.invariant) c.loop-node-test.false c.as_slice-nodes.ensures
