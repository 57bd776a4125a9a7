use Rattle.std.proofs.Common.{sym, ◌∙◌}
use Rattle.dactl_resume.proofs.LineLists.{not_empty, some_text}
use Rattle.dactl_resume.proofs.reading.read_graph.Goals as goal

pub compare-requires-clause-some : goal.compare-requires-clause-some
compare-requires-clause-some c = some_text c.args.text.now (not_empty c.args.text.now (sym c.is_empty.ensures ∙ c.if-is_empty.false))
