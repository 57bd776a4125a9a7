use Rattle.dactl_syntax.proofs.BackItems.{canonical_reads}
use Rattle.dactl_syntax.proofs.laws.canonical_reads.Goals as goal

pub returns : goal.returns
returns c = canonical_reads
