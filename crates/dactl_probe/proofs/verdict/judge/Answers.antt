use Rattle.std.proofs.Common.{sym}
use Rattle.dactl_probe.proofs.Decided.{notes_atom}
use Rattle.dactl_probe.proofs.verdict.judge.Goals as goal

pub returns-in-Integer-clause-verdict : goal.returns-in-Integer-clause-verdict
returns-in-Integer-clause-verdict c = notes_atom c.args.deciders.now.program c.program-program.ensures.decisions.valid _ _ c.in-Some.reading.now (sym c.in-Some.ensures) c.in-Integer.is
