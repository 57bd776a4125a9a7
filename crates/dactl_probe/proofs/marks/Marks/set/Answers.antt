use Rattle.std.proofs.Common.{arith}
use Rattle.dactl_probe.proofs.Marking.{marked_more}
use Rattle.dactl_probe.proofs.marks.Marks.set.Goals as goal

pub returns-then-place-lt4 : goal.returns-then-place-lt4
returns-then-place-lt4 c = λ other. marked_more c.args.self.now.from c.args.self.now.words c.args.rule other (omega arith) (omega arith)
