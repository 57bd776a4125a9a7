use Rattle.std.proofs.Common.{sym, ◌∙◌}
use Rattle.dactl_tokens.specs.Found.{passes}
use Rattle.dactl_tokens.proofs.Scanning.{all_stops}
use Rattle.dactl_tokens.proofs.words.run_len.Goals as goal

pub returns-else-passes : goal.returns-else-passes
returns-else-passes c = (c.run.invariant.0, c.run.invariant.1, λ k lt le. all_stops (passes c.args.run) c.args.bytes.now c.run.n k c.run-test.true (sym c.passes.ensures ∙ c.if-passes.false) lt)
