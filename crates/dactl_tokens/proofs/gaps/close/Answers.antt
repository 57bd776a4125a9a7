use Rattle.std.proofs.Common.{get_or}
use Rattle.dactl_tokens.proofs.Scanning.{passed_more, cells, tail}
use Rattle.dactl_tokens.proofs.gaps.close.Goals as goal

pub body-preserved : goal.body-preserved
body-preserved c = passed_more c.args.bytes.now c.body.rest.now (tail c.body.rest.now) (get_or c.body.rest.now 0 0) c.body.invariant (cells c.body.rest.now c.in-len1-up.len_at_least) c.if-first-eq125.false
