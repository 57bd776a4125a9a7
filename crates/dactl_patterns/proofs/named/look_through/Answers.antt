use Rattle.std.proofs.Common.{None}
use Rattle.dactl_patterns.proofs.named.look_through.Goals as goal

pub returns : goal.returns
returns c = λ named right. record { head = c.in_ok-head.ensures named None right; small = c.in_ok-small.ensures.is named right }

pub expand-requires-clause-ready : goal.expand-requires-clause-ready
expand-requires-clause-ready c = record { scopes = c.requires; few = tt }
