use Rattle.std.proofs.Common.{◌≡◌, length}
use Rattle.fun_syntax.specs.Reading.{constructors_at}
use Rattle.dactl_terminals.specs.Seen.{toks}
use Rattle.fun_syntax.proofs.Steps.{with_names}
use Rattle.fun_syntax.proofs.equations.constructors.Given as goal

abbrev pub invariant-more : goal.invariant-more
invariant-more l = with_names l.found (constructors_at (toks l.text l.rest)) ≡ constructors_at (toks l.text l.tokens)

abbrev pub decreases-more : goal.decreases-more
decreases-more l = length l.rest
