use Rattle.std.proofs.Common.{take}
use Rattle.dactl_patterns.specs.Occurring.{PutsTrees, PutsLinks}
use Rattle.dactl_patterns.proofs.occurrences.+put.Given as goal

abbrev pub invariant-put_arguments-loop-argument : goal.invariant-put_arguments-loop-argument
invariant-put_arguments-loop-argument l = PutsTrees l.choice (take l.argument-index l.args) l.initial.found l.found

abbrev pub invariant-put_links-loop-link : goal.invariant-put_links-loop-link
invariant-put_links-loop-link l = PutsLinks (take l.link-index l.rest) l.initial.found l.found
