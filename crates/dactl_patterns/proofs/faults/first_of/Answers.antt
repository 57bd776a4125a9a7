use Rattle.std.proofs.Common.{Some, ◌∙◌}
use Rattle.std.proofs.lemmas.List.{get_or_default}
use Rattle.dactl_symbols.proofs.Sooner.{least_by-more}
use Rattle.dactl_patterns.proofs.faults.first_of.Goals as goal

pub loop-fault-preserved : goal.loop-fault-preserved
loop-fault-preserved c =
    let l = c.loop-fault in
    c.lesser-first.ensures ∙ least_by-more Some c.args.faults.now l.fault-index _ l.first c.loop-fault-test.true (get_or_default c.args.faults.now l.fault-index _ _ c.loop-fault-test.true) l.invariant
