use Rattle.std.proofs.Common.{◌∙◌, get_or}
use Rattle.std.proofs.lemmas.List.{get_or_default}
use Rattle.dactl_symbols.specs.Counting.{fault_at}
use Rattle.dactl_symbols.proofs.Sooner.{least_by-more}
use Rattle.dactl_symbols.proofs.faults.first_at.Goals as goal

pub loop-place-preserved : goal.loop-place-preserved
loop-place-preserved c = c.lesser-least.ensures ∙ least_by-more (fault_at c.args.kind) c.args.places.now c.loop-place.place-index (get_or c.args.places.now c.loop-place.place-index (record { byte = 0 })) c.loop-place.least c.loop-place-test.true (get_or_default c.args.places.now c.loop-place.place-index (record { byte = 0 }) _ c.loop-place-test.true) c.loop-place.invariant
