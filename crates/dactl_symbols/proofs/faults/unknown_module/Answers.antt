use Rattle.std.proofs.Common.{◌∙◌}
use Rattle.dactl_symbols.specs.Declaring.{import_of}
use Rattle.dactl_symbols.specs.Counting.{import_fault}
use Rattle.dactl_symbols.proofs.Walks.{least_mapped-more}
use Rattle.dactl_symbols.proofs.faults.unknown_module.Goals as goal

pub loop-import-preserved : goal.loop-import-preserved
loop-import-preserved c = c.lesser-least.ensures ∙ least_mapped-more (import_fault c.args.names.now) import_of c.args.imports.now c.loop-import.import-index c.import-item.result c.loop-import.least c.unknown_import.result c.loop-import-test.true c.import-item.is c.loop-import.invariant c.unknown_import.ensures
