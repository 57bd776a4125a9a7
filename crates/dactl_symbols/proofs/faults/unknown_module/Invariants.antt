use Rattle.std.proofs.Common.{◌≡◌, take, map}
use Rattle.dactl_symbols.specs.Least.{least_by}
use Rattle.dactl_symbols.specs.Declaring.{import_of}
use Rattle.dactl_symbols.specs.Counting.{import_fault}
use Rattle.dactl_symbols.proofs.faults.unknown_module.Given as goal

abbrev pub invariant-loop-import : goal.invariant-loop-import
invariant-loop-import l = l.least ≡ least_by (import_fault l.names) (map import_of (take l.import-index l.imports))
