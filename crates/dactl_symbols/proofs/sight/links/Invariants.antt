use Rattle.std.proofs.Common.{map, take}
use Rattle.dactl_symbols.specs.Declaring.{import_of}
use Rattle.dactl_symbols.specs.Sights.{AreLinks, link_of}
use Rattle.dactl_symbols.proofs.sight.links.Given as goal

abbrev pub invariant-loop-import : goal.invariant-loop-import
invariant-loop-import l = AreLinks l.names (map import_of (take l.import-index l.imports)) (map link_of l.links.keys)
