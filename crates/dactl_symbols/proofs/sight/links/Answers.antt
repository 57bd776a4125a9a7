use Rattle.std.proofs.Common.{sym, subst, map, take}
use Rattle.dactl_symbols.specs.Declaring.{import_of}
use Rattle.dactl_symbols.specs.Sights.{AreLinks, AddsLink, link_of}
use Rattle.dactl_symbols.proofs.LinkSteps.{links-more}
use Rattle.dactl_symbols.proofs.Walks.{mapped-more}
use Rattle.dactl_symbols.proofs.sight.links.Goals as goal

pub loop-import-preserved : goal.loop-import-preserved
loop-import-preserved c =
    let more = sym (mapped-more import_of c.args.imports.now c.loop-import.import-index c.import-item.result c.loop-import-test.true c.import-item.is) in
    let adds = subst (AddsLink (map link_of c.loop-import.links.keys) (map link_of c.add_link.new.links.keys) c.import-item.result.owner) c.imported.ensures c.in_ok-add_link.ensures in
    subst (λ l. AreLinks c.args.names.now l (map link_of c.add_link.new.links.keys)) more
    (links-more c.args.names.now (map import_of (take c.loop-import.import-index c.args.imports.now)) (import_of c.import-item.result) (map link_of c.loop-import.links.keys) (map link_of c.add_link.new.links.keys) c.loop-import.invariant adds)
