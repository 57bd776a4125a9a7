use Rattle.dactl_symbols.specs.Declaring.{declaration_of}
use Rattle.dactl_symbols.specs.Sights.{owned_of, owned_in}
use Rattle.dactl_symbols.proofs.Walks.{picked-more}
use Rattle.dactl_symbols.proofs.sight.list_owned.Goals as goal

pub loop-declared-preserved : goal.loop-declared-preserved
loop-declared-preserved c = picked-more owned_of owned_in declaration_of c.declared-declared-items.result.now c.loop-declared.declared-index c.declared-item.result c.loop-declared.owned.items c.push_some.new.items.items c.owned_by.result c.loop-declared-test.true c.declared-item.is c.loop-declared.invariant c.in_ok-push_some.ensures c.owned_by.ensures
