use Rattle.std.proofs.lemmas.List.Elements.{All-pop}
use Rattle.dactl_shared.specs.Stores.{IsFresh}
use Rattle.dactl_shared.proofs.tests.taken.Goals as goal

pub returns-clause-seat : goal.returns-clause-seat
returns-clause-seat c = (All-pop (IsFresh c.args.store.now) c.args.seats.now.items c.pop.new.self.items c.pop.result c.pop.ensures.items c.requires).1

pub returns-clause-left : goal.returns-clause-left
returns-clause-left c = (All-pop (IsFresh c.args.store.now) c.args.seats.now.items c.pop.new.self.items c.pop.result c.pop.ensures.items c.requires).0
