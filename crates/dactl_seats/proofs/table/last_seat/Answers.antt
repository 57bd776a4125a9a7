use Rattle.std.proofs.lemmas.List.Elements.{All-pop}
use Rattle.dactl_shared.specs.Stores.{IsFresh}
use Rattle.dactl_seats.proofs.table.last_seat.Goals as goal

pub returns-clause-seat : goal.returns-clause-seat
returns-clause-seat c = (All-pop (IsFresh c.args.table.now.store) c.args.seats.now.items c.pop.new.self.items c.pop.result c.pop.ensures.items c.requires).1

pub returns-clause-others : goal.returns-clause-others
returns-clause-others c = (All-pop (IsFresh c.args.table.now.store) c.args.seats.now.items c.pop.new.self.items c.pop.result c.pop.ensures.items c.requires).0
