use Rattle.std.proofs.lemmas.List.Elements.{All-pop}
use Rattle.dactl_shared.specs.Stores.{IsFresh}
use Rattle.dactl_soak.proofs.alone.last_seat.Goals as goal

pub returns : goal.returns
returns c = (All-pop (IsFresh c.args.store.now) c.args.seats.items c.pop.new.self.items c.pop.result c.pop.ensures.items c.requires).1
