use Rattle.dactl_active.proofs.Round.{none_stored}
use Rattle.dactl_active.proofs.places.Places.with_room.Goals as goal

pub returns : goal.returns
returns c = none_stored _ _ _ c.in_ok-with_capacity.ensures.items
