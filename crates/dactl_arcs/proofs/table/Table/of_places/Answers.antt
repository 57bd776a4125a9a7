use Rattle.dactl_arcs.proofs.Tables.{IsCounting-table}
use Rattle.dactl_arcs.proofs.table.Table.of_places.Goals as goal

pub returns : goal.returns
returns c = IsCounting-table _ _ c.in_ok-with_capacity.ensures.items
