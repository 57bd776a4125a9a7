use Rattle.dactl_arcs.proofs.Tables.{table_of_zeros}
use Rattle.dactl_arcs.proofs.table.Table.of_zeros.Goals as goal

pub returns : goal.returns
returns c = table_of_zeros _ _ c.in_ok-with_capacity.ensures.items
