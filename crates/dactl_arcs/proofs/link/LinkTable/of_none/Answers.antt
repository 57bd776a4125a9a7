use Rattle.std.proofs.Common.{map, ap, ◌∙◌}
use Rattle.dactl_arcs.specs.Tables.{link_of}
use Rattle.dactl_arcs.proofs.Tables.{no_links}
use Rattle.dactl_arcs.proofs.link.LinkTable.of_none.Goals as goal

pub returns : goal.returns
returns c = ap (map link_of) c.in_ok-of_zeros.ensures ∙ no_links c.args.length
