use Rattle.std.proofs.Common.{sym, ◌∙◌}
use Rattle.dactl_names.proofs.Long.{noted}
use Rattle.dactl_names.proofs.map.note_long.Goals as goal

pub returns-clause-after : goal.returns-clause-after
returns-clause-after g c =
    noted c.args.long.now c.insert.new.self c.in_ok-from_slice.field-0 c.args.value c.in_ok-insert.ensures.updates
    c.args.name.now c.in_ok-from_slice.ensures.items (sym c.contains_key.ensures ∙ c.if-contains_key.false)
