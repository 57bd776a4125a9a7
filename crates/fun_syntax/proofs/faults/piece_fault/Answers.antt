use Rattle.std.proofs.Common.{sym, ap, ◌∙◌}
use Rattle.fun_syntax.specs.Faults.{name_faults, piece_faults}
use Rattle.fun_syntax.specs.Least.{least}
use Rattle.fun_syntax.specs.Words.{found_in}
use Rattle.fun_syntax.proofs.faults.piece_fault.Goals as goal

pub returns-in-Made : goal.returns-in-Made
returns-in-Made c =
    c.name_fault.ensures ∙ ap (λ r. least (name_faults r c.args.in_pattern c.in-Made.name c.in-Made.count)) (c.role_of-role.ensures ∙ ap (found_in c.args.roles.now) c.as_slice.ensures)
    ∙ sym (ap (λ p. least (piece_faults (found_in c.args.roles.now) c.args.in_pattern p)) c.in-Made.is)
