use Rattle.std.proofs.Common.{◌++◌, length, true, ap, ◌∙◌}
use Rattle.fun_syntax.specs.Faults.{left_faults, use_faults, twice_faults}
use Rattle.fun_syntax.specs.Least.{least}
use Rattle.fun_syntax.specs.Words.{found_in}
use Rattle.fun_syntax.proofs.Sooner.{both}
use Rattle.fun_syntax.proofs.faults.left_side_fault.Goals as goal

pub returns-clause-fault : goal.returns-clause-fault
returns-clause-fault c =
    let roles = found_in c.args.roles.now in
    let bound = found_in c.args.bound.now in
    let eq = c.args.equation.now in
    let pieces = c.args.pieces.now in
    let own = left_faults (roles eq.head.text) eq.head (length eq.patterns) (length pieces) in
    c.lesser-2.ensures ∙ both own (use_faults roles true pieces ++ twice_faults bound pieces) c.left_fault-own.result c.lesser.result
    (c.left_fault-own.ensures ∙ (λ j. least (left_faults ((c.role_of-role.ensures ∙ ap roles c.as_slice.ensures) j) eq.head (c.len.ensures j) (length pieces))))
    (c.lesser.ensures ∙ both (use_faults roles true pieces) (twice_faults bound pieces) c.use_fault-names.result c.in_ok-twice.twice c.use_fault-names.ensures c.in_ok-twice.ensures.fault)
