use Rattle.std.proofs.Common.{◌≡◌, ◌++◌, ◌∙◌}
use Rattle.std.specs.List.{flat_map}
use Rattle.fun_syntax.specs.Faults.{declared_faults, equation_faults, expression_faults}
use Rattle.fun_syntax.specs.Least.{least}
use Rattle.fun_syntax.specs.Pieces.{pieces_of}
use Rattle.fun_syntax.specs.Roles.{roles_of}
use Rattle.fun_syntax.specs.Words.{found_in, nothing}
use Rattle.fun_syntax.proofs.Entries.{empty}
use Rattle.fun_syntax.proofs.Sooner.{both}
use Rattle.fun_syntax.proofs.faults.first_fault.Goals as goal

pub returns : goal.returns
returns c =
    let e = c.args.fun.now in
    let roles = c.in_ok-roles.ensures.roles in
    let none : found_in c.new.result ≡ nothing = empty c.new.result c.new.ensures.empty in
    let equations = flat_map (equation_faults (roles_of e)) e.equations in
    let main = expression_faults (roles_of e) nothing (pieces_of e.main) in
    c.lesser-2.ensures ∙ both (declared_faults e) (equations ++ main) c.in_ok-roles.declared c.lesser.result c.in_ok-roles.ensures.fault
    (c.lesser.ensures ∙ both equations main c.in_ok-equations.equations c.in_ok-main.main
    (c.in_ok-equations.ensures ∙ (λ j. least (flat_map (equation_faults (roles j)) (c.as_slice.ensures j))))
    (c.in_ok-main.ensures ∙ (λ j. least (expression_faults (roles j) (none j) (pieces_of e.main)))))
