use Rattle.std.proofs.Common.{◌≡◌, length, ap, ◌∙◌}
use Rattle.std.specs.List.{flat_map}
use Rattle.fun_syntax.specs.Faults.{side_faults, expression_faults, with_pieces}
use Rattle.fun_syntax.specs.Least.{least}
use Rattle.fun_syntax.specs.Pieces.{pieces_of, left_pieces}
use Rattle.fun_syntax.specs.Words.{found_in, nothing}
use Rattle.fun_syntax.proofs.Entries.{empty}
use Rattle.fun_syntax.proofs.Sooner.{both}
use Rattle.fun_syntax.proofs.faults.equation_fault.Goals as goal

pub returns : goal.returns
returns c =
    let roles = found_in c.args.roles.now in
    let eq = c.args.equation.now in
    let none : found_in c.new-bound.result ≡ nothing = empty c.new-bound.result c.new-bound.ensures.empty in
    let pieces : c.as_slice-2.result.now ≡ left_pieces eq = c.as_slice-2.ensures.value ∙ c.in_ok-pieces.ensures ∙ ap (flat_map pieces_of) c.as_slice.ensures in
    c.lesser.ensures ∙ both (side_faults roles nothing eq.head (length eq.patterns) (left_pieces eq)) (expression_faults roles (with_pieces nothing (left_pieces eq)) (pieces_of eq.right)) c.in_ok-left.left c.in_ok-right.right
    (c.in_ok-left.ensures.fault ∙ (λ j. least (side_faults roles (none j) eq.head (length eq.patterns) (pieces j))))
    (c.in_ok-right.ensures ∙ ap (λ b. least (expression_faults roles b (pieces_of eq.right))) (c.in_ok-left.ensures.bound ∙ (λ j. with_pieces (none j) (pieces j))))
