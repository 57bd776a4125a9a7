use Rattle.std.proofs.Common.{ap, ◌∙◌, false}
use Rattle.fun_syntax.specs.Faults.{use_faults, unbound_faults}
use Rattle.fun_syntax.specs.Least.{least}
use Rattle.fun_syntax.specs.Pieces.{pieces_of}
use Rattle.fun_syntax.specs.Words.{found_in}
use Rattle.fun_syntax.proofs.Sooner.{both}
use Rattle.fun_syntax.proofs.faults.expression_fault.Goals as goal

pub returns : goal.returns
returns c =
    let roles = found_in c.args.roles.now in
    let bound = found_in c.args.bound.now in
    let pieces = pieces_of c.args.tree.now in
    c.lesser.ensures ∙ both (use_faults roles false pieces) (unbound_faults bound pieces) c.use_fault-names.result c.unbound_fault-variables.result
    (c.use_fault-names.ensures ∙ ap (λ l. least (use_faults roles false l)) (c.as_slice.ensures.value ∙ c.in_ok-found.ensures))
    (c.unbound_fault-variables.ensures ∙ ap (λ l. least (unbound_faults bound l)) (c.as_slice-2.ensures.value ∙ c.in_ok-found.ensures))
