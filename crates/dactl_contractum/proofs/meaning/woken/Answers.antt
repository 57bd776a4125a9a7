use Rattle.std.proofs.Common.{Bool, ◌&&◌, Some, None, if◌then◌else◌, ap, sym, ◌∙◌}
use Rattle.dactl_meaning.specs.Expansion.{is_among, number_in}
use Rattle.dactl_meaning.specs.Contractum.{has_star}
use Rattle.dactl_contractum.specs.Numbers.{variable_number}
use Rattle.dactl_contractum.proofs.Meanings.{wakes_is}
use Rattle.dactl_contractum.proofs.meaning.woken.Goals as goal

pub returns-in-Star : goal.returns-in-Star
returns-in-Star c =
    let variables = c.args.variables.now in
    let word = c.args.mention.name.now.text in
    c.small_number.ensures ∙ ap (variable_number variables) c.as_slice.ensures ∙ wakes_is variables word
    ∙ ap (λ (b : Bool). if b && is_among variables word then Some (number_in variables word) else None) (sym (ap has_star c.in-Star.is))
