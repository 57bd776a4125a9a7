use Rattle.std.proofs.Common.{◌-◌, ◌≡◌, length, ap, ◌∙◌}
use Rattle.fun_syntax.specs.Faults.{most_names, most_rules, data_faults, head_faults}
use Rattle.fun_syntax.specs.Least.{least}
use Rattle.fun_syntax.specs.Roles.{built_in, with_constructors}
use Rattle.fun_syntax.specs.Words.{found_in}
use Rattle.fun_syntax.proofs.Sooner.{both}
use Rattle.fun_syntax.proofs.faults.declare.Goals as goal

pub returns-clause-fault : goal.returns-clause-fault
returns-clause-fault c =
    let names = c.args.fun.now.constructors in
    let before : found_in c.data_fault.new.roles ≡ with_constructors built_in names = c.in_ok-data.ensures.roles ∙ (λ j. with_constructors (c.in_ok-roles.ensures j) (c.as_slice.ensures j)) in
    let room : c.saturating_sub-room.result ≡ most_names - length names = c.saturating_sub-room.ensures ∙ ap (λ n. most_names - n) c.len.ensures in
    c.lesser.ensures ∙ both (data_faults built_in most_names names) (head_faults (with_constructors built_in names) (most_names - length names) most_rules c.args.fun.now.equations) c.in_ok-data.data c.in_ok-heads.heads
    (c.in_ok-data.ensures.fault ∙ (λ j. least (data_faults (c.in_ok-roles.ensures j) most_names (c.as_slice.ensures j))))
    (c.in_ok-heads.ensures.fault ∙ (λ j. least (head_faults (before j) (room j) most_rules (c.as_slice-2.ensures j))))
