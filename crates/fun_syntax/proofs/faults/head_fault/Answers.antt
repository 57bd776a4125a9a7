use Rattle.fun_syntax.specs.Faults.{most_rules, head_faults}
use Rattle.fun_syntax.specs.Least.{least}
use Rattle.fun_syntax.specs.Roles.{with_functions}
use Rattle.fun_syntax.specs.Words.{found_in}
use Rattle.fun_syntax.proofs.Declared.{tail, cells, head_step, head_roles}
use Rattle.fun_syntax.proofs.faults.head_fault.Goals as goal

pub more-preserved : goal.more-preserved
more-preserved c =
    let roles = found_in c.more.roles in
    let next = found_in c.declare_function.new.roles in
    let rest = c.more.rest.now in
    let eq = c.equation-item.result in
    let parts = cells rest eq c.in-len1-up.len_at_least c.equation-item.is in
    record {
      fault = head_step roles next eq rest (tail rest) parts c.in_ok-new.ensures.roles c.more.names c.more.rules c.saturating_sub-names.result c.saturating_sub-rules.result c.in_ok-new.new c.more.told c.declaring_fault.result c.lesser-told.result (least (head_faults (found_in c.args.roles.now) c.args.room most_rules c.args.equations.now))
          c.in_ok-new.ensures.new c.saturating_sub-names.ensures c.saturating_sub-rules.ensures c.declaring_fault.ensures c.lesser-told.ensures c.more.invariant.fault;
      roles = head_roles roles next eq rest (tail rest) parts c.in_ok-new.ensures.roles (with_functions (found_in c.args.roles.now) c.args.equations.now) c.more.invariant.roles;
    }
