use Rattle.fun_syntax.specs.Faults.{most_names, data_faults}
use Rattle.fun_syntax.specs.Least.{least}
use Rattle.fun_syntax.specs.Roles.{with_constructors}
use Rattle.fun_syntax.specs.Words.{found_in}
use Rattle.fun_syntax.proofs.Declared.{tail, cells, data_step, data_roles}
use Rattle.fun_syntax.proofs.faults.data_fault.Goals as goal

pub more-preserved : goal.more-preserved
more-preserved c =
    let roles = found_in c.more.roles in
    let next = found_in c.declare_constructor.new.roles in
    let rest = c.more.rest.now in
    let name = c.name-item.result in
    let parts = cells rest name c.in-len1-up.len_at_least c.name-item.is in
    record {
      fault = data_step roles next c.more.room c.saturating_sub-room.result name rest (tail rest) parts c.in_ok-fault.ensures.roles c.more.told c.in_ok-fault.fault c.lesser-told.result (least (data_faults (found_in c.args.roles.now) most_names c.args.names.now))
          c.saturating_sub-room.ensures c.in_ok-fault.ensures.fault c.lesser-told.ensures c.more.invariant.fault;
      roles = data_roles roles next c.more.room c.saturating_sub-room.result name rest (tail rest) parts c.in_ok-fault.ensures.roles (with_constructors (found_in c.args.roles.now) c.args.names.now) c.more.invariant.roles;
    }
