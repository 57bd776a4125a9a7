use Rattle.std.proofs.Common.{map, ap}
use Rattle.dactl_symbols.specs.Scoping.{seen_in}
use Rattle.dactl_contractum.specs.Drawing.{sketch_of, mention_of, made_in, mentioned_in}
use Rattle.dactl_names.specs.Found.{found}
use Rattle.dactl_contractum.proofs.ToldFaults.{all_told}
use Rattle.dactl_contractum.proofs.faults.contractum_faults.Goals as goal

pub returns-clause-faults : goal.returns-clause-faults
returns-clause-faults c =
    all_told (seen_in c.args.viewer.scopes.now c.args.viewer.owner) c.args.variables.now c.args.roots.now (made_in c.args.contractum.now.drawing) (map sketch_of c.as_slice-made.result.now)
    (mentioned_in c.args.contractum.now.drawing) (map mention_of c.as_slice-mentions.result.now) (found c.args.contractum.now.given)
    c.args.faults.now.items c.too_wide.new.faults.items c.unbound.new.faults.items c.named_twice.new.faults.items c.not_creatable.new.faults.items c.mark_on_bound.new.faults.items c.suspended_again.new.faults.items c.too_many_waits.new.faults.items
    (ap (map sketch_of) c.as_slice-made.ensures.value) (ap (map mention_of) c.as_slice-mentions.ensures.value) c.requires
    c.in_ok-too_wide.ensures c.in_ok-unbound.ensures c.in_ok-named_twice.ensures c.in_ok-symbols.ensures.faults c.in_ok-mark_on_bound.ensures c.in_ok-suspended_again.ensures c.in_ok-too_many_waits.ensures
