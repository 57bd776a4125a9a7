use Rattle.std.proofs.Common.{◌||◌, is_some}
use Rattle.dactl_meaning.specs.Expansion.{is_among}
use Rattle.dactl_names.specs.Found.{found}
use Rattle.dactl_contractum.specs.Drawing.{mention_of}
use Rattle.dactl_contractum.specs.Numbers.{variable_number}
use Rattle.dactl_contractum.specs.Told as told
use Rattle.dactl_contractum.proofs.LeftSides.{flat_step}
use Rattle.dactl_contractum.proofs.faults.mark_on_bound.Goals as goal

pub loop-mention-preserved : goal.loop-mention-preserved
loop-mention-preserved c =
    flat_step (told.mark_at (λ w. is_some (variable_number c.args.variables.now w) || is_some (found c.args.given.now w)) (is_among c.args.variables.now) (is_among c.args.roots.now)) mention_of
    c.args.mentions.now c.loop-mention.mention-index c.mention-item.result c.args.faults.now.items c.loop-mention.faults.items c.mention_fault.new.faults.items
    c.loop-mention-test.true c.mention-item.is c.loop-mention.invariant c.in_ok-mention_fault.ensures
