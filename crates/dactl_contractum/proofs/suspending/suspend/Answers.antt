use Rattle.std.proofs.Common.{sym, ◌∙◌}
use Rattle.dactl_contractum.specs.Drawing.{mention_of}
use Rattle.dactl_contractum.specs.Told.{is_suspension}
use Rattle.dactl_contractum.proofs.Suspensions.{asked_first}
use Rattle.dactl_contractum.proofs.suspending.suspend.Goals as goal

pub returns-then-is_suspending : goal.returns-then-is_suspending
returns-then-is_suspending c =
    c.asked.ensures
    ∙ asked_first (is_suspension c.args.roots.now) mention_of c.args.mentions.now c.loop-mention.mention-index c.mention-item.result c.loop-mention-test.true c.mention-item.is c.loop-mention.invariant
    (sym c.is_suspending.ensures ∙ c.if-is_suspending.true)
