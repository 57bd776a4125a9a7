use Rattle.std.proofs.Common.{◌≡◌, [], map, take}
use Rattle.dactl_contractum.specs.Drawing.{mention_of}
use Rattle.dactl_contractum.specs.Told.{suspensions_in}
use Rattle.dactl_contractum.proofs.suspending.suspend.Given as goal

abbrev pub invariant-loop-mention : goal.invariant-loop-mention
invariant-loop-mention l = suspensions_in l.roots (map mention_of (take l.mention-index l.mentions)) ≡ []
