use Rattle.std.proofs.Common.{◌≡◌, ◌++◌, ◌||◌, map, take, is_some}
use Rattle.std.specs.List.{flat_map}
use Rattle.dactl_meaning.specs.Expansion.{is_among}
use Rattle.dactl_contractum.specs.Drawing.{mention_of}
use Rattle.dactl_names.specs.Found.{found}
use Rattle.dactl_contractum.specs.Numbers.{variable_number}
use Rattle.dactl_contractum.specs.Told as told
use Rattle.dactl_contractum.proofs.faults.mark_on_bound.Given as goal

abbrev pub invariant-loop-mention : goal.invariant-loop-mention
invariant-loop-mention l = l.faults.items ≡ l.initial.faults.items ++ flat_map (told.mark_at (λ w. is_some (variable_number l.variables w) || is_some (found l.given w)) (is_among l.variables) (is_among l.roots)) (map mention_of (take l.mention-index l.mentions))
