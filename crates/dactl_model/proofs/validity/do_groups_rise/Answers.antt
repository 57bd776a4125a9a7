use Rattle.std.proofs.Common.{ℕ, ◌≤◌, List, length, refl, arith}
use Rattle.std.specs.List.{AllAdjacentBelow}
use Rattle.std.proofs.lemmas.List.Sorted.{IsNonDecreasingBy-from_all_adjacent}
use Rattle.dactl_model.specs.declared.program.Rule.{Rule}
use Rattle.dactl_model.specs.Validity.{DoGroupsRise}
use Rattle.dactl_model.proofs.validity.do_groups_rise.Goals as goal

-- where each group and the next do not fall, no two do
rising : (rules : List Rule) (end : ℕ) → length rules ≤ end → AllAdjacentBelow (λ a b. a.group ≤ b.group) rules end → DoGroupsRise rules
rising rules end past adjacent i j d below within =
    IsNonDecreasingBy-from_all_adjacent (λ r. r.group) rules (λ k e inside. adjacent k e (omega arith)) i j d (omega arith) within

pub returns : goal.returns
returns c = (λ e. rising c.args.rules.now c.loop-place.place (omega arith) c.loop-place.invariant, λ rise. refl)
