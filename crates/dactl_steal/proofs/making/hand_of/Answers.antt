use Rattle.std.proofs.Common.{◌≡◌, ℕ, ◌<◌, List, [], drop, ap, ◌∙◌, arith}
use Rattle.dactl_steal.specs.Members.{member, having_enrolled}
use Rattle.dactl_steal.proofs.Members.{enrols}
use Rattle.dactl_steal.proofs.Starts.{next_number}
use Rattle.dactl_steal.proofs.making.hand_of.Goals as goal

pub another-badge-requires-clause-rule : goal.another-badge-requires-clause-rule
another-badge-requires-clause-rule c = enrols _ _

pub returns-clause-numbers : goal.returns-clause-numbers
returns-clause-numbers c = c.another-badge.ensures.rule.0 ∙ (ap having_enrolled c.requires.numbers
    ∙ ap (λ (l : List ℕ). member (drop 1 l) [] []) (next_number c.args.number (let f = c.ranges.number.fits in let q : c.args.number < 256 = omega arith in q)))
