use Rattle.std.proofs.Common.{sym, ap, ◌∙◌, arith}
use Rattle.dactl_active.specs.Ring.{inserted}
use Rattle.dactl_active.proofs.Numbers.{has-at_front, turns}
use Rattle.dactl_active.proofs.ring.Ring.advance.Goals as goal

pub remove-requires : goal.remove-requires
remove-requires c =
    c.first.ensures.valid.below c.in-Some.front (has-at_front c.args.self.now.numbers c.in-Some.front (sym c.first.ensures.first ∙ c.in-Some.is))

pub insert-requires : goal.insert-requires
insert-requires c =
    let below = c.first.ensures.valid.below c.in-Some.front (has-at_front c.args.self.now.numbers c.in-Some.front (sym c.first.ensures.first ∙ c.in-Some.is)) in
    omega (arith, c.remove.ensures.room)

pub returns-in-Some-clause-numbers : goal.returns-in-Some-clause-numbers
returns-in-Some-clause-numbers c =
    c.insert.ensures.numbers
    ∙ ap (λ xs. inserted xs c.in-Some.front) c.remove.ensures.numbers
    ∙ turns c.args.self.now.numbers c.in-Some.front (sym c.first.ensures.first ∙ c.in-Some.is) c.first.ensures.valid.distinct
