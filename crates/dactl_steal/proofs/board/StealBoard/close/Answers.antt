use Rattle.std.proofs.Common.{◌≤◌, length, sym, ◌∙◌, arith}
use Rattle.std.proofs.Math.Nat.{min-eq_left}
use Rattle.dactl_steal.specs.Boards.{deques_of}
use Rattle.dactl_steal.proofs.Ends.{all_back, balanced, left_few}
use Rattle.dactl_steal.proofs.Members.{stands}
use Rattle.dactl_steal.proofs.board.StealBoard.close.Goals as goal

pub learn_as-requires-clause-rule : goal.learn_as-requires-clause-rule
learn_as-requires-clause-rule c = stands _ _

pub all_left-requires : goal.all_left-requires
all_left-requires c = (deques_of c.args.self, all_back c.args.self c.requires.board c.learn_as.ensures.rule.1 c.requires.whole)

pub returns : goal.returns
returns c = let told = c.all_left.ensures in let b = c.args.self in let even = balanced b c.requires.board c.learn_as.ensures.rule.1 c.requires.whole told.0 told.2 in
    (told.0, sym (min-eq_left (let l = left_few b c.requires.board c.learn_as.ensures.rule.1 c.requires.whole told.0 even in let f = c.requires.few in let q : length told.0 ≤ 18446744073709551615 = omega arith in q)) ∙ told.1, even)
