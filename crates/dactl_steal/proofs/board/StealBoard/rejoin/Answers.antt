use Rattle.std.proofs.Common.{ℕ, Some, set, refl, sym, ap, ◌∙◌, subst}
use Rattle.std.specs.Vec.{with_item}
use Rattle.dactl_steal.specs.Members.{Stands}
use Rattle.dactl_steal.proofs.Boards.{rejoins}
use Rattle.dactl_steal.proofs.Members.{merges, stands}
use Rattle.dactl_steal.proofs.board.StealBoard.rejoin.Goals as goal

pub absorb-requires-clause-rule : goal.absorb-requires-clause-rule
absorb-requires-clause-rule c = merges _ _ _ _

pub learn_as-requires-clause-rule : goal.learn_as-requires-clause-rule
learn_as-requires-clause-rule c = stands _ _

pub returns-clause-board : goal.returns-clause-board
returns-clause-board c = let k = c.requires.board.keeper in let a = c.absorb.ensures.queue in let l = c.learn_as.ensures.queue in let b = c.args.self.now in let h = c.args.hand in let place = c.from-place.result in
    rejoins b (record b { keeper = c.learn_as.new.pass; owns = with_item b.owns place (Some h.own); rows = with_item b.rows place h.others }) h c.requires.board c.requires.hand (refl, refl, refl)
    (l.0.0 ∙ (a.0 ∙ k.0), l.0.2 ∙ (a.2 ∙ k.1)) (l.1 ∙ c.absorb.ensures.rule) (subst Stands (sym l.1) c.learn_as.ensures.rule.1)
    (ap (λ (n : ℕ). set b.owns.items n (Some h.own)) c.from-place.ensures) (ap (λ (n : ℕ). set b.rows.items n h.others) c.from-place.ensures)
