use Rattle.std.proofs.Common.{◌≡◌, ℕ, ◌+◌, ◌≤◌, [], ◌∷◌, ◌++◌, length, ap, ◌∙◌, length-append, arith}
use Rattle.dactl_queue.specs.Accounts.{weigh}
use Rattle.dactl_steal.specs.Boards.{put_of}
use Rattle.dactl_steal.specs.declared.roll.Member.{Member}
use Rattle.dactl_steal.proofs.Deques.{weigh_snoc}
use Rattle.dactl_steal.proofs.Owns.{own_kept}
use Rattle.dactl_steal.proofs.board.StealBoardBoard.offer.Goals as goal

pub returns-clause-hand : goal.returns-clause-hand
returns-clause-hand g c = let old = c.requires.hand in let noted = c.note_put.ensures.put in let put = put_of c.args.hand.now in record {
  badge = c.note_put.ensures.roll;
  stands = ap (λ (m : Member). m.numbers) noted ∙ old.stands;
  number = old.number;
  own = own_kept _ _ _ _ old.own c.put.ensures.same c.put.ensures.room;
  others = old.others;
  few = let l = ap (λ (m : Member). length m.put) noted in let r = c.put.ensures.reserve in let f = old.few in omega (arith, length-append put (c.args.node ∷ []));
  even = λ h. let p = ap (λ (m : Member). weigh h m.put) noted in let t = ap (λ (m : Member). weigh h m.taken) noted in let o = ap (weigh h) c.put.ensures.taken in
      let i = c.in_default.ensures.put h in let e = old.even h in omega (arith, weigh_snoc h put c.args.node);
}
