use Rattle.std.proofs.Common.{◌<◌, ◌≤◌, sym, ◌∙◌, subst, arith}
use Rattle.dactl_workers.specs.Turns.{MayReadBelow}
use Rattle.dactl_workers.proofs.Looks.{looked, counted_all, by_test}
use Rattle.dactl_workers.proofs.worker.Worker.is_there.Goals as goal

pub returns-clause-seated : goal.returns-clause-seated
returns-clause-seated g c = let e = c.count-count.ensures in let r = c.requires.seated in record {
  own = e.own.0;
  woken = r.woken;
  known = subst (MayReadBelow c.args.store.now c.count-count.new.seat) (sym c.from-self.ensures) e.known;
  worker = r.worker ∙ sym e.own.1;
}

pub returns-clause-looked : goal.returns-clause-looked
returns-clause-looked g c = let e = c.count-count.ensures in looked c.args.store.now c.args.self.now.seat c.count-count.new.seat _ e.count e.own.0 e.own.1 e.mine

pub returns-clause-there : goal.returns-clause-there
returns-clause-there g c = let e = c.count-count.ensures in let n = c.args.node in
    by_test n.number c.count-count.result _ _ (λ lt. e.known n lt)
    (λ le there. let below = counted_all c.args.store.now c.args.self.now.seat c.count-count.new.seat c.count-count.result n e.count there in absurd (omega arith))
