use Rattle.std.proofs.Common.{sym, ◌∙◌, subst}
use Rattle.dactl_workers.specs.Turns.{MayReadBelow}
use Rattle.dactl_workers.proofs.Known.{known_more}
use Rattle.dactl_workers.proofs.Looks.{looked, below_on, active_after}
use Rattle.dactl_workers.proofs.worker.Worker.find_active.Goals as goal

pub returns-in_default-clause-seated : goal.returns-in_default-clause-seated
returns-in_default-clause-seated g c = let e = c.next_active.ensures in let r = c.requires.seated in let s = c.args.store.now in let old = c.args.self.now.seat in let new = c.next_active.new.seat in
    let l = looked s old new _ e.active e.own.0 e.own.1 e.mine in record {
      own = e.own.0;
      woken = r.woken;
      known = below_on s old new c.args.self.now.known l r.known;
      worker = r.worker ∙ sym e.own.1;
    }

pub returns-in_default-clause-looked : goal.returns-in_default-clause-looked
returns-in_default-clause-looked g c = let e = c.next_active.ensures in looked c.args.store.now c.args.self.now.seat c.next_active.new.seat _ e.active e.own.0 e.own.1 e.mine

pub returns-clause-seated : goal.returns-clause-seated
returns-clause-seated g c = let e = c.next_active.ensures in let r = c.requires.seated in let s = c.args.store.now in let old = c.args.self.now.seat in let new = c.next_active.new.seat in let n = c.in-Some.node in
    let l = looked s old new _ e.active e.own.0 e.own.1 e.mine in record {
      own = e.own.0;
      woken = r.woken;
      known = subst (MayReadBelow s new) (sym c.known_with-self.ensures) (known_more s new c.args.self.now.known n (below_on s old new c.args.self.now.known l r.known) c.in-Some.ensures.known);
      worker = r.worker ∙ sym e.own.1;
    }

pub returns-clause-looked : goal.returns-clause-looked
returns-clause-looked g c = let e = c.next_active.ensures in looked c.args.store.now c.args.self.now.seat c.next_active.new.seat _ e.active e.own.0 e.own.1 e.mine

pub returns-clause-active : goal.returns-clause-active
returns-clause-active g c = let l = c.in-Some.ensures.active in active_after c.args.store.now c.args.self.now.seat c.next_active.new.seat _ l c.in-Some.node l.tells
