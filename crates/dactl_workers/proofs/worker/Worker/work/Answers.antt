use Rattle.std.proofs.Common.{◌≡◌, ap, sym, ◌∙◌, arith}
use Rattle.dactl_workers.specs.declared.report.WorkerReport.{WorkerReport}
use Rattle.dactl_workers.proofs.Gone.{gone_same, gone_on}
use Rattle.dactl_workers.proofs.worker.Worker.work.Goals as goal

pub loop-init : goal.loop-init
loop-init g c = let r = c.requires.ready in let w = c.args.self.now in let zero = r.known in
    let refused : w.report.refused ≡ 0 = ap (λ (z : WorkerReport). z.refused) r.report in let offered : w.report.offered ≡ 0 = ap (λ (z : WorkerReport). z.offered) r.report in let commits : w.report.commits ≡ 0 = ap (λ (z : WorkerReport). z.commits) r.report in record {
      footprint = r.footprint;
      seated = record { own = r.own; woken = r.woken; known = λ n lt. absurd (omega arith); worker = ap (λ (z : WorkerReport). z.worker) r.report };
      counted = record { hand = r.hand; is_back = r.is_back ∙ sym refused; less = omega arith; few = omega arith; some_mine = omega arith };
      gone = gone_same g.B.Board.put g.B.Board.taken g.B.Board.back c.args.store.now w;
    }

pub loop-preserved : goal.loop-preserved
loop-preserved g c = let i = c.loop.invariant in let t = c.turn.ensures in record {
  footprint = t.footprint;
  seated = t.seated;
  counted = t.counted;
  gone = gone_on g.B.Board.put g.B.Board.taken g.B.Board.back c.args.store.now c.args.self.now c.loop.self c.turn.new.self i.gone t.gone;
}

pub returns-then-turn : goal.returns-then-turn
returns-then-turn g c = let i = c.loop.invariant in let t = c.turn.ensures in
    let gone = gone_on g.B.Board.put g.B.Board.taken g.B.Board.back c.args.store.now c.args.self.now c.loop.self c.turn.new.self i.gone t.gone in record {
      own = t.seated.own;
      number = gone.number;
      hand = t.counted.hand;
      done = gone.done;
      end = t.end c.if-turn.true;
      worker = t.seated.worker;
      stale = c.stale-self.ensures;
      passive = c.passive-self.ensures;
    }
