use Rattle.std.proofs.Common.{subst}
use Rattle.dactl_workers.specs.Turns.{IsKnownWith}
use Rattle.dactl_workers.proofs.Known.{known_all}
use Rattle.dactl_workers.proofs.worker.Worker.hand_over.Goals as goal

pub returns-clause-seated : goal.returns-clause-seated
returns-clause-seated g c = let w = c.args.self.now in let r = c.requires.seated in let now = c.known_with_last-self.result in record {
  own = r.own;
  woken = r.woken;
  known = known_all c.args.store.now w.seat w.known w.woken.list now r.known c.requires.there (subst (λ nodes. IsKnownWith w.known nodes now) c.list-nodes.ensures c.known_with_last-self.ensures);
  worker = r.worker;
}
