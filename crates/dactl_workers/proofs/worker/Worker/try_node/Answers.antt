use Rattle.std.proofs.Common.{◌≡◌, ◌≤◌, ℕ, ap, sym, ◌∙◌, subst}
use Rattle.dactl_shared.specs.Stores.{limits_of}
use Rattle.dactl_shared.proofs.Later.{step_known}
use Rattle.dactl_probe.specs.Probing.{Probing}
use Rattle.dactl_workers.proofs.Tried.{tells}
use Rattle.dactl_workers.proofs.worker.Worker.try_node.Goals as goal

pub returns-clause-seated : goal.returns-clause-seated
returns-clause-seated g c = let r = c.requires.seated in let a = c.gather-attempt.ensures in let e = c.ask_step-answer.ensures in let attempt = c.gather-attempt.result in record {
  own = e.own.0;
  woken = subst (λ (n : ℕ). (limits_of c.args.store.now).nodes ≤ n) (sym e.room) r.woken;
  known = λ n lt. step_known c.args.store.now c.gather-attempt.new.seat c.ask_step-answer.new.seat attempt.event attempt.footprint.readings c.ask_step-answer.result c.ask_step-answer.new.woken.list n e.step (a.known n lt);
  worker = r.worker ∙ sym (e.own.1 ∙ a.looked.number);
}

pub returns-clause-tells : goal.returns-clause-tells
returns-clause-tells g c = let a = c.gather-attempt.ensures in let e = c.ask_step-answer.ensures in let attempt = c.gather-attempt.result in
    tells c.args.store.now c.args.self.now.seat c.gather-attempt.new.seat c.ask_step-answer.new.seat attempt.event attempt.footprint.readings c.ask_step-answer.new.woken.list c.args.node c.ask_step-answer.result
    (a.node ∙ ap (λ (p : Probing). p.node) c.start-probe.ensures.begun)
    (record { looked = a.looked; counts = a.counts; own = e.own.0; number = e.own.1; step = e.step; mine = e.mine; stale = e.stale; passive = e.passive; ended = e.ended; since = a.since })

pub returns-clause-passed : goal.returns-clause-passed
returns-clause-passed g c = subst (g.G.Gate.passed_before_commit c.args.gate.now) (c.number.ensures ∙ sym c.ask_step-answer.ensures.own.1) c.before_commit.ensures

pub ask_step-answer-requires-clause-passed : goal.ask_step-answer-requires-clause-passed
ask_step-answer-requires-clause-passed g c = subst (g.G.Gate.passed_before_commit c.args.gate.now) c.number.ensures c.before_commit.ensures
