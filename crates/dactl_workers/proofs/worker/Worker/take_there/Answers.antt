use Rattle.std.proofs.Common.{◌≡◌, ap, sym, ◌∙◌, subst}
use Rattle.dactl_workers.specs.declared.report.WorkerReport.{WorkerReport}
use Rattle.dactl_workers.specs.declared.worker.Worker.{Worker}
use Rattle.dactl_workers.specs.Turns.{IsSeated, HasGone}
use Rattle.dactl_workers.proofs.Gone.{gone_on, taken_gone, untaken_gone, looked_gone, taking}
use Rattle.dactl_workers.proofs.worker.Worker.take_there.Goals as goal

pub returns-in_default-clause-gone : goal.returns-in_default-clause-gone
returns-in_default-clause-gone g c = let w = c.args.self.now in let new = c.take.new.self in let t = c.take.ensures in let s = c.args.store.now in
    let is : new ≡ record w { hand = new.hand } = t.same ∙ ap (λ (r : WorkerReport). let z : Worker g.row.H.Denot = record w { hand = new.hand; report = r } in z) c.in_default.ensures.report in
    subst (HasGone g.B.Board.put g.B.Board.taken g.B.Board.back s w) (sym is) (untaken_gone g.B.Board.put g.B.Board.taken g.B.Board.back s w new.hand t.put t.back c.in_default.ensures.none)

pub is_there-requires : goal.is_there-requires
is_there-requires g c = let w = c.args.self.now in let new = c.take.new.self in let t = c.take.ensures in let r = c.requires.seated in
    let is : new ≡ taking w new.hand = t.same ∙ ap (λ (r : WorkerReport). let z : Worker g.row.H.Denot = record w { hand = new.hand; report = r } in z) c.in-Some.ensures.report in
    record { seated = subst (IsSeated c.args.store.now) (sym is) (record { own = r.own; woken = r.woken; known = r.known; worker = r.worker }) }

pub returns-then-is_there-clause-gone : goal.returns-then-is_there-clause-gone
returns-then-is_there-clause-gone g c = let w = c.args.self.now in let a = c.take.new.self in let b = c.is_there.new.self in let t = c.take.ensures in let e = c.is_there.ensures in let s = c.args.store.now in
    let is : a ≡ taking w a.hand = t.same ∙ ap (λ (r : WorkerReport). let z : Worker g.row.H.Denot = record w { hand = a.hand; report = r } in z) c.in-Some.ensures.report in
    gone_on g.B.Board.put g.B.Board.taken g.B.Board.back s w a b
    (subst (HasGone g.B.Board.put g.B.Board.taken g.B.Board.back s w) (sym is) (taken_gone g.B.Board.put g.B.Board.taken g.B.Board.back s w a.hand c.in-Some.node t.put t.back c.in-Some.ensures.none))
    (subst (HasGone g.B.Board.put g.B.Board.taken g.B.Board.back s a) (sym e.same) (looked_gone g.B.Board.put g.B.Board.taken g.B.Board.back s a b.seat a.footprint a.woken b.known e.looked e.counts))

pub returns-else-is_there-clause-gone : goal.returns-else-is_there-clause-gone
returns-else-is_there-clause-gone g c = let w = c.args.self.now in let a = c.take.new.self in let b = c.is_there.new.self in let t = c.take.ensures in let e = c.is_there.ensures in let s = c.args.store.now in
    let is : a ≡ taking w a.hand = t.same ∙ ap (λ (r : WorkerReport). let z : Worker g.row.H.Denot = record w { hand = a.hand; report = r } in z) c.in-Some.ensures.report in
    gone_on g.B.Board.put g.B.Board.taken g.B.Board.back s w a b
    (subst (HasGone g.B.Board.put g.B.Board.taken g.B.Board.back s w) (sym is) (taken_gone g.B.Board.put g.B.Board.taken g.B.Board.back s w a.hand c.in-Some.node t.put t.back c.in-Some.ensures.none))
    (subst (HasGone g.B.Board.put g.B.Board.taken g.B.Board.back s a) (sym e.same) (looked_gone g.B.Board.put g.B.Board.taken g.B.Board.back s a b.seat a.footprint a.woken b.known e.looked e.counts))
