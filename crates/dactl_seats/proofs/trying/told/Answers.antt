use Rattle.dactl_shared.proofs.Later.{step_later, shown_later}
use Rattle.dactl_seats.proofs.trying.told.Goals as goal

pub returns-clause-shown : goal.returns-clause-shown
returns-clause-shown g c = let s = c.args.store.now in let old = c.args.seat.now in let new = c.commit-answer.new.seat in let attempt = c.args.attempt.now in
    shown_later s old new attempt.footprint.readings (step_later s old new attempt.event attempt.footprint.readings c.commit-answer.result c.commit-answer.new.woken.list c.commit-answer.ensures.step) c.requires.shown
