use Rattle.dactl_state.proofs.Shown.{shown_kept}
use Rattle.dactl_state.proofs.tests.notes.Goals as goal

pub returns-clause-shown : goal.returns-clause-shown
returns-clause-shown c = let a = c.in_ok-attempt.attempt in shown_kept c.args.state.now c.commit.new.self a.event a.footprint.readings 3 c.commit.new.woken.list c.commit.result c.commit.ensures.commits
