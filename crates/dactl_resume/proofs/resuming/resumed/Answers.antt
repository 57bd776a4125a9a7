use Rattle.dactl_resume.proofs.Starts.{is_resumed}
use Rattle.dactl_resume.proofs.resuming.resumed.Goals as goal

pub returns-in-Ok-as_start-clause-resumed : goal.returns-in-Ok-as_start-clause-resumed
returns-in-Ok-as_start-clause-resumed c = is_resumed c.args.program c.args.text.now c.in-Ok.graph c.in-Ok-as_start.start c.requires.valid c.requires.few c.in-Ok.ensures.read c.in-Ok-as_start.ensures.start
