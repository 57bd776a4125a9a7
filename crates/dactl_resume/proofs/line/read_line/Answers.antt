use Rattle.dactl_resume.proofs.Content.{line_answer}
use Rattle.dactl_resume.proofs.line.read_line.Goals as goal

pub returns-in-Some : goal.returns-in-Some
returns-in-Some c = line_answer c.args.program.now c.args.count c.args.place c.args.line.now c.in-Some.bytes.now c.in-Some.ensures c.read_content.result c.read_content.ensures
