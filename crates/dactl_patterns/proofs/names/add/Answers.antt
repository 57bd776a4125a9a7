use Rattle.dactl_patterns.proofs.Distinct.{inserted_word}
use Rattle.dactl_patterns.proofs.names.add.Goals as goal

pub returns-clause-names : goal.returns-clause-names
returns-clause-names c = inserted_word c.args.names.now c.insert.new.self c.args.name c.in_ok-insert.ensures.updates

pub returns-clause-added : goal.returns-clause-added
returns-clause-added c = c.in_ok-insert.ensures.added
