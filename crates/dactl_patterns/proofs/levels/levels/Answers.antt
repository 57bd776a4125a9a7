use Rattle.dactl_patterns.specs.Levels.{level_in}
use Rattle.dactl_patterns.proofs.Descending.{descending}
use Rattle.dactl_patterns.proofs.levels.levels.Goals as goal

pub returns-then-branch : goal.returns-then-branch
returns-then-branch c = descending c.args.web.now.text.now (level_in c.in_ok-levels.levels) c.args.patterns.now c.requires (c.in_ok-descend.ensures c.if-branch.true)
