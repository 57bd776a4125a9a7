use Rattle.dactl_probe.proofs.Decided.{notes, fires_first, fires_beside, needs_first}
use Rattle.dactl_probe.proofs.verdict.at_symbol.Goals as goal

pub returns-in-None-clause-verdict : goal.returns-in-None-clause-verdict
returns-in-None-clause-verdict c = notes c.args.deciders.now.program c.program-program.ensures.decisions.valid _ _ _ c.requires.symbol c.in-None.ensures.open

pub returns-in-Some-Fires-clause-verdict : goal.returns-in-Some-Fires-clause-verdict
returns-in-Some-Fires-clause-verdict c =
    let opened = rw c.in-Some-Fires.field-0-is at c.in-Some-Fires.ensures.open in
    fires_first c.args.deciders.now.program c.program-program.ensures.decisions.valid _ _ _ _ c.requires.symbol opened.0 opened.1

pub returns-in-Some-clause-verdict : goal.returns-in-Some-clause-verdict
returns-in-Some-clause-verdict c =
    let first = rw (c.in-Some-Waits.is, c.in-Some-Waits.field-0-is) at c.first_open.ensures.open in
    fires_beside c.args.deciders.now.program c.program-program.ensures.decisions.valid _ _ _ _ _ _ c.requires.symbol first.0 first.1 c.in-Some.ensures.yes

pub returns-in-None-yes_behind-clause-verdict : goal.returns-in-None-yes_behind-clause-verdict
returns-in-None-yes_behind-clause-verdict c =
    let first = rw (c.in-Some-Waits.is, c.in-Some-Waits.field-0-is) at c.first_open.ensures.open in
    needs_first c.args.deciders.now.program c.program-program.ensures.decisions.valid _ _ _ _ _ c.requires.symbol first.0 first.1 c.in-None-yes_behind.ensures.yes
