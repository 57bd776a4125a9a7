use Rattle.std.proofs.Common.{Option, sym, ap, ◌∙◌}
use Rattle.dactl_meaning.specs.Sight.{Seen}
use Rattle.dactl_patterns.specs.Table.{head_seen}
use Rattle.dactl_patterns.proofs.heads.at_name.Goals as goal

pub returns-in-Some : goal.returns-in-Some
returns-in-Some c = λ named right.
    let seen = rw c.in-Some-Pattern.field-0-is at c.in-Some-Pattern.ensures in
    (right (c.in-Some-Pattern.«module», c.in-Some-Pattern.item) c.in-Some.known.now (sym c.in-Some.ensures.value)).head ∙ ap (λ (o : Option Seen). head_seen named o) seen
