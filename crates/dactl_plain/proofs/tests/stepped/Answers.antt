use Rattle.dactl_model.specs.declared.graph.Event.TheVariants.{Fire, Note}
use Rattle.dactl_model.proofs.KeptFire.{keeps_well_formed}
use Rattle.dactl_plain.proofs.tests.stepped.Goals as goal

pub returns-in_ok-after-in-Fire : goal.returns-in_ok-after-in-Fire
returns-in_ok-after-in-Fire c =
    let choice = rw c.in-Fire.is at c.in_ok-choose.ensures.fire in
    keeps_well_formed c.args.program.now c.args.graph.now _ (Fire c.args.node c.in-Fire.rule) c.requires.program c.requires.graph (choice.0, c.in_ok-after-in-Fire.ensures)

pub returns-in_ok-after-in-Note : goal.returns-in_ok-after-in-Note
returns-in_ok-after-in-Note c =
    let quiet = rw c.in-Note.is at c.in_ok-choose.ensures.fire in
    keeps_well_formed c.args.program.now c.args.graph.now _ (Note c.args.node) c.requires.program c.requires.graph (quiet, c.in_ok-after-in-Note.ensures)
