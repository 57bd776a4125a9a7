use Rattle.std.proofs.Common.{subst}
use Rattle.dactl_model.specs.declared.graph.Event.{Event}
use Rattle.dactl_model.specs.Steps.{Step}
use Rattle.dactl_verify.proofs.Outcomes.{note_reached}
use Rattle.dactl_verify.proofs.checking.after_event.Goals as goal

pub returns-in-Some : goal.returns-in-Some
returns-in-Some c =
    let next = rw c.in-Some.is at c.in_ok-after-in-Note.ensures in
    let noted = subst (λ (e : Event). Step c.args.program.now c.args.reached.graph e c.in-Some.after) c.in-Note.is next in
    (next, note_reached c.args.program.now c.args.room c.args.reached.graph c.in-Some.after c.args.reached.arcs _ c.requires.program c.requires.reached noted)
