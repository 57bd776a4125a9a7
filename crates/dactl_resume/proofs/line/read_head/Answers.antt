use Rattle.std.proofs.Common.{refl}
use Rattle.dactl_base.proofs.NumberParts.{number_behind}
use Rattle.dactl_resume.proofs.line.read_head.Goals as goal

pub returns-then-number-place : goal.returns-then-number-place
returns-then-number-place c = λ rest is. c.if-number-place.true ((number_behind c.in_ok-number.ensures (record { text = is; word = c.requires; ends = refl })).0)

pub returns-in_err-rest : goal.returns-in_err-rest
returns-in_err-rest c =
    let none = c.in_err-rest.ensures in
    rw c.from_residual-in_err-rest.ensures (λ rest is. none rest ((number_behind c.in_ok-number.ensures (record { text = is; word = c.requires; ends = refl })).1))
