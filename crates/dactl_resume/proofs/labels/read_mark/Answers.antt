use Rattle.dactl_resume.proofs.Marks.{mark_front}
use Rattle.dactl_resume.proofs.labels.read_mark.Goals as goal

pub returns-in_err-mark : goal.returns-in_err-mark
returns-in_err-mark c =
    let none = c.in_err-mark.ensures in
    rw c.from_residual.ensures (λ mark rest is. none mark is.few (mark_front _ _ _ _ mark c.split_signs.ensures.joined c.split_signs.ensures.signs c.split_signs.ensures.behind is))
