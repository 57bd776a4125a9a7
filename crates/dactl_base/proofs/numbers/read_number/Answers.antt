use Rattle.dactl_base.proofs.NumberParts.{read, unread}
use Rattle.dactl_base.proofs.numbers.read_number.Goals as goal

pub returns-in_err-behind : goal.returns-in_err-behind
returns-in_err-behind c = rw c.from_residual.ensures (λ number rest is. c.in_err-behind.ensures _ is.text)

pub returns-in_err-number : goal.returns-in_err-number
returns-in_err-number c =
    let none = c.in_err-number.ensures in
    rw c.from_residual-in_err-number.ensures (λ number rest is. unread _ _ c.in_ok-behind.ensures c.split_digits.ensures.joined c.split_digits.ensures.digits c.split_digits.ensures.behind none is)

pub returns : goal.returns
returns c = read c.in_ok-behind.ensures c.split_digits.ensures.joined c.split_digits.ensures.behind c.in_ok-number.ensures
