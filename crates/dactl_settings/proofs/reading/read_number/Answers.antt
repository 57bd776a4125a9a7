use Rattle.std.proofs.Common.{◌∙◌, sym}
use Rattle.dactl_settings.proofs.Numbers.{unread}
use Rattle.dactl_settings.proofs.reading.read_number.Goals as goal

pub returns-in_err-number : goal.returns-in_err-number
returns-in_err-number c =
    let digits = sym c.is_digits.ensures ∙ c.if-not-is_digits.false in
    rw c.from_residual.ensures (unread _ c.args.greatest c.args.text.now c.parse.result c.parse.ensures.value.0 digits (sym c.in_err-number.ensures.variant) c.ranges.greatest.fits)
