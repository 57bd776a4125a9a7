use Rattle.std.proofs.Common.{arith}
use Rattle.dactl_resume.proofs.Content.{content_mark, content_label, content_arguments, content_unfit}
use Rattle.dactl_resume.proofs.line.read_content.Goals as goal

pub returns-in_default : goal.returns-in_default
returns-in_default c = λ node is. c.in_default.ensures _ _ (content_mark c.args.program.now c.requires.valid c.args.count c.args.bytes.now node is)

pub returns-in_default-read_label : goal.returns-in_default-read_label
returns-in_default-read_label c = λ node is. c.in_default-read_label.ensures _ _ ((content_label c.args.program.now c.requires.valid c.args.count c.args.bytes.now _ _ node c.in-Some.ensures is).1)

pub returns-in_default-2 : goal.returns-in_default-2
returns-in_default-2 c =
    let none = rw c.in_default-2.is at c.in_ok-arcs.ensures in
    λ node is. none _ ((content_arguments c.args.program.now c.requires.valid c.args.count c.args.bytes.now _ _ _ _ node c.in-Some.ensures c.in-Some-read_label.ensures is).1)

pub returns-else-fits : goal.returns-else-fits
returns-else-fits c =
    let are = rw c.in-Some-2.is at c.in_ok-arcs.ensures in
    λ node is.
    content_unfit c.args.program.now c.requires.valid c.args.count c.args.bytes.now _ _ _ _ c.in-Some-2.arcs (omega (arith, c.ranges.count.fits)) c.in-Some.ensures c.in-Some-read_label.ensures are
    (λ both. let so = c.fits.ensures.1 both in let not = c.if-fits.false in cc) node is
