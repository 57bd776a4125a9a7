use Rattle.std.proofs.Common.{sym, subst}
use Rattle.dactl_resume.specs.Found.{IsPlace}
use Rattle.dactl_resume.specs.Parts.{names_of}
use Rattle.dactl_resume.proofs.LabelTexts.{integer_word, named_word}
use Rattle.dactl_resume.proofs.labels.word_label.Goals as goal

pub returns-in-Some : goal.returns-in-Some
returns-in-Some c = named_word c.args.program.now c.args.word.now c.in-Some.symbol (subst (IsPlace (names_of c.args.program.now) c.args.word.now) (sym c.in-Some.ensures) (c.requires c.args.word.now))

pub returns-in-None : goal.returns-in-None
returns-in-None c = integer_word c.args.program.now c.args.word.now c.integer_label.result (subst (IsPlace (names_of c.args.program.now) c.args.word.now) (sym c.in-None.ensures) (c.requires c.args.word.now)) c.integer_label.ensures
