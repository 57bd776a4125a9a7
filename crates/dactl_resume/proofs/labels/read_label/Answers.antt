use Rattle.dactl_resume.proofs.LabelTexts.{quoted_label, no_label}
use Rattle.dactl_resume.proofs.labels.read_label.Goals as goal
use Rattle.dactl_resume.proofs.labels.read_label.Goals.{then-not-is_character-via-then-not-is_character, then-not-is_character-via-else-not-is_character+then-not-ends_label}

pub returns-then-not-is_character : goal.returns-then-not-is_character
returns-then-not-is_character c =
    λ label rest is.
    let own = quoted_label c.args.program.now c.requires.valid c.args.bytes.now c.in-Some.rest.now rest c.in-Some.byte label c.in-Some.ensures is in
    elim c.then-not-is_character.branch [
      | then-not-is_character-via-then-not-is_character w ↦ let so = c.is_character.ensures.1 own.0 in let not = w.if-not-is_character.true in cc
      | then-not-is_character-via-else-not-is_character+then-not-ends_label w ↦ let so = w.ends_label.ensures.1 own.1 in let not = w.if-not-ends_label.true in cc
    ]

pub returns-in_err-label : goal.returns-in_err-label
returns-in_err-label c =
    let none = c.in_err-label.ensures in
    let split = c.split_word.ensures in
    rw c.from_residual.ensures (λ label rest is. no_label c.args.program.now c.requires.valid c.args.bytes.now _ _ rest label split.joined split.word split.behind c.in_default.ensures none is)
