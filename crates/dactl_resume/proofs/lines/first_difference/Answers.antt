use Rattle.std.proofs.Common.{◌==◌, ℕ, inl, inr, arith, eq-eqb}
use Rattle.std.proofs.lemmas.Bool.{ne_eqb}
use Rattle.std.proofs.lemmas.List.Sums.{count_by_more_yes, count_by_more_no}
use Rattle.dactl_resume.proofs.LineLists.{front_more, differs_here}
use Rattle.dactl_resume.proofs.lines.first_difference.Goals as goal
use Rattle.dactl_resume.proofs.lines.first_difference.Goals.{then-text-at-eq10, else-text-at-eq10}

pub bytes-preserved : goal.bytes-preserved
bytes-preserved c =
    let so = c.bytes.invariant in
    let test = c.agree_at.ensures.0 c.bytes-test.true in
    let more = front_more c.args.text.now c.args.other.now c.bytes.at test.0 test.1 so.same in
    elim c.if-text-at-eq10.branch [
      | then-text-at-eq10 w ↦
          let count = count_by_more_yes (λ (b : ℕ). b == 10) c.args.text.now c.bytes.at 0 test.0 (eq-eqb _ 10 w.if-text-at-eq10.true) in
          record { within = omega (arith, test.0); beside = omega (arith, more.0); same = more.1; line = omega (arith, w.line-is, count, so.line); few = omega (arith, w.line-is, so.few) }
      | else-text-at-eq10 w ↦
          let count = count_by_more_no (λ (b : ℕ). b == 10) c.args.text.now c.bytes.at 0 test.0 (ne_eqb _ 10 w.if-text-at-eq10.false) in
          record { within = omega (arith, test.0); beside = omega (arith, more.0); same = more.1; line = omega (arith, w.line-is, count, so.line); few = omega (arith, w.line-is, so.few) }
    ]

pub returns-else-text-at : goal.returns-else-text-at
returns-else-text-at c =
    let so = c.bytes.invariant in
    differs_here c.args.text.now c.args.other.now c.bytes.at c.bytes.line so.same so.line
    (λ both. let is = c.agree_at.ensures.1 both in let not = c.bytes-test.false in cc)
    (λ ended. elim c.else-text-at.either [ inl e ↦ absurd (omega (arith, e.1, ended.1)) | inr e ↦ absurd (omega (arith, e, ended.0)) ])
