use Rattle.std.proofs.Common.{◌≡◌, ℕ, ◌+◌, ◌<◌, ◌≤◌, List, length, drop, sym, ◌∙◌, ap, arith}
use Rattle.dactl_base.specs.Parts.{first_line, BeginsLine, IsLineAt}
use Rattle.dactl_base.proofs.Lines.{ends_within, next_begins, none_yet}
use Rattle.dactl_base.proofs.parts.split_parts.Goals as goal

-- the same, said of the line that was read
go_on : (input line marker : List ℕ) (from : ℕ) → line ≡ first_line (drop from input) → from ≤ length input → (line ≡ marker → ⊥) → ((at : ℕ) → at < from → IsLineAt input at marker → ⊥)
    → (from + length line + 1 ≤ length input + 1) × (from + length line + 1 ≤ length input → BeginsLine input (from + length line + 1))
    × ((at : ℕ) → at < from + length line + 1 → IsLineAt input at marker → ⊥)
go_on input line marker from is within differs before =
    let ends = ends_within input from within in
    rw is (omega arith, next_begins input from, none_yet input marker from before (λ same. differs (is ∙ same)))

pub lines-preserved : goal.lines-preserved
lines-preserved c =
    go_on c.args.input.now _ c.args.marker.now c.lines.from (c.first_line-line.ensures ∙ ap first_line c.split_at.ensures.back) c.lines-test.true
    (λ same. let so = c.is_same.ensures.1 same in let clash = sym so ∙ c.if-is_same.false in cc) c.lines.invariant.2
