use Rattle.std.proofs.Common.{ℕ, ◌+◌, ◌-◌, ◌<◌, ◌≤◌, length}
use Rattle.dactl_base.specs.Parts.{BeginsLine, IsLineAt}
use Rattle.dactl_base.proofs.parts.split_parts.Given as goal

-- a line begins here, or the input has ended; and no line before is the marker
abbrev pub invariant-lines : goal.invariant-lines
invariant-lines l =
    (l.from ≤ length l.input + 1) × (l.from ≤ length l.input → BeginsLine l.input l.from) × ((at : ℕ) → at < l.from → IsLineAt l.input at l.marker → ⊥)

abbrev pub decreases-lines : goal.decreases-lines
decreases-lines l = length l.input + 1 - l.from
