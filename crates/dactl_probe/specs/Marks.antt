-- A set of rules, by their numbers.
use Rattle.std.specs.Prelude.{◌≡◌, ◌≤◌, ℕ, ◌-◌, ◌/◌, ◌%◌, get_or}
use Rattle.std.specs.Int.{bit_at}
use Rattle.dactl_probe.specs.declared.marks.Marks.{Marks}

-- the number is in the set: the bit of its distance from the first number is 1, where a word has 64 bits
abbrev pub IsMarked : Marks → ℕ → Type 0
IsMarked marks rule = (marks.from ≤ rule) × (bit_at (get_or marks.words ((rule - marks.from) / 64) 0) ((rule - marks.from) % 64) ≡ 1)
