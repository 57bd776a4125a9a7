-- The lines of an input, and the parts beside one of them.
use Rattle.std.specs.Prelude.{◌≡◌, ℕ, pred, ◌+◌, ◌<◌, ◌≤◌, min, ◌==◌, if◌then◌else◌, ◌⊎◌, List, [], ◌∷◌, length, drop, slice_get, Some}
use Rattle.dactl_base.specs.declared.parts.Parts.{Parts}

-- the bytes before the first LF
abbrev pub first_line : List ℕ → List ℕ
first_line [] = []
first_line (b ∷ bs) = if b == 10 then [] else b ∷ first_line bs

-- a line begins there: at the beginning of the input, or behind an LF
abbrev pub BeginsLine : List ℕ → ℕ → Type 0
BeginsLine input at = (at ≡ 0) ⊎ (slice_get input (pred at) ≡ Some 10)

-- this line begins there, and ends before an LF or at the end of the input
pub record IsLineAt (input : List ℕ) (at : ℕ) (line : List ℕ) : Type 0 where
  pub within : at ≤ length input
  pub begins : BeginsLine input at
  pub is : first_line (drop at input) ≡ line

-- the line stands nowhere
abbrev pub HasNoLine : List ℕ → List ℕ → Type 0
HasNoLine input line = (at : ℕ) → IsLineAt input at line → ⊥

-- the parts before the first line that is the marker, and behind its LF
pub record AreParts (input marker : List ℕ) (parts : Parts) : Type 0 where
  pub line : IsLineAt input parts.text_end marker
  pub first : (at : ℕ) → at < parts.text_end → IsLineAt input at marker → ⊥
  pub rest : parts.rest ≡ min (parts.text_end + length marker + 1) (length input)
