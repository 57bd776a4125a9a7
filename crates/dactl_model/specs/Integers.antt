-- The integers of a program.
use Rattle.std.specs.Prelude.{◌-◌, ◌^◌, Bool, true, false, ◌&&◌, IsTrue, ℤ, pos, negsuc, int_le, int_lt, FitsSigned}
use Rattle.std.specs.Int.{w128}

-- an integer of 64 bits
abbrev pub is_word : ℤ → Bool
is_word z = int_le (negsuc (2 ^ 63 - 1)) z && int_lt z (pos (2 ^ 63))

-- an integer of a program: of 128 bits where the program is wide, and of 64 bits otherwise
abbrev pub InRange : Bool → ℤ → Type 0
InRange true z = FitsSigned w128 z
InRange false z = IsTrue (is_word z)
