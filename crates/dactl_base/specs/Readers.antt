-- What readers find at the front of bytes.
use Rattle.std.specs.Prelude.{◌≡◌, ℕ, ◌<◌, ◌^◌, Bool, false, List, [], ◌∷◌, ◌++◌}
use Rattle.std.specs.Char.{is_ascii_digit}
use Rattle.std.specs.Fmt.{decimal}
use Rattle.std.specs.Io.BufRead.{take_through}

-- the next line: up to and with the first LF, or all that is left
abbrev pub next_line : List ℕ → List ℕ
next_line rest = take_through 10 rest

-- no byte that passes the test stands first
abbrev pub Stops : (ℕ → Bool) → List ℕ → Type 0
Stops test [] = Unit {0}
Stops test (b ∷ bs) = test b ≡ false

-- behind the prefix the bytes have this number, of 32 bits, and the rest follows it
pub record BeginsWith (prefix bytes : List ℕ) (number : ℕ) (rest : List ℕ) : Type 0 where
  pub text : bytes ≡ prefix ++ (decimal number ++ rest)
  pub word : number < 2 ^ 32
  pub ends : Stops is_ascii_digit rest
