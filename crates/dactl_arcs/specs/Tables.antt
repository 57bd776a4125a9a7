-- Which numbers a table has of which only the front is stored. No public clause cites this module.
use Rattle.std.specs.Prelude.{◌≡◌, refl, ℕ, zero, suc, ◌-◌, ◌≤◌, Bool, List, [], ◌∷◌, ◌++◌, length, Option, Some, None, if◌then◌else◌}

-- the number with which a place begins: the place itself where the table counts, else 0
abbrev pub initial_at : Bool → ℕ → ℕ
initial_at counts place = if counts then place else 0

-- those of so many places, from one on
abbrev pub initials : Bool → ℕ → ℕ → List ℕ
initials counts place zero = []
initials counts place (suc more) = initial_at counts place ∷ initials counts (suc place) more

-- what is stored, and behind it what the other places began with
abbrev pub table_of : Bool → ℕ → List ℕ → List ℕ
table_of counts long stored = stored ++ initials counts (length stored) (long - length stored)

-- there is memory for the whole table
pub record IsTable (long : ℕ) (stored : List ℕ) (capacity : ℕ) : Type 0 where
  pub few : length stored ≤ long
  pub taken : long ≤ capacity

-- the link with a code, and the code of a link
abbrev pub link_of : ℕ → Option ℕ
link_of zero = None
link_of (suc arc) = Some arc

abbrev pub code_of : Option ℕ → ℕ
code_of None = zero
code_of (Some arc) = suc arc

pub code_of_link : (code : ℕ) → code_of (link_of code) ≡ code
code_of_link zero = refl
code_of_link (suc arc) = refl
