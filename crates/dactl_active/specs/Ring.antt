-- What a contract sees of a ring, and what its calls do to the numbers.
use Rattle.std.specs.Prelude.{ℕ, ◌<◌, ◌==◌, Bool, not, List, [], ◌∷◌, ◌++◌, IsTrue, nat_eq, if◌then◌else◌}
use Rattle.std.specs.List.{IsDistinct, list_any, filter}

-- the numbers, the front first, and the number below which each of them lies
pub record Ring : Type 0 where
  pub numbers : List ℕ
  pub room : ℕ

-- whether n is one of the numbers
abbrev pub has : List ℕ → ℕ → Bool
has numbers n = list_any (nat_eq n) numbers

-- n at the back, unless it is there already
abbrev pub inserted : List ℕ → ℕ → List ℕ
inserted numbers n = if has numbers n then numbers else numbers ++ n ∷ []

-- the numbers but n
abbrev pub without : List ℕ → ℕ → List ℕ
without numbers n = filter (λ m. not (m == n)) numbers

-- the front moved to the back
abbrev pub turned : List ℕ → List ℕ
turned [] = []
turned (front ∷ others) = others ++ front ∷ []

-- what holds of every ring
pub record IsValid (ring : Ring) : Type 0 where
  pub distinct : IsDistinct nat_eq ring.numbers
  pub below : (n : ℕ) → IsTrue (has ring.numbers n) → n < ring.room
