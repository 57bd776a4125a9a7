-- Of several faults the one that is told.
use Rattle.std.specs.Prelude.{ℕ, Bool, nat_lt, ◌==◌, ◌&&◌, ◌||◌, if◌then◌else◌, List, [], ◌∷◌, Option, Some, None}
use Rattle.dactl_base.specs.declared.refusal.Refusal.{Refusal}
use Rattle.dactl_meaning.specs.Faults.{phase, rank, NoFault, IsLeastFault}

-- by the first numbers, and where they are one by the rest
abbrev pub in_turn : ℕ → ℕ → Bool → Bool
in_turn m n rest = nat_lt m n || ((m == n) && rest)

-- the one fault comes before the other, as a test
abbrev pub precedes : Refusal → Refusal → Bool
precedes a b = in_turn (phase a.kind) (phase b.kind) (in_turn a.place.byte b.place.byte (nat_lt (rank a.kind) (rank b.kind)))

-- the first of two faults, where each may be missing
abbrev pub sooner : Option Refusal → Option Refusal → Option Refusal
sooner None b = b
sooner (Some a) None = Some a
sooner (Some a) (Some b) = if precedes b a then Some b else Some a

-- the first of the faults of a list's items, where each item has one at most
abbrev pub least_by : {X : Type 0} → (X → Option Refusal) → List X → Option Refusal
least_by fault [] = None
least_by fault (x ∷ xs) = sooner (fault x) (least_by fault xs)

-- what a search for faults answers: the least fault, or none where none holds
abbrev pub TellsLeast : (Refusal → Type 0) → Option Refusal → Type 0
TellsLeast Holds None = NoFault Holds
TellsLeast Holds (Some r) = IsLeastFault Holds r
