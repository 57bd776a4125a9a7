-- Which of several faults of equations is told: the one at the least place, and at one place the one whose kind stands first.
use Rattle.std.specs.Prelude.{◌≡◌, ℕ, ◌+◌, ◌<◌, ◌⊎◌, ◌||◌, ◌&&◌, ◌==◌, Bool, nat_lt, if◌then◌else◌, List, [], ◌∷◌, Option, Some, None, Contains}
use Rattle.dactl_base.specs.declared.refusal.Kind.{Kind}
use Rattle.dactl_base.specs.declared.refusal.Kind.TheVariants as kinds
use Rattle.dactl_base.specs.declared.refusal.Refusal.{Refusal}
use Rattle.dactl_meaning.specs.declared.tree.Name.{Name}
use Rattle.dactl_meaning.specs.Faults.{rank as kind_rank}

-- where the kind stands in the order that decides between faults at one place; kinds that are no faults of names come behind
abbrev pub rank : Kind → ℕ
rank kinds.TwiceDeclared = 0
rank kinds.RootNotRewritable = 1
rank kinds.UnknownName = 2
rank kinds.NotAConstructor = 3
rank kinds.WrongArity = 4
rank kinds.NamedTwice = 5
rank kinds.Unbound = 6
rank kinds.TooWide = 7
rank kinds.TooMany = 8
rank other = 9 + kind_rank other

-- the one fault comes before the other
abbrev pub Precedes : Refusal → Refusal → Type 0
Precedes a b = (a.place.byte < b.place.byte) ⊎ ((a.place.byte ≡ b.place.byte) × (rank a.kind < rank b.kind))

-- the fault is one of these, and none of them comes before it
pub record IsLeast (faults : List Refusal) (r : Refusal) : Type 0 where
  pub among : Contains faults r
  pub least : (other : Refusal) → Contains faults other → ¬ Precedes other r

-- ---- faults as lists

-- a fault of the kind at a name, where it holds
abbrev pub when : Bool → Kind → Name → List Refusal
when holds kind name = if holds then record { kind = kind; place = name.place } ∷ [] else []

-- by the first numbers, and where they are one by the rest
abbrev pub in_turn : ℕ → ℕ → Bool → Bool
in_turn m n rest = nat_lt m n || ((m == n) && rest)

-- the one fault comes before the other, as a test
abbrev pub precedes : Refusal → Refusal → Bool
precedes a b = in_turn a.place.byte b.place.byte (nat_lt (rank a.kind) (rank b.kind))

-- the first of two faults, where each may be missing
abbrev pub sooner : Option Refusal → Option Refusal → Option Refusal
sooner None b = b
sooner (Some a) None = Some a
sooner (Some a) (Some b) = if precedes b a then Some b else Some a

-- the first of several faults
abbrev pub least : List Refusal → Option Refusal
least [] = None
least (r ∷ rs) = sooner (Some r) (least rs)
