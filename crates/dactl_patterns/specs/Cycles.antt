-- The named patterns of a text in their order, and which of them are faults.
use Rattle.std.specs.Prelude.{◌≡◌, ℕ, Bool, false, nat_lt, List, [], ◌∷◌, map, Option, Some, None, Any}
use Rattle.std.specs.List.{flat_map, enumerate_from}
use Rattle.dactl_base.specs.declared.refusal.Kind.TheVariants as kinds
use Rattle.dactl_base.specs.declared.refusal.Refusal.{Refusal}
use Rattle.dactl_meaning.specs.declared.tree.Item.{Item}
use Rattle.dactl_meaning.specs.declared.tree.Item.TheVariants as item
use Rattle.dactl_meaning.specs.declared.tree.Text.{Text}
use Rattle.dactl_meaning.specs.Declarations.{Placed, items}
use Rattle.dactl_meaning.specs.Meaning.{NamedPattern}
use Rattle.dactl_patterns.specs.declared.declarations.Declared.{Declared}
use Rattle.dactl_patterns.specs.Cycling.{ReachesItself}

-- the named pattern that the item of these numbers is
abbrev pub declared_at : NamedPattern → Item → List Declared
declared_at a (item.Named public name pattern) = record { pattern = a; place = name.place } ∷ []
declared_at a _ = []

abbrev pub declared : Placed → List Declared
declared i = declared_at (i.owner, i.number) i.item

-- items of a module, which are numbered from this one on
abbrev pub placed_from : ℕ → ℕ → List Item → List Placed
placed_from owner number its = map (λ i. record { owner = owner; number = i.0; item = i.1 }) (enumerate_from number its)

-- the named patterns of a text
abbrev pub all_declared : Text → List Declared
all_declared text = flat_map declared (items text)

-- the fault of a named pattern that reaches itself
abbrev pub DeclaredCycle : Text → Declared → Refusal → Type 0
DeclaredCycle text p r = (r ≡ record { kind = kinds.PatternCycle; place = p.place }) × ReachesItself text p.pattern

-- one of the named patterns has it
abbrev pub SomeCycle : Text → List Declared → Refusal → Type 0
SomeCycle text patterns r = Any (λ p. DeclaredCycle text p r) patterns

-- the place stands behind the fault, where there is one
abbrev pub stands_behind : ℕ → Option Refusal → Bool
stands_behind byte None = false
stands_behind byte (Some r) = nat_lt r.place.byte byte
