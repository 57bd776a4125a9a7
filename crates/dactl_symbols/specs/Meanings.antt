-- What the names of a list of declarations mean.
use Rattle.std.specs.Prelude.{◌≡◌, ℕ, ◌+◌, ◌-◌, ◌^◌, min, find, count_by, List, [], ◌∷◌, ◌++◌, Option, Some, None, is_some, option_map, if◌then◌else◌}
use Rattle.std.specs.List.{before_first, list_any}
use Rattle.std.specs.Option.{option_or}
use Rattle.std.specs.Str.{bytes_eq}
use Rattle.dactl_base.specs.declared.refusal.Refusal.{Refusal}
use Rattle.dactl_base.specs.declared.refusal.Kind.TheVariants as kinds
use Rattle.dactl_names.specs.declared.map.NameMap.{NameMap}
use Rattle.dactl_names.specs.Found.{found}
use Rattle.dactl_meaning.specs.declared.tree.Name.{Name}
use Rattle.dactl_meaning.specs.Declarations.{Home, Entity, Declaration, is_called, is_symbol}
use Rattle.dactl_symbols.specs.Least.{sooner}
use Rattle.dactl_symbols.specs.Declaring.{home_of, entity_of}
use Rattle.dactl_symbols.specs.declared.names.Meaning.{Meaning}

-- what a name's first declaration says, and the number that a symbol has there
pub record First : Type 0 where
  pub home : Home
  pub entity : Entity
  pub number : ℕ

abbrev pub meaning_of : Meaning → First
meaning_of m = record { home = home_of m.home; entity = entity_of m.entity; number = m.number }

-- how many symbols are declared, at most 2^32 - 1
abbrev pub symbol_count : List Declaration → ℕ
symbol_count ds = min (count_by (λ d. is_symbol d.entity) ds) (2 ^ 32 - 1)

-- what a name means among the declarations
abbrev pub meaning_in : List Declaration → List ℕ → Option First
meaning_in ds word = option_map (λ d. record { home = d.home; entity = d.entity; number = symbol_count (before_first (is_called word) ds) }) (find (is_called word) ds)

-- the count with one declaration more
abbrev pub count_with : ℕ → Entity → ℕ
count_with n e = if is_symbol e then min (n + 1) (2 ^ 32 - 1) else n

-- what a declaration says of its name, where so many symbols are declared before
abbrev pub first_with : Declaration → ℕ → First
first_with d n = record { home = d.home; entity = d.entity; number = n }

-- the fault at a name that is declared before
abbrev pub twice_at : Name → Refusal
twice_at name = record { kind = kinds.TwiceDeclared; place = name.place }

-- the fault at a name that means something already
abbrev pub repeats : Option First → Name → Option Refusal
repeats o name = if is_some o then Some (twice_at name) else None

-- names mean what they meant, and else the name has the new meaning
abbrev pub Adds : (List ℕ → Option First) → (List ℕ → Option First) → List ℕ → First → Type 0
Adds old new name meaning = (word : List ℕ) → new word ≡ option_or (old word) (if bytes_eq word name then Some meaning else None)

-- a declaration's fault, where its name is among the earlier ones
abbrev pub again_at : List Declaration → Declaration → Option Refusal
again_at earlier d = if list_any (is_called d.name.text) earlier then Some (twice_at d.name) else None

-- the least fault of names that are declared before, where the earlier declarations stand before the list
abbrev pub again_after : List Declaration → List Declaration → Option Refusal
again_after earlier [] = None
again_after earlier (d ∷ ds) = sooner (again_at earlier d) (again_after (earlier ++ d ∷ []) ds)

-- what a map from names finds
abbrev pub found_in : NameMap Meaning → List ℕ → Option First
found_in m word = option_map meaning_of (found m word)

-- the look-up and the fault are those of the declarations
pub record AreNames (ds : List Declaration) (found : List ℕ → Option First) (again : Option Refusal) : Type 0 where
  pub each : (word : List ℕ) → found word ≡ meaning_in ds word
  pub twice : again ≡ again_after [] ds
