-- What a module sees: its own names, and the public names of the modules that it imports.
use Rattle.std.specs.Prelude.{ℕ, Bool, true, false, ◌==◌, nat_lt, ◌&&◌, ◌||◌, if◌then◌else◌, List, [], map, Option, Some, None, option_and_then, option_map, slice_get}
use Rattle.std.specs.List.{flat_map, list_any}
use Rattle.dactl_model.specs.declared.program.Class.{Class}
use Rattle.dactl_meaning.specs.declared.tree.Name.{Name}
use Rattle.dactl_meaning.specs.declared.tree.Item.{Item}
use Rattle.dactl_meaning.specs.declared.tree.Item.TheVariants as item
use Rattle.dactl_meaning.specs.declared.tree.Text.{Text}
use Rattle.dactl_meaning.specs.Declarations.{Home, Arithmetic, Written, same_home, Entity, AsModule, AsSymbol, AsPattern, items, meaning, number_of, symbol_names}

-- ---- imports

-- an import: the number of the module that imports, and the name that it imports
pub record Import : Type 0 where
  pub owner : ℕ
  pub name : Name

-- the imports that an item of a module lists
abbrev pub item_imports : ℕ → Item → List Import
item_imports m (item.Imports names) = map (λ n. record { owner = m; name = n }) names
item_imports m _ = []

-- all imports, in text order
abbrev pub imports : Text → List Import
imports text = flat_map (λ i. item_imports i.owner i.item) (items text)

-- the home is Arithmetic, or a module before module m
abbrev pub is_earlier : Home → ℕ → Bool
is_earlier Arithmetic m = true
is_earlier (Written k) m = nat_lt k m

-- the home that a declaration gives to an import by module m: that of a module which is earlier
abbrev pub home_given : ℕ → Home → Entity → Option Home
home_given m home AsModule = if is_earlier home m then Some home else None
home_given m home (AsSymbol class public) = None
home_given m home (AsPattern public k i) = None

-- what an import gives to see: Arithmetic, or the earlier module of that name; and nothing where the name means neither
abbrev pub imported : Text → Import → Option Home
imported text i = option_and_then (λ d. home_given i.owner d.home d.entity) (meaning text i.name.text)

-- that home is given
abbrev pub is_given : Option Home → Home → Bool
is_given None home = false
is_given (Some given) home = same_home given home

-- module m imports the names of that home. Imports are not passed on
abbrev pub imports_from : Text → ℕ → Home → Bool
imports_from text m home = list_any (λ i. (i.owner == m) && is_given (imported text i) home) (imports text)

-- ---- sight

-- what a module sees under a name: a symbol, by its number and with the class that it has there; or a pattern, by the numbers of its module and of its item
pub data Seen : Type 0 where
  SeenSymbol : ℕ → Class → Seen
  SeenPattern : ℕ → ℕ → Seen

-- the class of a symbol for a module: the declared one in its own module, and the public one, if there is one, for an importer
abbrev pub class_seen : Bool → Bool → Class → Option Class → Option Class
class_seen own imported class public = if own then Some class else if imported then public else None

-- what a module sees of a declared name. `own` says that it is its own, and `imported` that it imports the name's module
abbrev pub entity_seen : Bool → Bool → ℕ → Entity → Option Seen
entity_seen own imported number AsModule = None
entity_seen own imported number (AsSymbol class public) = option_map (SeenSymbol number) (class_seen own imported class public)
entity_seen own imported number (AsPattern public m i) = if own || (imported && public) then Some (SeenPattern m i) else None

-- what module m sees under a name
abbrev pub sees : Text → ℕ → List ℕ → Option Seen
sees text m word = option_and_then (λ d. entity_seen (same_home d.home (Written m)) (imports_from text m d.home) (number_of text word) d.entity) (meaning text word)

-- the class that a declared symbol has for a module
abbrev pub entity_class : Bool → Bool → Entity → Option Class
entity_class own imported AsModule = None
entity_class own imported (AsSymbol class public) = class_seen own imported class public
entity_class own imported (AsPattern public m i) = None

-- the class that symbol s has for module m, if m sees it
abbrev pub class_for : Text → ℕ → ℕ → Option Class
class_for text m s = option_and_then (λ d. entity_class (same_home d.home (Written m)) (imports_from text m d.home) d.entity) (slice_get (symbol_names text) s)
