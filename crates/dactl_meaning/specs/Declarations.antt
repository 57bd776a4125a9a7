-- The names that a text declares, and what it declares them as.
use Rattle.std.specs.Prelude.{ℕ, Bool, true, false, ◌==◌, List, [], ◌∷◌, ◌++◌, map, filter, find, count_by, codes, Option, Some, None, option_and_then, option_map, slice_get}
use Rattle.std.specs.List.{before_first, enumerate_from, filter_map, flat_map}
use Rattle.std.specs.Str.{bytes_eq}
use Rattle.dactl_model.specs.declared.program.Class.{Class}
use Rattle.dactl_model.specs.declared.program.Class.TheVariants as classes
use Rattle.dactl_model.specs.declared.program.Symbol.{Symbol}
use Rattle.dactl_meaning.specs.declared.tree.Name.{Name}
use Rattle.dactl_meaning.specs.declared.tree.PatternTree.{PatternTree}
use Rattle.dactl_meaning.specs.declared.tree.RuleTree.{RuleTree}
use Rattle.dactl_meaning.specs.declared.tree.Group.{Group}
use Rattle.dactl_meaning.specs.declared.tree.Item.{Item}
use Rattle.dactl_meaning.specs.declared.tree.Item.TheVariants as item
use Rattle.dactl_meaning.specs.declared.tree.Module.{Module}
use Rattle.dactl_meaning.specs.declared.tree.Text.{Text}

-- ---- the items of a text

-- an item: the number of its module, and its own number in that module
pub record Placed : Type 0 where
  pub owner : ℕ
  pub number : ℕ
  pub item : Item

-- the items of a module of a number
abbrev pub items_of : ℕ × Module → List Placed
items_of m = map (λ i. record { owner = m.0; number = i.0; item = i.1 }) (enumerate_from 0 m.1.items)

-- all items, in text order
abbrev pub items : Text → List Placed
items text = flat_map items_of (enumerate_from 0 text.modules)

-- the pattern that an item names
abbrev pub item_pattern : Item → Option PatternTree
item_pattern (item.Named public name pattern) = Some pattern
item_pattern _ = None

-- the pattern that item i of module m names, if it names one
abbrev pub named_pattern : Text → ℕ → ℕ → Option PatternTree
named_pattern text m i = option_and_then item_pattern (option_and_then (λ found. slice_get found.items i) (slice_get text.modules m))

-- a group of rules, and the number of its module
pub record PlacedGroup : Type 0 where
  pub owner : ℕ
  pub group : Group

-- a rule, and the number of its module
pub record PlacedRule : Type 0 where
  pub owner : ℕ
  pub rule : RuleTree

-- the groups that an item of a module holds
abbrev pub item_groups : ℕ → Item → List PlacedGroup
item_groups m (item.Rules groups) = map (λ g. record { owner = m; group = g }) groups
item_groups m _ = []

-- all groups of rules, in text order
abbrev pub groups : Text → List PlacedGroup
groups text = flat_map (λ i. item_groups i.owner i.item) (items text)

-- all written rules, in text order
abbrev pub rules : Text → List PlacedRule
rules text = flat_map (λ g. map (λ r. record { owner = g.owner; rule = r }) g.group.rules) (groups text)

-- ---- declarations

-- the built-in module, or the module of that number
pub data Home : Type 0 where
  Arithmetic : Home
  Written : ℕ → Home

-- two homes are one
abbrev pub same_home : Home → Home → Bool
same_home Arithmetic Arithmetic = true
same_home Arithmetic (Written n) = false
same_home (Written m) Arithmetic = false
same_home (Written m) (Written n) = m == n

-- what a name is declared as: a module; a symbol, with its class and, where it is public, its public class;
-- or a pattern, with whether it is public, the number of its module and that of its item
pub data Entity : Type 0 where
  AsModule : Entity
  AsSymbol : Class → Option Class → Entity
  AsPattern : Bool → ℕ → ℕ → Entity

-- a declaration: the name, the module in which it stands (a module's own name stands in that module), and what the name is from then on
pub record Declaration : Type 0 where
  pub name : Name
  pub home : Home
  pub entity : Entity

-- the declarations of an item
abbrev pub item_names : ℕ → ℕ → Item → List Declaration
item_names m i (item.Symbols class public names) = map (λ n. record { name = n; home = Written m; entity = AsSymbol class (option_map (λ c. c.0) public) }) names
item_names m i (item.Named public name pattern) = record { name = name; home = Written m; entity = AsPattern public m i } ∷ []
item_names m i _ = []

-- the declarations of a module of a number: its own name, and those of its items
abbrev pub module_names : ℕ × Module → List Declaration
module_names m = record { name = m.1.name; home = Written m.0; entity = AsModule } ∷ flat_map (λ i. item_names i.owner i.number i.item) (items_of m)

-- what the text itself declares, in text order
abbrev pub own_names : Text → List Declaration
own_names text = flat_map module_names (enumerate_from 0 text.modules)

-- a name that is declared before the text; it has no place there, and the 0 counts for nothing
abbrev pub built_in : List ℕ → Entity → Declaration
built_in word entity = record { name = record { text = word; place = record { byte = 0 } }; home = Arithmetic; entity = entity }

-- an operation on integers
abbrev pub operation : List ℕ → Declaration
operation word = built_in word (AsSymbol classes.Rewritable (Some classes.Creatable))

-- a result of comparisons
abbrev pub truth : List ℕ → Declaration
truth word = built_in word (AsSymbol classes.Creatable (Some classes.Creatable))

-- what is declared before the text: the module Arithmetic and its symbols
abbrev pub built_in_names : List Declaration
built_in_names =
    built_in (codes "Arithmetic") AsModule ∷ operation (codes "IAdd") ∷ operation (codes "ISub") ∷ operation (codes "IMul") ∷ operation (codes "IEq") ∷ operation (codes "ILt") ∷ truth (codes "True") ∷ truth (codes "False") ∷ []

-- all declarations, in their order
abbrev pub all_names : Text → List Declaration
all_names text = built_in_names ++ own_names text

-- the declaration is one of that name
abbrev pub is_called : List ℕ → Declaration → Bool
is_called word d = bytes_eq d.name.text word

-- what a name means: its first declaration, which alone counts for its uses
abbrev pub meaning : Text → List ℕ → Option Declaration
meaning text word = find (is_called word) (all_names text)

-- ---- symbols and their numbers

-- the symbol that is declared, with its own module's class
abbrev pub entity_symbol : List ℕ → Entity → Option Symbol
entity_symbol word AsModule = None
entity_symbol word (AsSymbol class public) = Some (record { name = word; class = class })
entity_symbol word (AsPattern public m i) = None

-- a symbol is declared
abbrev pub is_symbol : Entity → Bool
is_symbol AsModule = false
is_symbol (AsSymbol class public) = true
is_symbol (AsPattern public m i) = false

-- the declarations of symbols; a symbol's number is its place in this list
abbrev pub symbol_names : Text → List Declaration
symbol_names text = filter (λ d. is_symbol d.entity) (all_names text)

-- the symbols of a program, by their numbers: those of Arithmetic, and then the text's in text order
abbrev pub symbols : Text → List Symbol
symbols text = filter_map (λ d. entity_symbol d.name.text d.entity) (all_names text)

-- the number of the symbol of that name: how many symbols are declared before the name is
abbrev pub number_of : Text → List ℕ → ℕ
number_of text word = count_by (λ d. is_symbol d.entity) (before_first (is_called word) (all_names text))
