-- What scopes hold.
use Rattle.std.specs.Prelude.{◌≡◌, ℕ, Bool, ◌==◌, ◌&&◌, ◌||◌, List, Option, Some, None, option_and_then}
use Rattle.std.specs.List.{list_any}
use Rattle.dactl_model.specs.declared.program.Class.{Class}
use Rattle.dactl_meaning.specs.Declarations.{Home, same_home, Entity, AsModule, AsSymbol, AsPattern, Declaration}
use Rattle.dactl_meaning.specs.Sight.{Import, home_given, is_given}
use Rattle.dactl_symbols.specs.Declaring.{home_of}
use Rattle.dactl_symbols.specs.Meanings.{meaning_in}
use Rattle.dactl_symbols.specs.declared.sight.Link as code
use Rattle.dactl_symbols.specs.declared.sight.Owned as owned

-- an import that counts: the number of the module that imports, and the home that it imports
pub record Link : Type 0 where
  pub owner : ℕ
  pub home : Home

-- the declarations in their order, and the imports that count
pub record Sights : Type 0 where
  pub names : List Declaration
  pub links : List Link

abbrev pub link_of : code.Link → Link
link_of l = record { owner = l.owner; home = home_of l.home }

-- a symbol's module and its classes
pub record Standing : Type 0 where
  pub home : Home
  pub class : Class
  pub public : Option Class

abbrev pub owned_of : owned.Owned → Standing
owned_of o = record { home = home_of o.home; class = o.class; public = o.public }

abbrev pub entity_standing : Home → Entity → Option Standing
entity_standing home AsModule = None
entity_standing home (AsSymbol class public) = Some (record { home = home; class = class; public = public })
entity_standing home (AsPattern public m i) = None

abbrev pub owned_in : Declaration → Option Standing
owned_in d = entity_standing d.home d.entity

-- what an import gives to see among the declarations
abbrev pub imported_in : List Declaration → Import → Option Home
imported_in ds i = option_and_then (λ f. home_given i.owner f.home f.entity) (meaning_in ds i.name.text)

-- the imports link the module to the home
abbrev pub has_link : List Link → ℕ → Home → Bool
has_link links m home = list_any (λ l. (l.owner == m) && same_home l.home home) links

-- the new links are the old ones, and one from the module to that home, if there is one
abbrev pub AddsLink : List Link → List Link → ℕ → Option Home → Type 0
AddsLink old new owner given = (m : ℕ) (home : Home) → has_link new m home ≡ (has_link old m home || ((owner == m) && is_given given home))

-- the links are those that the imports give
abbrev pub AreLinks : List Declaration → List Import → List Link → Type 0
AreLinks ds imports links = (m : ℕ) (home : Home) → has_link links m home ≡ list_any (λ i. (i.owner == m) && is_given (imported_in ds i) home) imports
