-- What a survey of a text finds, as flat lists in text order.
use Rattle.std.specs.Prelude.{ℕ, List, [], ◌∷◌, ◌++◌, map, Option, Some, None, if◌then◌else◌}
use Rattle.std.specs.List.{flat_map, enumerate_from}
use Rattle.dactl_base.specs.declared.refusal.Place.{Place}
use Rattle.dactl_model.specs.declared.program.Class.{Class}
use Rattle.dactl_meaning.specs.declared.tree.Group.{Group}
use Rattle.dactl_meaning.specs.declared.tree.Item.{Item}
use Rattle.dactl_meaning.specs.declared.tree.Item.TheVariants as item
use Rattle.dactl_meaning.specs.declared.tree.Module.{Module}
use Rattle.dactl_meaning.specs.declared.tree.Text.{Text}
use Rattle.dactl_meaning.specs.Declarations.{Written, AsModule, Declaration, item_names, built_in_names}
use Rattle.dactl_meaning.specs.Sight.{Import, item_imports}
use Rattle.dactl_meaning.specs.ScopeFaults.{is_too_strong, item_initials}
use Rattle.dactl_symbols.specs.Declaring.{declaration_of, import_of}
use Rattle.dactl_symbols.specs.declared.survey.Survey.{Survey}

-- declarations, imports, and the places of public classes that are too strong, of INITIALs and of rules
pub record Finds : Type 0 where
  pub names : List Declaration
  pub imports : List Import
  pub strong : List ℕ
  pub initials : List ℕ
  pub rules : List ℕ

-- nothing is found
abbrev pub no_finds : Finds
no_finds = record { names = []; imports = []; strong = []; initials = []; rules = [] }

-- the one finds, and then the others
abbrev pub joined : Finds → Finds → Finds
joined a b = record { names = a.names ++ b.names; imports = a.imports ++ b.imports; strong = a.strong ++ b.strong; initials = a.initials ++ b.initials; rules = a.rules ++ b.rules }

-- the finds of all parts, one after the other
abbrev pub joined_all : {X : Type 0} → (X → Finds) → List X → Finds
joined_all finds [] = no_finds
joined_all finds (x ∷ xs) = joined (finds x) (joined_all finds xs)

abbrev pub byte_of : Place → ℕ
byte_of p = p.byte

-- what a survey holds
abbrev pub finds_of : Survey → Finds
finds_of s = record { names = map declaration_of s.declared.items; imports = map import_of s.imports.items; strong = map byte_of s.too_strong.items; initials = map byte_of s.initials.items; rules = map byte_of s.rules.items }

-- the place of a public class that is too strong
abbrev pub strong_bytes : Class → Option (Class × Place) → List ℕ
strong_bytes class None = []
strong_bytes class (Some public) = if is_too_strong class public.0 then public.1.byte ∷ [] else []

-- the places of rules
abbrev pub rule_bytes : List Group → List ℕ
rule_bytes groups = flat_map (λ g. map (λ r. r.place.byte) g.rules) groups

abbrev pub item_strong : Item → List ℕ
item_strong (item.Symbols class public names) = strong_bytes class public
item_strong _ = []

abbrev pub item_rules : Item → List ℕ
item_rules (item.Rules groups) = rule_bytes groups
item_rules _ = []

-- what item of a number of module m has
abbrev pub item_finds : ℕ → ℕ × Item → Finds
item_finds m i = record { names = item_names m i.0 i.1; imports = item_imports m i.1; strong = item_strong i.1; initials = item_initials i.1; rules = item_rules i.1 }

-- a module's own name
abbrev pub name_finds : ℕ × Module → Finds
name_finds m = record no_finds { names = record { name = m.1.name; home = Written m.0; entity = AsModule } ∷ [] }

abbrev pub module_finds : ℕ × Module → Finds
module_finds m = joined (name_finds m) (joined_all (item_finds m.0) (enumerate_from 0 m.1.items))

-- what is declared before the text, and what the text has
abbrev pub text_finds : Text → Finds
text_finds text = joined (record no_finds { names = built_in_names }) (joined_all module_finds (enumerate_from 0 text.modules))
