-- What the code's lists of declarations and imports mean.
use Rattle.dactl_meaning.specs.Declarations as meant
use Rattle.dactl_meaning.specs.Sight as sight
use Rattle.dactl_symbols.specs.declared.survey.Home.{Home}
use Rattle.dactl_symbols.specs.declared.survey.Home.TheVariants as homes
use Rattle.dactl_symbols.specs.declared.survey.Entity.{Entity}
use Rattle.dactl_symbols.specs.declared.survey.Entity.TheVariants as entities
use Rattle.dactl_symbols.specs.declared.survey.Declared.{Declared}
use Rattle.dactl_symbols.specs.declared.survey.Import.{Import}

abbrev pub home_of : Home → meant.Home
home_of homes.Arithmetic = meant.Arithmetic
home_of (homes.Written n) = meant.Written n

abbrev pub entity_of : Entity → meant.Entity
entity_of entities.Module = meant.AsModule
entity_of (entities.Symbol class public) = meant.AsSymbol class public
entity_of (entities.Pattern public owner item) = meant.AsPattern public owner item

abbrev pub declaration_of : Declared → meant.Declaration
declaration_of d = record { name = d.name; home = home_of d.home; entity = entity_of d.entity }

abbrev pub import_of : Import → sight.Import
import_of i = record { owner = i.owner; name = i.name }
