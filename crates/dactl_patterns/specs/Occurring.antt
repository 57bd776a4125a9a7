-- What stands in a pattern, as the code keeps it.
use Rattle.std.specs.Prelude.{◌≡◌, ℕ, Bool, true, List, ◌++◌, map}
use Rattle.std.specs.List.{flat_map}
use Rattle.dactl_meaning.specs.declared.tree.Name.{Name}
use Rattle.dactl_meaning.specs.declared.tree.PatternTree.{PatternTree}
use Rattle.dactl_meaning.specs.declared.tree.Sign.{Sign}
use Rattle.dactl_meaning.specs.Expansion as spec
use Rattle.dactl_meaning.specs.RuleFaults.{widths}
use Rattle.dactl_patterns.specs.declared.occurrences.Occurrence as code
use Rattle.dactl_patterns.specs.declared.occurrences.Use.{Use}
use Rattle.dactl_patterns.specs.declared.occurrences.Found.{Found}

-- a place of a variable, without where the code finds it
abbrev pub seen : code.Occurrence → spec.Occurrence
seen o = record { name = o.name.now; given = o.given; in_choice = o.in_choice }

-- a name with the number of its arguments
abbrev pub used : Use → Name × ℕ
used u = (u.name.now, u.args)

abbrev pub place_at : Name → Bool → Bool → spec.Occurrence
place_at name given in_choice = record { name = name; given = given; in_choice = in_choice }

-- these places of variables and these uses of names are put at the ends of the lists
pub record Puts (old new : Found) (os : List spec.Occurrence) (ws : List (Name × ℕ)) : Type 0 where
  pub places : map seen new.places.items ≡ map seen old.places.items ++ os
  pub uses : map used new.uses.items ≡ map used old.uses.items ++ ws

-- those of a pattern, which stands in a choice or not
abbrev pub PutsTree : Bool → PatternTree → Found → Found → Type 0
PutsTree choice tree old new = Puts old new (spec.occurrences_in tree choice) (widths tree)

-- those of several
abbrev pub PutsTrees : Bool → List PatternTree → Found → Found → Type 0
PutsTrees choice trees old new = Puts old new (flat_map (λ t. spec.occurrences_in t choice) trees) (flat_map widths trees)

-- those of the patterns of links, which stand in a choice
abbrev pub PutsLinks : List (Sign × PatternTree) → Found → Found → Type 0
PutsLinks rest old new = Puts old new (flat_map (λ l. spec.occurrences_in l.1 true) rest) (flat_map (λ l. widths l.1) rest)

-- this stands in the pattern
pub record HasFound (found : Found) (tree : PatternTree) : Type 0 where
  pub places : map seen found.places.items ≡ spec.occurrences tree
  pub uses : map used found.uses.items ≡ widths tree
