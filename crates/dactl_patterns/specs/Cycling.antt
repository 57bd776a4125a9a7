-- Which named patterns a named pattern names, as lists.
use Rattle.std.specs.Prelude.{◌≡◌, ℕ, ◌⊎◌, List, [], ◌++◌, map, Contains, Option, Some, None}
use Rattle.std.specs.List.{filter_map}
use Rattle.dactl_meaning.specs.declared.tree.Name.{Name}
use Rattle.dactl_meaning.specs.declared.tree.PatternTree.{PatternTree}
use Rattle.dactl_meaning.specs.declared.tree.Text.{Text}
use Rattle.dactl_meaning.specs.Declarations.{named_pattern}
use Rattle.dactl_meaning.specs.RuleFaults.{widths}
use Rattle.dactl_meaning.specs.Sight.{Seen, SeenSymbol, SeenPattern, sees}
use Rattle.dactl_meaning.specs.Meaning.{NamedPattern, Reaches}
use Rattle.dactl_patterns.specs.declared.occurrences.Use.{Use}

-- the names that the code found
abbrev pub told : List Use → List Name
told uses = map (λ u. u.name.now) uses

-- the names of symbols and named patterns that a pattern uses
abbrev pub names_used : PatternTree → List Name
names_used tree = map (λ w. w.0) (widths tree)

-- the named pattern that is seen
abbrev pub seen_pattern : Option Seen → Option NamedPattern
seen_pattern None = None
seen_pattern (Some (SeenSymbol f class)) = None
seen_pattern (Some (SeenPattern m i)) = Some (m, i)

-- the named pattern that the module sees under a name
abbrev pub pattern_at : Text → ℕ → Name → Option NamedPattern
pattern_at text owner name = seen_pattern (sees text owner name.text)

-- the named patterns that a tree in the module names
abbrev pub named_by : Text → ℕ → Option PatternTree → List NamedPattern
named_by text owner None = []
named_by text owner (Some tree) = filter_map (pattern_at text owner) (names_used tree)

-- the named patterns that a named pattern names
abbrev pub named_from : Text → NamedPattern → List NamedPattern
named_from text a = named_by text a.0 (named_pattern text a.0 a.1)

-- the list has become longer by these alone, and has each of them
pub record Gains (old names new : List NamedPattern) : Type 0 where
  pub grown : (more : List NamedPattern) × (new ≡ old ++ more)
  pub each : (x : NamedPattern) → Contains names x → Contains new x
  pub only : (x : NamedPattern) → Contains new x → Contains old x ⊎ Contains names x

-- the named pattern reaches itself
abbrev pub ReachesItself : Text → NamedPattern → Type 0
ReachesItself text a = (between : List NamedPattern) × Reaches text a between a
