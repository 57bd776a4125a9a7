-- Levels of named patterns. All named patterns of a cycle have the same.
use Rattle.std.specs.Prelude.{ℕ, ◌≤◌, ◌==◌, ◌&&◌, Bool, Contains}
use Rattle.std.specs.Option.{unwrap_or}
use Rattle.indexmap.specs.IndexMap.{IndexMap, get_by}
use Rattle.dactl_meaning.specs.declared.tree.Text.{Text}
use Rattle.dactl_meaning.specs.Meaning.{NamedPattern}
use Rattle.dactl_patterns.specs.Cycling.{named_from}

-- they have the same numbers
abbrev pub is_same : NamedPattern → NamedPattern → Bool
is_same a b = (a.0 == b.0) && (a.1 == b.1)

-- the level of a named pattern, which is 0 where it has none
abbrev pub level_in : {S : Type 0} → IndexMap NamedPattern ℕ S → NamedPattern → ℕ
level_in levels a = unwrap_or (get_by (is_same a) levels) 0

-- it names none of a higher level
abbrev pub DescendsAt : Text → (NamedPattern → ℕ) → NamedPattern → Type 0
DescendsAt text level a = (b : NamedPattern) → Contains (named_from text a) b → level b ≤ level a

-- none names one of a higher level
abbrev pub IsDescending : Text → (NamedPattern → ℕ) → Type 0
IsDescending text level = (a : NamedPattern) → DescendsAt text level a
