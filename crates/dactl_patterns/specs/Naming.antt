-- Names that are different, as the code keeps them.
use Rattle.std.specs.Prelude.{ℕ, List, map, Bool, ◌||◌}
use Rattle.std.specs.Borrow.{Bor}
use Rattle.std.specs.BTreeSet.{BTreeSet, contains_by}
use Rattle.std.specs.Cmp.Lexicographic.{slice_cmp}
use Rattle.std.specs.Ordering.{nat_cmp}
use Rattle.std.specs.Str.{bytes_eq}
use Rattle.dactl_patterns.specs.declared.occurrences.Occurrence.{Occurrence}

-- whether the set has the name
abbrev pub has_word : BTreeSet (Bor (List ℕ)) → List ℕ → Bool
has_word names w = contains_by (λ k. slice_cmp nat_cmp w k.now) names

-- whether it is one of the known names, or this one
abbrev pub with_word : (List ℕ → Bool) → List ℕ → List ℕ → Bool
with_word is_known name w = is_known w || bytes_eq name w

-- the names at these places
abbrev pub names_in : List Occurrence → List (List ℕ)
names_in occurrences = map (λ o. o.name.now.text) occurrences
