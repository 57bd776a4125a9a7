-- Where the names of a rule stand: its left sides behind all of its pattern.
use Rattle.std.specs.Prelude.{ℕ, ◌<◌, List, ◌∷◌, ◌++◌, map, All}
use Rattle.dactl_meaning.specs.declared.tree.RuleTree.{RuleTree}
use Rattle.dactl_meaning.specs.declared.tree.Text.{Text}
use Rattle.dactl_meaning.specs.Declarations.{rules}
use Rattle.dactl_meaning.specs.Expansion.{occurrences}
use Rattle.dactl_meaning.specs.RuleFaults.{place_of, widths, lefts_of}

-- where the pattern of a rule can be at fault: at the rule's own place, at its variables and at its symbols
abbrev pub pattern_places : RuleTree → List ℕ
pattern_places r = r.place.byte ∷ (map (λ o. place_of o.name) (occurrences r.pattern) ++ map (λ w. place_of w.0) (widths r.pattern))

-- where its left sides stand
abbrev pub left_places : RuleTree → List ℕ
left_places r = map place_of (lefts_of r.parts)

-- each left side stands behind each of the pattern's places
abbrev pub IsInOrder : RuleTree → Type 0
IsInOrder r = All (λ place. All (λ left. place < left) (left_places r)) (pattern_places r)

-- the rules of the tree are so
abbrev pub PlacesInOrder : Text → Type 0
PlacesInOrder text = All (λ r. IsInOrder r.rule) (rules text)
