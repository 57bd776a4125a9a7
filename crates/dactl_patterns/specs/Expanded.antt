-- What the expansion of a pattern is, and what is known of a pattern.
use Rattle.std.specs.Prelude.{◌≡◌, ℕ, Bool, true, false, List, Contains, Option, Some, None}
use Rattle.dactl_model.specs.declared.program.Pat.{Pat}
use Rattle.dactl_meaning.specs.declared.tree.PatternTree.{PatternTree}
use Rattle.dactl_meaning.specs.declared.tree.Text.{Text}
use Rattle.dactl_meaning.specs.Expansion.{variables_of, rule_expansion, pattern_expansion}
use Rattle.dactl_meaning.specs.RuleFaults.{is_too_wide, pattern_faults}
use Rattle.dactl_symbols.specs.Least.{TellsLeast}
use Rattle.dactl_patterns.specs.declared.patterns.Examined.{Examined}
use Rattle.dactl_patterns.specs.declared.patterns.Expanded.{Expanded}

-- the expansion of a named pattern's tree, or of a rule's
abbrev pub expansion_as : Bool → Text → ℕ → PatternTree → Pat
expansion_as true text owner tree = pattern_expansion text owner tree
expansion_as false text owner tree = rule_expansion text owner tree

-- the variables, if they count
abbrev pub variables_counted : Bool → List (List ℕ) → Option (List (List ℕ))
variables_counted true variables = None
variables_counted false variables = Some variables

-- the expansion of the pattern, with its variables
pub record IsExpanded (text : Text) (owner : ℕ) (named : Bool) (tree : PatternTree) (e : Expanded) : Type 0 where
  pub pat : e.pat ≡ expansion_as named text owner tree
  pub variables : e.variables ≡ variables_of tree

-- the whole pattern is too wide
abbrev pub is_wide : Text → ℕ → Bool → PatternTree → Bool
is_wide text owner named tree = is_too_wide named (pattern_expansion text owner tree) tree

-- the expansion of the pattern, unless the whole is too wide
abbrev pub IsExpansion : Text → ℕ → Bool → PatternTree → Option Pat → Type 0
IsExpansion text owner named tree None = is_wide text owner named tree ≡ true
IsExpansion text owner named tree (Some p) = (is_wide text owner named tree ≡ false) × (p ≡ expansion_as named text owner tree)

-- this is known of the pattern
pub record IsExamined (text : Text) (owner : ℕ) (named : Bool) (place : ℕ) (tree : PatternTree) (e : Examined) : Type 0 where
  pub variables : e.variables ≡ variables_of tree
  pub fault : TellsLeast (Contains (pattern_faults text owner named place tree)) e.fault
  pub pat : IsExpansion text owner named tree e.pat
