-- Rules that fail whatever is read further.
use Rattle.std.specs.Prelude.{◌≡◌, ℕ, ◌<◌, ◌⊎◌, false, List, slice_get, Some}
use Rattle.dactl_model.specs.declared.graph.NodeId.{NodeId}
use Rattle.dactl_model.specs.declared.reading.Reading.{Reading}
use Rattle.dactl_model.specs.declared.program.Rule.{Rule}
use Rattle.dactl_model.specs.Readings.{No, told}
use Rattle.dactl_model.specs.RuleTold.{no_conflict}
use Rattle.dactl_probe.specs.declared.lost.Lost.{Lost}
use Rattle.dactl_probe.specs.Marks.{IsMarked}

-- the rule's pattern fails at n, or two pairs give one variable different nodes
abbrev pub IsRuleLost : List Reading → NodeId → Rule → Type 0
IsRuleLost rs n rule = ((told rs rule.pattern n).value ≡ No) ⊎ (no_conflict (told rs rule.pattern n).pairs ≡ false)

-- rule s is known to be lost: its number is below the bound, or marked
abbrev pub IsKnownLost : Lost → ℕ → Type 0
IsKnownLost lost s = (s < lost.below) ⊎ IsMarked lost.marks s

-- the rules that are known to be lost are lost
abbrev pub AreLost : List Rule → List Reading → NodeId → Lost → Type 0
AreLost rules rs n lost = (s : ℕ) (rule : Rule) → IsKnownLost lost s → slice_get rules s ≡ Some rule → IsRuleLost rs n rule
