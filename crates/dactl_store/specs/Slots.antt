-- How a node of the table lies in 32 bytes. No public clause cites this module.
use Rattle.std.specs.Prelude.{ℕ, ℤ, ◌<◌, ◌^◌}
use Rattle.dactl_model.specs.declared.graph.Label.{Label}
use Rattle.dactl_model.specs.declared.graph.Label.TheVariants as labels
use Rattle.dactl_store.specs.declared.slot.Kind.{Kind}
use Rattle.dactl_store.specs.declared.slot.Kind.TheVariants.{Symbol, Integer, Character}

-- the label of a kind, of which the number or the integer is of no account
abbrev pub label_from : Kind → ℕ → ℤ → Label
label_from Symbol code integer = labels.Symbol code
label_from Integer code integer = labels.Integer integer
label_from Character code integer = labels.Character code

-- the number of a character is a byte
abbrev pub IsSmall : Kind → ℕ → Type 0
IsSmall Symbol code = Unit {0}
IsSmall Integer code = Unit {0}
IsSmall Character code = code < 2 ^ 8
