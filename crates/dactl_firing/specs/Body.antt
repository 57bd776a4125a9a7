-- What the firing of a body asks. No public clause cites this module.
use Rattle.std.specs.Prelude.{◌≡◌, ◌^◌, ◌<◌, true, List, length}
use Rattle.dactl_model.specs.declared.graph.NodeId.{NodeId}
use Rattle.dactl_model.specs.declared.graph.Graph.{Graph}
use Rattle.dactl_model.specs.declared.program.Body.{Body}
use Rattle.dactl_model.specs.declared.program.Body.TheVariants.{Written, Delta}
use Rattle.dactl_model.specs.Matching.{FitsRange, delta_label}
use Rattle.dactl_model.specs.Programs.{fresh_arcs}
use Rattle.dactl_firing.specs.Site.{IsWrittenFor}

-- a written body in range, or an arithmetic one with two operands and a result of 128 bits
abbrev pub CanMake : Graph → List NodeId → Body → Type 0
CanMake g h (Written fresh moves wakes suspend) = IsWrittenFor (length h) fresh moves wakes
CanMake g h (Delta o) = (length h ≡ 2) × FitsRange true (delta_label o g h)

-- so few new nodes and arcs that their counts have 32 bits
abbrev pub IsSmallBody : Body → Type 0
IsSmallBody (Written fresh moves wakes suspend) = (length fresh < 2 ^ 32) × (fresh_arcs fresh < 2 ^ 32)
IsSmallBody (Delta o) = Unit {0}
