-- Statements about steps and runs from two graphs, of which the one is within the other.
use Rattle.std.specs.Prelude.{◌≡◌, ◌↔◌, List, map}
use Rattle.dactl_model.specs.declared.graph.NodeId.{NodeId}
use Rattle.dactl_model.specs.declared.graph.Graph.{Graph}
use Rattle.dactl_model.specs.declared.graph.Event.{Event}
use Rattle.dactl_model.specs.declared.graph.Entry.{Entry}
use Rattle.dactl_model.specs.declared.program.Program.{Program}
use Rattle.dactl_model.specs.Acts.{node_of_event}
use Rattle.dactl_model.specs.Ending.{IsPassive}
use Rattle.dactl_model.specs.Graphs.{HasNode, IsWellFormed}
use Rattle.dactl_model.specs.Programs.{IsValid}
use Rattle.dactl_model.specs.Steps.{Step, Reduction}
use Rattle.dactl_within.specs.Renumbering.{image, IsWithin, IsIdleBeside, IsSame, renumbered_event, renumbered_entry, grown, IsGrown}

-- a step of the part is a step of the whole, whatever stands beside the part
abbrev pub StepIsRenumbered : Type 0
StepIsRenumbered =
    (p : Program) (f : List NodeId) (h g h' : Graph) (e : Event) → IsValid p → IsWellFormed h → IsWithin f h g → Step p h e h' → (g' : Graph) × Step p g (renumbered_event f e) g' × IsGrown f h g h' g'

-- a step of the whole at a node of the part is a step of the part
abbrev pub StepComesBack : Type 0
StepComesBack =
    (p : Program) (f : List NodeId) (h g g' : Graph) (e : Event) → IsValid p → IsWellFormed h → IsWithin f h g → HasNode h (node_of_event e) → Step p g (renumbered_event f e) g'
    → (h' : Graph) × Step p h e h' × IsGrown f h g h' g'

-- where all is idle beside the part, each step of the whole is at a node of the part
abbrev pub EventIsInside : Type 0
EventIsInside =
    (p : Program) (f : List NodeId) (h g g' : Graph) (e : Event) → IsIdleBeside f h g → Step p g e g' → (own : Event) × (e ≡ renumbered_event f own) × HasNode h (node_of_event own)

-- and after the step all is idle beside it again
abbrev pub StaysIdleBeside : Type 0
StaysIdleBeside =
    (p : Program) (f : List NodeId) (h g h' g' : Graph) (e : Event) → IsValid p → IsWellFormed h → IsWellFormed g → IsWithin f h g → IsIdleBeside f h g → Step p h e h' → Step p g (renumbered_event f e) g'
    → IsIdleBeside (grown f h h' g) h' g'

-- graphs that are the same up to numbers stay so, step by step, in both directions
abbrev pub SameStays : Type 0
SameStays =
    (p : Program) (f : List NodeId) (h g h' : Graph) (e : Event) → IsValid p → IsWellFormed h → IsSame f h g → Step p h e h' → (g' : Graph) × Step p g (renumbered_event f e) g' × IsSame (grown f h h' g) h' g'

abbrev pub SameComesBack : Type 0
SameComesBack =
    (p : Program) (f : List NodeId) (h g g' : Graph) (e : Event) → IsValid p → IsWellFormed h → IsSame f h g → Step p g e g'
    → (h' : Graph) × (own : Event) × (e ≡ renumbered_event f own) × Step p h own h' × IsSame (grown f h h' g) h' g'

-- a run of the part is a run of the whole: one list renumbers all entries, since it only grows
abbrev pub RunIsRenumbered : Type 0
RunIsRenumbered =
    (p : Program) (f : List NodeId) (h g h' : Graph) (journal : List Entry) → IsValid p → IsWellFormed h → IsWithin f h g → Reduction p h journal h'
    → (g' : Graph) × Reduction p g (map (renumbered_entry (grown f h h' g)) journal) g' × IsGrown f h g h' g'

-- where all is idle beside the part, each run of the whole is one of the part
abbrev pub RunComesBack : Type 0
RunComesBack =
    (p : Program) (f : List NodeId) (h g g' : Graph) (journal : List Entry) → IsValid p → IsWellFormed h → IsWithin f h g → IsIdleBeside f h g → Reduction p g journal g'
    → (h' : Graph) × (own : List Entry) × (journal ≡ map (renumbered_entry (grown f h h' g)) own) × Reduction p h own h' × IsGrown f h g h' g' × IsIdleBeside (grown f h h' g) h' g'

-- and one of them has an active node where the other has one
abbrev pub EndsAlike : Type 0
EndsAlike = (f : List NodeId) (h g : Graph) → IsWithin f h g → IsIdleBeside f h g → IsPassive h ↔ IsPassive g

-- runs from graphs that are the same up to numbers
abbrev pub SameRuns : Type 0
SameRuns =
    (p : Program) (f : List NodeId) (h g h' : Graph) (journal : List Entry) → IsValid p → IsWellFormed h → IsSame f h g → Reduction p h journal h'
    → (g' : Graph) × Reduction p g (map (renumbered_entry (grown f h h' g)) journal) g' × IsSame (grown f h h' g) h' g'

abbrev pub SameRunsBack : Type 0
SameRunsBack =
    (p : Program) (f : List NodeId) (h g g' : Graph) (journal : List Entry) → IsValid p → IsWellFormed h → IsSame f h g → Reduction p g journal g'
    → (h' : Graph) × (own : List Entry) × (journal ≡ map (renumbered_entry (grown f h h' g)) own) × Reduction p h own h' × IsSame (grown f h h' g) h' g'

-- a part of a part is a part, and where all is idle beside both, so it is
abbrev pub PartOfPart : Type 0
PartOfPart =
    (f e : List NodeId) (k h g : Graph) → IsWellFormed k → IsWithin f h g → IsWithin e k h → IsWithin (map (image f) e) k g × (IsIdleBeside f h g → IsIdleBeside e k h → IsIdleBeside (map (image f) e) k g)

-- a step asks a program for its rules and its width alone, and not for its start
abbrev pub StepsByRules : Type 0
StepsByRules = (p q : Program) (g g' : Graph) (e : Event) → p.rules ≡ q.rules → p.wide ≡ q.wide → Step p g e g' → Step q g e g'

-- so does a run
abbrev pub RunsByRules : Type 0
RunsByRules = (p q : Program) (g g' : Graph) (journal : List Entry) → p.rules ≡ q.rules → p.wide ≡ q.wide → Reduction p g journal g' → Reduction q g journal g'
