-- Ends of a run, as those see them who hold a seat, and as the state has them.
use Rattle.std.specs.Prelude.{◌≡◌, ◌⊎◌, List, length, Option, Some}
use Rattle.dactl_model.specs.declared.graph.Graph.{Graph}
use Rattle.dactl_model.specs.declared.graph.Entry.{Entry}
use Rattle.dactl_model.specs.declared.graph.End.{End}
use Rattle.dactl_model.specs.declared.graph.Limits.{Limits}
use Rattle.dactl_model.specs.declared.program.Program.{Program}
use Rattle.dactl_model.specs.Firing.{start_of}
use Rattle.dactl_model.specs.Steps.{Reduction}
use Rattle.dactl_model.specs.Ending.{IsPassive}
use Rattle.dactl_state.specs.declared.state.Answer.{Answer}
use Rattle.dactl_state.specs.declared.state.Answer.TheVariants.{Full, Ended}
use Rattle.dactl_state.specs.Runs.{Run, EndOf}
use Rattle.dactl_turn.specs.declared.rule.Joined.{Joined}
use Rattle.dactl_turn.specs.Gives.{entries_of, end_of, or_else}
use Rattle.dactl_shared.specs.declared.store.SharedStore.{SharedStore}
use Rattle.dactl_shared.specs.declared.store.WorkerSeat.{WorkerSeat}
use Rattle.dactl_shared.specs.Stores.{program_of, limits_of, gives_of, seen_of}

-- the entries lead to a graph in which no node is active
abbrev pub IsPassiveAfter : Program → List Entry → Type 0
IsPassiveAfter p entries = (g : Graph) × Reduction p (start_of p.start) entries g × IsPassive g

-- after these entries, and with this kept full end, if any, there is an end: that full one, Normal or Budget
abbrev pub HasEndAt : Program → Limits → List Entry → Option End → Type 0
HasEndAt p limits entries full =
    ((e : End) × (full ≡ Some e)) ⊎ (IsPassiveAfter p entries ⊎ (length entries ≡ limits.budget))

-- the state has an end
abbrev pub HasEnd : Run → Type 0
HasEnd r = (e : End) × EndOf r (Some e)

-- a full end that the seat had seen, if any, is the one that the state keeps
abbrev pub KeepsEnd : Run → Joined → Type 0
KeepsEnd r j = or_else (end_of j.gives) r.full ≡ r.full

-- the seat has seen an end
abbrev pub HasSeenEnd : SharedStore → WorkerSeat → Type 0
HasSeenEnd s w = HasEndAt (program_of s) (limits_of s) (seen_of w) (end_of (gives_of w))

-- the seat that was taken back had seen an end
abbrev pub HadSeenEnd : SharedStore → Joined → Type 0
HadSeenEnd s j = HasEndAt (program_of s) (limits_of s) (entries_of j.gives) (end_of j.gives)

-- the answer tells of an end
abbrev pub TellsEnd : Answer → Type 0
TellsEnd (Full n r needed left) = Unit {0}
TellsEnd (Ended e) = Unit {0}
TellsEnd _ = ⊥
