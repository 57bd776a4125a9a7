-- What the check of a trace finds.
use Rattle.std.specs.Prelude.{◌≡◌, ◌≢◌, ℕ, ◌+◌, List, [], ◌++◌, length, take, All}
use Rattle.dactl_base.specs.Readers.{next_line}
use Rattle.dactl_model.specs.declared.graph.NodeId.{NodeId}
use Rattle.dactl_model.specs.declared.graph.Graph.{Graph}
use Rattle.dactl_model.specs.declared.graph.Event.TheVariants.{Fire}
use Rattle.dactl_model.specs.declared.graph.Entry.{Entry}
use Rattle.dactl_model.specs.declared.graph.Room.{Room}
use Rattle.dactl_model.specs.declared.program.Program.{Program}
use Rattle.dactl_model.specs.Firing.{start_of}
use Rattle.dactl_model.specs.Steps.{Step, Reduction}
use Rattle.dactl_model.specs.Ending.{IsFull}
use Rattle.dactl_print.specs.Texts.{trace_lines}
use Rattle.dactl_verify.specs.declared.verdict.Verdict.{Verdict}
use Rattle.dactl_verify.specs.declared.verdict.Verdict.TheVariants.{Valid, Wrong, Full, Small}
use Rattle.dactl_verify.specs.Lines.{IsWorker, IsLineOf}
use Rattle.dactl_verify.specs.Rooms.{FitsRoom, Exceeds, limits_of, room_of}

-- the line is right after the graph: it is that of the entry, with this number and a worker from 1 to 16, whose event leads to the other graph
pub record IsRight (p : Program) (g : Graph) (number : ℕ) (line : List ℕ) (entry : Entry) (after : Graph) : Type 0 where
  pub told : IsLineOf number entry line
  pub step : Step p g entry.event after

-- no entry makes it right
abbrev pub IsWrong : Program → Graph → ℕ → List ℕ → Type 0
IsWrong p g number line = (entry : Entry) (after : Graph) → IsRight p g number line entry after → ⊥

-- it is right, and a firing that needs more nodes or arcs than the room leaves
pub record IsOverfull (p : Program) (room : Room) (g : Graph) (number : ℕ) (line : List ℕ) (n : NodeId) (r : ℕ) (needed left : Room) : Type 0 where
  pub entry : Entry
  pub after : Graph
  pub right : IsRight p g number line entry after
  pub fires : entry.event ≡ Fire n r
  pub full : IsFull p (limits_of room) g n r needed left

-- the entries of the first lines, all of which are right, lead to this graph, and the rest of the trace follows; each graph on the way fits the room
pub record IsChecked (p : Program) (trace : List ℕ) (room : Room) (journal : List Entry) (g : Graph) (rest : List ℕ) : Type 0 where
  pub lines : trace ≡ trace_lines journal ++ rest
  pub workers : All (λ entry. IsWorker entry.worker) journal
  pub run : Reduction p (start_of p.start) journal g
  pub fit : (k : ℕ) (h : Graph) → Reduction p (start_of p.start) (take k journal) h → FitsRoom room h

-- what is found at the next line, which has this number: nothing is left, the line is wrong, or it is right and its firing does not fit
abbrev pub IsFound : Program → Room → Graph → ℕ → List ℕ → Verdict → Type 0
IsFound p room g number rest Valid = rest ≡ []
IsFound p room g number rest (Wrong line) = (line ≡ number) × (rest ≢ []) × IsWrong p g number (next_line rest)
IsFound p room g number rest (Full line n r needed left) = (line ≡ number) × IsOverfull p room g number (next_line rest) n r needed left
IsFound p room g number rest (Small needed left) = ⊥

-- after the entries that were checked this is found
pub record IsEnded (p : Program) (trace : List ℕ) (room : Room) (journal : List Entry) (verdict : Verdict) : Type 0 where
  pub graph : Graph
  pub rest : List ℕ
  pub checked : IsChecked p trace room journal graph rest
  pub found : IsFound p room graph (length journal + 1) rest verdict

-- the start needs more nodes or arcs than the room has, and no line was read
pub record IsSmall (p : Program) (room : Room) (journal : List Entry) (needed left : Room) : Type 0 where
  pub needs : needed ≡ room_of p.start.fresh
  pub has : left ≡ room
  pub above : Exceeds needed left
  pub unread : journal ≡ []

-- the verdict on the trace in this room, with the entries of the lines before
abbrev pub IsVerdict : Program → List ℕ → Room → List Entry → Verdict → Type 0
IsVerdict p trace room journal Valid = IsEnded p trace room journal Valid
IsVerdict p trace room journal (Wrong line) = IsEnded p trace room journal (Wrong line)
IsVerdict p trace room journal (Full line n r needed left) = IsEnded p trace room journal (Full line n r needed left)
IsVerdict p trace room journal (Small needed left) = IsSmall p room journal needed left

-- the entries are those of first lines that are right, and whose graphs fit
abbrev pub IsFront : Program → List ℕ → Room → List Entry → Type 0
IsFront p trace room journal = (g : Graph) × (rest : List ℕ) × IsChecked p trace room journal g rest
