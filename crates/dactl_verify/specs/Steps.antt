-- What one line comes to. No public clause cites this module.
use Rattle.std.specs.Prelude.{◌≡◌, ℕ, List}
use Rattle.dactl_model.specs.declared.graph.Graph.{Graph}
use Rattle.dactl_model.specs.declared.graph.Event.{Event}
use Rattle.dactl_model.specs.declared.graph.Event.TheVariants.{Fire}
use Rattle.dactl_model.specs.declared.graph.Room.{Room}
use Rattle.dactl_model.specs.declared.program.Program.{Program}
use Rattle.dactl_model.specs.Graphs.{IsWellFormed}
use Rattle.dactl_model.specs.Steps.{Step}
use Rattle.dactl_model.specs.Ending.{IsFull, arcs_of}
use Rattle.dactl_verify.specs.declared.checking.Reached.{Reached}
use Rattle.dactl_verify.specs.declared.checking.Outcome.{Outcome}
use Rattle.dactl_verify.specs.declared.checking.Outcome.TheVariants as outcome
use Rattle.dactl_verify.specs.declared.checking.Found.{Found}
use Rattle.dactl_verify.specs.declared.checking.Found.TheVariants.{Stops, Leads}
use Rattle.dactl_verify.specs.declared.verdict.Verdict.{Verdict}
use Rattle.dactl_verify.specs.declared.verdict.Verdict.TheVariants.{Valid, Wrong, Full, Small}
use Rattle.dactl_verify.specs.Lines.{IsLineOf}
use Rattle.dactl_verify.specs.Rooms.{FitsRoom, limits_of}
use Rattle.dactl_verify.specs.Verdicts.{IsWrong, IsOverfull}

-- a well-formed graph that fits the room, with the number of its arcs
pub record IsReached (room : Room) (reached : Reached) : Type 0 where
  pub formed : IsWellFormed reached.graph
  pub fits : FitsRoom room reached.graph
  pub arcs : reached.arcs ≡ arcs_of reached.graph

-- the event may not happen, or it is a firing for which there is no room, or it leads to a graph that fits
abbrev pub IsOutcome : Program → Room → Graph → Event → Outcome → Type 0
IsOutcome p room g event outcome.Wrong = (after : Graph) → Step p g event after → ⊥
IsOutcome p room g event (outcome.Full n r needed left) = (event ≡ Fire n r) × IsFull p (limits_of room) g n r needed left
IsOutcome p room g event (outcome.Right after) = Step p g event after.graph × IsReached room after

-- the verdict on a line, which is the last that is read
abbrev pub IsLast : Program → Room → Graph → ℕ → List ℕ → Verdict → Type 0
IsLast p room g number line Valid = ⊥
IsLast p room g number line (Wrong at) = (at ≡ number) × IsWrong p g number line
IsLast p room g number line (Full at n r needed left) = (at ≡ number) × IsOverfull p room g number line n r needed left
IsLast p room g number line (Small needed left) = ⊥

-- the line is the last that is read, or it is right and leads to a graph that fits
abbrev pub IsFoundAt : Program → Room → Graph → ℕ → List ℕ → Found → Type 0
IsFoundAt p room g number line (Stops verdict) = IsLast p room g number line verdict
IsFoundAt p room g number line (Leads entry after) = IsLineOf number entry line × Step p g entry.event after.graph × IsReached room after
