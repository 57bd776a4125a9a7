-- Statements about the definitions alone.
use Rattle.std.specs.Prelude.{◌≡◌, ℕ, ◌≤◌, List, length}
use Rattle.dactl_model.specs.declared.graph.Entry.{Entry}
use Rattle.dactl_model.specs.declared.graph.Room.{Room}
use Rattle.dactl_model.specs.declared.program.Program.{Program}
use Rattle.dactl_model.specs.Programs.{IsValid}
use Rattle.dactl_verify.specs.declared.verdict.Verdict.{Verdict}
use Rattle.dactl_verify.specs.Verdicts.{IsVerdict}

-- on a trace in a room there is one verdict, with one journal
abbrev pub HasOneVerdict : Type 0
HasOneVerdict =
    (p : Program) (trace : List ℕ) (room : Room) (journal other : List Entry) (verdict second : Verdict) → IsValid p → length trace ≤ 1048576 → room.nodes ≤ 2000000
    → IsVerdict p trace room journal verdict → IsVerdict p trace room other second → (journal ≡ other) × (verdict ≡ second)
