-- What is made before a run starts, and what its end needs to be told.
use Rattle.std.specs.Prelude.{◌≡◌, ◌^◌, ◌<◌, ◌≤◌, [], length}
use Rattle.dactl_crew.specs.Preparing as crews
use Rattle.dactl_crew.specs.declared.ended.EndedRun.{EndedRun}
use Rattle.dactl_model.specs.Graphs.{IsWellFormed}
use Rattle.dactl_model.specs.declared.program.Program.{Program}
use Rattle.dactl_print.specs.Lines.{HasSymbolsOf}
use Rattle.dactl_print.specs.Printing.{Gathering}
use Rattle.dactl_settings.specs.declared.settings.Settings.{Settings}
use Rattle.dactl_top.specs.declared.prepare.Prepared.{Prepared}
use Rattle.dactl_top.specs.Running.{limits_of}

-- all that a run of the program takes is there
pub record IsPrepared (s : Settings) (p : Program) (prepared : Prepared) : Type 0 where
  pub crew : crews.IsPrepared p (limits_of s) s.workers prepared.crew
  pub numbering : prepared.numbering ≡ record { room = s.nodes; gathered = [] }

-- the last graph can be printed
pub record IsPrintable (run : EndedRun) (numbering : Gathering) : Type 0 where
  pub formed : IsWellFormed run.store.graph
  pub symbols : HasSymbolsOf run.program run.store.graph
  pub room : length run.store.graph.nodes ≤ numbering.room
  pub few : length run.journal.items < 2 ^ 32
  pub none : numbering.gathered ≡ []
