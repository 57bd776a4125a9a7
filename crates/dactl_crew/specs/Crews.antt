-- The workers of a run with what they share: before they start, when each is done, and when all is taken back.
use Rattle.std.specs.Prelude.{◌≡◌, ℕ, ◌+◌, ◌*◌, ◌<◌, ◌≤◌, List, [], length, map, sum_by, All, Contains, vec_capacity}
use Rattle.dactl_decide.specs.Decisions.{Decisions}
use Rattle.dactl_model.specs.Graphs.{IsWellFormed}
use Rattle.dactl_model.specs.declared.graph.Limits.{Limits}
use Rattle.dactl_model.specs.declared.program.Program.{Program}
use Rattle.dactl_print.specs.Lines.{HasSymbolsOf}
use Rattle.dactl_shared.specs.declared.store.SharedStore.{SharedStore}
use Rattle.dactl_shared.specs.declared.store.WorkerSeat.{WorkerSeat}
use Rattle.dactl_shared.specs.Endings.{HasEnd, HasSeenEnd, HadSeenEnd}
use Rattle.dactl_shared.specs.Stores.{WorksFor, SameStore, program_of, workers_of, limits_of, rejoined, gives_of, seen_of}
use Rattle.dactl_state.specs.Runs.{IsCourse}
use Rattle.dactl_turn.specs.declared.rule.Joined.{Joined}
use Rattle.dactl_turn.specs.Gives.{entries_of}
use Rattle.dactl_workers.specs.declared.report.WorkerReport.{WorkerReport}
use Rattle.dactl_workers.specs.declared.worker.Worker.{Worker}
use Rattle.dactl_workers.specs.Reports.{IsReport}
use Rattle.dactl_workers.specs.Work.{new_worker, IsReady}
use Rattle.dactl_crew.specs.Boards.{Words}
use Rattle.dactl_crew.specs.declared.crew.Crew.{Crew}
use Rattle.dactl_crew.specs.declared.crew.CrewEnd.{CrewEnd}
use Rattle.dactl_crew.specs.declared.ended.EndedRun.{EndedRun}
use Rattle.dactl_crew.specs.Reports.{numbers_from, AreReports}
use Rattle.dactl_crew.specs.Running.{AreLimits, IsFitting, IsRun}

module _ {H : Type 0} where
  -- a worker that has done nothing, with room for so many readings and so many nodes
  abbrev pub worker_with : WorkerSeat → H → ℕ → ℕ → Worker H
  worker_with seat hand widest nodes = new_worker seat hand (record { readings = []; bindings = []; room = widest }) (record { list = []; room = nodes })

  -- the numbers of the workers' seats
  abbrev pub numbers_of : List (Worker H) → List ℕ
  numbers_of workers = map (λ (w : Worker H). w.seat.number) workers

-- what hands of a board do
module _ {B H : Type 0} (words : Words B H) (store : SharedStore) (board : B) where
  -- the worker can start, and has seen, put and taken nothing
  pub record IsIdle (widest : ℕ) (w : Worker H) : Type 0 where
    pub ready : IsReady (words.fits board) words.back store widest w
    pub seen : gives_of w.seat ≡ []
    pub put : words.put w.hand ≡ []
    pub taken : words.taken w.hand ≡ []

  -- the workers stand in the order of their numbers, and each can start
  pub record AreWorkers (widest count : ℕ) (workers : List (Worker H)) : Type 0 where
    pub numbers : numbers_of workers ≡ numbers_from 1 count
    pub each : All (IsIdle widest) workers

  -- a worker that is done: its seat has seen an end, and its report tells of what the seat has seen and of what the hand put and took
  pub record IsDone (w : Worker H) : Type 0 where
    pub own : WorksFor store w.seat
    pub hand : words.fits board w.hand
    pub ended : HasSeenEnd store w.seat
    pub worker : w.report.worker ≡ w.seat.number
    pub report : IsReport (program_of store) (seen_of w.seat) w.report
    pub put : length (words.put w.hand) + w.report.refused ≡ w.report.offered
    pub taken : length (words.taken w.hand) ≡ w.report.taken

-- the report is of a seat that was taken back, and tells of what that seat had seen
abbrev pub IsOfSeat : Program → List Joined → WorkerReport → Type 0
IsOfSeat p js r = (j : Joined) × Contains js j × (j.number ≡ r.worker) × IsReport p (entries_of j.gives) r

-- what a board does for a crew
module _ {B H : Type 0} (words : Words B H) where
  -- nothing has been done on the board, and so many hands of it are out
  pub record IsNewBoard (board : B) (out : ℕ) : Type 0 where
    pub sound : words.is_sound board
    pub puts : words.puts board ≡ []
    pub takes : words.takes board ≡ []
    pub parts : words.parts board + words.share board * out ≡ 256

  -- all seats and hands were taken back, in the order of the workers, and each seat had seen an end
  pub record AreBack (old new : SharedStore) (board : B) (workers : List (Worker H)) (reports : List WorkerReport) : Type 0 where
    pub store : SameStore old new
    pub seats : length (rejoined new) ≡ length workers
    pub sound : words.is_sound board
    pub parts : words.parts board ≡ 256
    pub numbers : map (λ (r : WorkerReport). r.worker) reports ≡ numbers_of workers
    pub each : All (IsOfSeat (program_of old) (rejoined new)) reports
    pub ended : All (HadSeenEnd old) (rejoined new)
    pub puts : length (words.puts board) + sum_by (λ (r : WorkerReport). r.refused) reports ≡ sum_by (λ (r : WorkerReport). r.offered) reports
    pub takes : length (words.takes board) ≡ sum_by (λ (r : WorkerReport). r.taken) reports

module _ {B H : Type 0} (words : Words B H) where
  -- the workers of a store, none of which has done anything, with a list for their reports
  pub record IsCrew (widest : ℕ) (crew : Crew B H) : Type 0 where
    pub some : 0 < workers_of crew.store
    pub few : workers_of crew.store ≤ 16
    pub none : rejoined crew.store ≡ []
    pub board : IsNewBoard words crew.board (workers_of crew.store)
    pub workers : AreWorkers words crew.store crew.board widest (workers_of crew.store) crew.workers.items
    pub reports : crew.reports.items ≡ []
    pub room : workers_of crew.store ≤ vec_capacity crew.reports

  -- the workers can run, and the first graph fits
  pub record IsRunnable (deciders : Decisions) (crew : Crew B H) : Type 0 where
    pub program : deciders.program ≡ program_of crew.store
    pub ready : IsCrew deciders.widest crew
    pub limits : AreLimits (limits_of crew.store)
    pub fits : IsFitting (limits_of crew.store) (program_of crew.store)

-- what the workers of this store left: the state has an end, and these are their reports
pub record IsCrewEnd (store : SharedStore) (left : CrewEnd) : Type 0 where
  pub program : left.state.program ≡ program_of store
  pub limits : left.state.limits ≡ limits_of store
  pub course : IsCourse left.state
  pub ended : HasEnd left.state
  pub reports : AreReports left.state.program left.state.journal (workers_of store) left.reports.items left.left

-- so many workers ran the program to an end within the limits, and its last graph can be printed
pub record IsRunOf (p : Program) (limits : Limits) (workers : ℕ) (r : EndedRun) : Type 0 where
  pub program : r.program ≡ p
  pub run : IsRun limits workers r.program r.journal.items r.store.graph r.ended r.reports.items r.left
  pub formed : IsWellFormed r.store.graph
  pub symbols : HasSymbolsOf r.program r.store.graph
