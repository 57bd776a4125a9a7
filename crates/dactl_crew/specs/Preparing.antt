-- What is made before a run starts.
use Rattle.std.specs.Prelude.{◌≡◌, ℕ}
use Rattle.dactl_model.specs.declared.graph.Limits.{Limits}
use Rattle.dactl_model.specs.declared.program.Program.{Program}
use Rattle.dactl_queue.specs.Boards as ruled
use Rattle.dactl_queue.specs.declared.ruled.RuledBoard.{RuledBoard}
use Rattle.dactl_queue.specs.declared.ruled.RuledHand.{RuledHand}
use Rattle.dactl_shared.specs.declared.store.SharedStore.{SharedStore}
use Rattle.dactl_shared.specs.Stores as stores
use Rattle.dactl_steal.specs.Boards as steal
use Rattle.dactl_steal.specs.declared.board.StealBoard.{StealBoard}
use Rattle.dactl_steal.specs.declared.board.StealHand.{StealHand}
use Rattle.dactl_crew.specs.Boards.{Words}
use Rattle.dactl_crew.specs.declared.preparing.BoardCrew.{BoardCrew}
use Rattle.dactl_crew.specs.declared.preparing.BoardCrew.TheVariants.{Ruled, Steal}
use Rattle.dactl_crew.specs.declared.preparing.Prepared.{Prepared}
use Rattle.dactl_crew.specs.declared.preparing.Unprepared.{Unprepared}
use Rattle.dactl_crew.specs.declared.preparing.Unprepared.TheVariants.{Small, Memory}
use Rattle.dactl_crew.specs.Crews.{IsCrew}
use Rattle.dactl_crew.specs.Running.{AreLimits, start_room, IsFitting, IsTooSmall}

-- what the crew says of each of the two boards
abbrev pub of_ruled : Words RuledBoard RuledHand
of_ruled =
    record {
      fits = ruled.HandFits;
      put = ruled.put_of;
      taken = ruled.taken_of;
      back = ruled.back_of;
      is_sound = λ _. Unit {0};
      parts = ruled.parts_of;
      share = ruled.share_of;
      puts = ruled.puts_of;
      takes = ruled.takes_of;
    }

abbrev pub of_steal : Words StealBoard StealHand
of_steal =
    record {
      fits = steal.HandFits;
      put = steal.put_of;
      taken = steal.taken_of;
      back = steal.back_of;
      is_sound = steal.IsBoard;
      parts = steal.parts_of;
      share = λ _. 1;
      puts = steal.puts_of;
      takes = steal.takes_of;
    }

-- the store that the workers share, whichever board they have
abbrev pub store_in : BoardCrew → SharedStore
store_in (Ruled crew) = crew.store
store_in (Steal crew) = crew.store

-- the workers have done nothing, and each reads at most so many nodes to try one
abbrev pub AreGathered : ℕ → BoardCrew → Type 0
AreGathered widest (Ruled crew) = IsCrew of_ruled widest crew
AreGathered widest (Steal crew) = IsCrew of_steal widest crew

-- the program that is to run
abbrev pub program_of : Prepared → Program
program_of prepared = stores.program_of (store_in prepared.crew)

-- the limits of the run
abbrev pub limits_of : Prepared → Limits
limits_of prepared = stores.limits_of (store_in prepared.crew)

-- how many workers there are
abbrev pub workers_of : Prepared → ℕ
workers_of prepared = stores.workers_of (store_in prepared.crew)

-- the workers can run, and the first graph fits
pub record CanRun (prepared : Prepared) : Type 0 where
  pub program : prepared.deciders.program ≡ program_of prepared
  pub gathered : AreGathered prepared.deciders.widest prepared.crew
  pub within : AreLimits (limits_of prepared)
  pub fits : IsFitting (limits_of prepared) (program_of prepared)

-- all is there that so many workers need to run this program within these limits
pub record IsPrepared (p : Program) (within : Limits) (count : ℕ) (prepared : Prepared) : Type 0 where
  pub can : CanRun prepared
  pub program : program_of prepared ≡ p
  pub limits : limits_of prepared ≡ within
  pub workers : workers_of prepared ≡ count

-- the first graph does not fit, or memory was wanting
abbrev pub IsUnprepared : Program → Limits → Unprepared → Type 0
IsUnprepared p limits (Small q needed) = (q ≡ p) × (needed ≡ start_room p) × IsTooSmall limits p
IsUnprepared p limits Memory = Unit {0}
