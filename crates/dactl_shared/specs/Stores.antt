-- What a shared store and the seats of its workers are to their holders, and what a turn tells.
-- All turns stand in one list of gives: a give has the entry of its turn, if it made one, and the full end that the
-- state then keeps, if any, which stays and so stands in each later give too. A seat has seen a front of that list.
use Rattle.std.specs.Prelude.{◌≡◌, ℕ, ◌+◌, List, [], ◌∷◌, ◌++◌, Contains, slice_get, Some, None}
use Rattle.dactl_model.specs.declared.graph.NodeId.{NodeId}
use Rattle.dactl_model.specs.declared.graph.Graph.{Graph}
use Rattle.dactl_model.specs.declared.graph.Event.{Event}
use Rattle.dactl_model.specs.declared.graph.Entry.{Entry}
use Rattle.dactl_model.specs.declared.graph.Limits.{Limits}
use Rattle.dactl_model.specs.declared.program.Program.{Program}
use Rattle.dactl_model.specs.declared.reading.Reading.{Reading}
use Rattle.dactl_model.specs.Graphs.{HasNode}
use Rattle.dactl_model.specs.Firing.{start_of}
use Rattle.dactl_model.specs.Steps.{Reduction}
use Rattle.dactl_model.specs.Versions.{IsShown}
use Rattle.dactl_state.specs.declared.state.Answer.{Answer}
use Rattle.dactl_state.specs.Runs.{Run, IsCourse, Commits, TellsRest}
use Rattle.dactl_turn.specs.declared.rule.Give.{Give}
use Rattle.dactl_turn.specs.declared.rule.Joined.{Joined}
use Rattle.dactl_turn.specs.declared.lock.Turn.{Turn}
use Rattle.dactl_turn.specs.declared.lock.Seat.{Seat}
use Rattle.dactl_turn.specs.Gives.{entries_of, end_of, StartsWith, by_worker, give}
use Rattle.dactl_turn.specs.Seats as seats
use Rattle.dactl_turn.specs.Seats.{IsIdle, IsSeatOf, number_of, made_of, kept_of, first_of}
use Rattle.dactl_shared.specs.Counts.{entry_by}
use Rattle.dactl_shared.specs.declared.held.Held.{Held}
use Rattle.dactl_shared.specs.declared.store.SharedStore.{SharedStore}
use Rattle.dactl_shared.specs.declared.store.WorkerSeat.{WorkerSeat}

-- the program of the state that the store was made over
abbrev pub program_of : SharedStore → Program
program_of s = (first_of s.turn).state.value.program

-- its limits
abbrev pub limits_of : SharedStore → Limits
limits_of s = (first_of s.turn).state.value.limits

-- how many workers the store was made for
abbrev pub workers_of : SharedStore → ℕ
workers_of s = s.workers

-- what is kept of the seats that were taken back, the last one first
abbrev pub rejoined : SharedStore → List Joined
rejoined s = kept_of s.maker

-- the seat is one of this store
abbrev pub WorksFor : SharedStore → WorkerSeat → Type 0
WorksFor s w = IsSeatOf s.turn w.seat

-- the gives that a seat has seen
abbrev pub gives_of : WorkerSeat → List Give
gives_of w = seats.gives_of w.seat

-- the entries in them
abbrev pub seen_of : WorkerSeat → List Entry
seen_of w = entries_of (gives_of w)

-- those of its own number
abbrev pub mine_of : WorkerSeat → List Entry
mine_of w = by_worker w.number (seen_of w)

-- what is kept of a seat that is taken back
abbrev pub joined : WorkerSeat → Joined
joined w = record { number = w.number; gives = gives_of w }

-- the store is over the same lock, with the same seats
abbrev pub SameStore : SharedStore → SharedStore → Type 0
SameStore old new = (new.turn ≡ old.turn) × (new.workers ≡ old.workers)

-- the numbers of answers Stale and Passive stay
abbrev pub SameCounts : WorkerSeat → WorkerSeat → Type 0
SameCounts old new = (new.stale ≡ old.stale) × (new.passive ≡ old.passive)

-- a store over this state for so many workers, of whom none has given a seat back
abbrev pub IsOver : Run → ℕ → SharedStore → Type 0
IsOver state workers s =
    (program_of s ≡ state.program) × (limits_of s ≡ state.limits) × (workers_of s ≡ workers) × (rejoined s ≡ [])

-- a seat at this lock that has seen and done nothing
abbrev pub IsNew : Turn Held → WorkerSeat → Type 0
IsNew t w = IsSeatOf t w.seat × (gives_of w ≡ []) × (w.stale ≡ 0) × (w.passive ≡ 0)

-- a seat of this store that has seen and done nothing
abbrev pub IsFresh : SharedStore → WorkerSeat → Type 0
IsFresh s w = WorksFor s w × (gives_of w ≡ []) × (w.stale ≡ 0) × (w.passive ≡ 0)

-- the seats are in the order of their numbers, from 1
abbrev pub AreNumbered : List WorkerSeat → Type 0
AreNumbered ws = (i : ℕ) (w : WorkerSeat) → slice_get ws i ≡ Some w → w.number ≡ i + 1

-- the seat that makes the others, after so many, itself among them; it takes no turns
pub record IsMaker (t : Turn Held) (made : ℕ) (maker : Seat Held) : Type 0 where
  pub own : IsSeatOf t maker
  pub idle : IsIdle maker
  pub first : number_of maker ≡ 0
  pub many : made_of maker ≡ made
  pub kept : kept_of maker ≡ []
  pub seen : seats.gives_of maker ≡ []

-- the state after these gives: its journal is the entries in them, and the end in them, if any, is its kept one
pub record IsStateAt (p : Program) (limits : Limits) (gs : List Give) (r : Run) : Type 0 where
  pub course : IsCourse r
  pub program : r.program ≡ p
  pub limited : r.limits ≡ limits
  pub entries : r.journal ≡ entries_of gs
  pub end : r.full ≡ end_of gs

-- after these entries there is such a node
abbrev pub IsNodeAfter : Program → List Entry → NodeId → Type 0
IsNodeAfter p entries n = (g : Graph) × Reduction p (start_of p.start) entries g × HasNode g n

-- the node may be read through the seat: it is there after what the seat has seen
abbrev pub MayRead : SharedStore → WorkerSeat → NodeId → Type 0
MayRead s w = IsNodeAfter (program_of s) (seen_of w)

-- what the seat has seen shows the reading
abbrev pub WasShown : SharedStore → WorkerSeat → Reading → Type 0
WasShown s w = IsShown (program_of s) (seen_of w)

-- a turn that adds no entry: what it tells holds of the state after the gives found, which begin with those that the
-- seat had seen; the seat has then seen them and the turn's own
pub record Looks (s : SharedStore) (old new : WorkerSeat) (Tells : Run → Type 0) : Type 0 where
  pub found : List Give
  pub later : StartsWith found (gives_of old)
  pub after : gives_of new ≡ found ++ give None (end_of found) ∷ []
  pub run : Run
  pub is : IsStateAt (program_of s) (limits_of s) found run
  pub tells : Tells run

-- a turn that commits: what it answers is what the state after the gives found answers, which begin with those that
-- the seat had seen; the seat has then seen them and the turn's own, after which the state is the next one;
-- where it is full it tells exactly what is left
pub record TakesStep (s : SharedStore) (old new : WorkerSeat) (event : Event) (readings : List Reading) (answer : Answer)
    (woken : List NodeId) : Type 0 where
  pub found : List Give
  pub later : StartsWith found (gives_of old)
  pub run : Run
  pub is : IsStateAt (program_of s) (limits_of s) found run
  pub next : Run
  pub after : gives_of new ≡ found ++ give (entry_by answer old.number event) next.full ∷ []
  pub stands : IsStateAt (program_of s) (limits_of s) (gives_of new) next
  pub commits : Commits run next event readings old.number woken answer
  pub rest : TellsRest run answer

-- the entry has the number of one of these seats
abbrev pub IsSigned : List Joined → Entry → Type 0
IsSigned js e = (j : Joined) × Contains js j × (j.number ≡ e.worker)
