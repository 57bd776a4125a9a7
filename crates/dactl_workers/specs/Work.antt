-- What a worker needs before it works, and what it has done after it.
use Rattle.std.specs.Prelude.{◌≡◌, ℕ, ◌≤◌, List, IsSomeAnd, Some}
use Rattle.dactl_model.specs.declared.graph.NodeId.{NodeId}
use Rattle.dactl_model.specs.Rooms.{Observed, NodeList}
use Rattle.dactl_shared.specs.declared.store.SharedStore.{SharedStore}
use Rattle.dactl_shared.specs.declared.store.WorkerSeat.{WorkerSeat}
use Rattle.dactl_shared.specs.Endings.{HasSeenEnd}
use Rattle.dactl_shared.specs.Stores.{WorksFor, seen_of, program_of, limits_of}
use Rattle.dactl_workers.specs.declared.report.WorkerReport.{WorkerReport}
use Rattle.dactl_workers.specs.declared.worker.Worker.{Worker}
use Rattle.dactl_workers.specs.Accounts.{Account, HasDone}

-- a report of zeros
abbrev pub no_report : ℕ → WorkerReport
no_report worker = record { worker = worker; commits = 0; offered = 0; refused = 0; taken = 0; stale = 0; passive = 0 }

module _ {H : Type 0} where
  -- a worker as it is made
  abbrev pub new_worker : WorkerSeat → H → Observed → NodeList → Worker H
  new_worker seat hand room woken = record { seat = seat; hand = hand; footprint = Some room; woken = woken; known = 0; report = no_report seat.number }

module _ {H : Type 0} (put taken : H → List NodeId) (back : H → ℕ) where
  -- what the worker has seen, put, taken and counted
  abbrev pub account_of : Worker H → Account
  account_of w = record {
    seen = seen_of w.seat;
    put = put w.hand;
    taken = taken w.hand;
    back = back w.hand;
    commits = w.report.commits;
    offered = w.report.offered;
    refused = w.report.refused;
    took = w.report.taken;
    stale = w.seat.stale;
    passive = w.seat.passive;
  }

module _ {H : Type 0} (fits : H → Type 0) (back : H → ℕ) (store : SharedStore) (widest : ℕ) where
  -- a new worker with a seat of this store and a hand of this board, that have counted nothing yet
  pub record IsReady (w : Worker H) : Type 0 where
    pub own : WorksFor store w.seat
    pub stale : w.seat.stale ≡ 0
    pub passive : w.seat.passive ≡ 0
    pub hand : fits w.hand
    pub is_back : back w.hand ≡ 0
    -- room for the readings of each probe, and for all nodes
    pub footprint : IsSomeAnd w.footprint (λ f. widest ≤ f.room)
    pub woken : (limits_of store).nodes ≤ w.woken.room
    pub known : w.known ≡ 0
    pub report : w.report ≡ no_report w.seat.number

module _ {H : Type 0} (fits : H → Type 0) (put taken : H → List NodeId) (back : H → ℕ) (store : SharedStore) where
  -- what a worker has done from its start to an end, which its seat has then seen
  pub record HasWorked (old new : Worker H) : Type 0 where
    pub own : WorksFor store new.seat
    pub number : new.seat.number ≡ old.seat.number
    pub hand : fits new.hand
    pub done : HasDone (program_of store) old.seat.number (account_of put taken back old) (account_of put taken back new)
    pub end : HasSeenEnd store new.seat
    -- the report names the seat, and has the seat's numbers
    pub worker : new.report.worker ≡ new.seat.number
    pub stale : new.report.stale ≡ new.seat.stale
    pub passive : new.report.passive ≡ new.seat.passive
