-- What one turn of a worker keeps, and what its parts tell one another. Only private functions cite these words.
use Rattle.std.specs.Prelude.{◌≡◌, ◌⊎◌, ℕ, ◌+◌, ◌*◌, ◌<◌, ◌≤◌, List, [], ◌∷◌, ◌++◌, length, All, Contains, IsSomeAnd, Option, Some}
use Rattle.dactl_model.specs.declared.graph.NodeId.{NodeId}
use Rattle.dactl_model.specs.declared.graph.Graph.{Graph}
use Rattle.dactl_model.specs.declared.graph.Event.{Event}
use Rattle.dactl_model.specs.declared.graph.Entry.{Entry}
use Rattle.dactl_model.specs.declared.program.Program.{Program}
use Rattle.dactl_model.specs.declared.reading.Reading.{Reading}
use Rattle.dactl_model.specs.Firing.{start_of}
use Rattle.dactl_model.specs.Matching.{IsActive}
use Rattle.dactl_model.specs.Steps.{Reduction}
use Rattle.dactl_model.specs.Readings.{targets_of}
use Rattle.dactl_model.specs.Versions.{IsVersion}
use Rattle.dactl_turn.specs.Gives.{StartsWith}
use Rattle.dactl_state.specs.declared.state.Answer.{Answer}
use Rattle.dactl_state.specs.declared.state.Answer.TheVariants.{Committed, Stale, Passive, Full, Ended}
use Rattle.dactl_state.specs.Grown.{entry_of}
use Rattle.dactl_shared.specs.declared.store.SharedStore.{SharedStore}
use Rattle.dactl_shared.specs.declared.store.WorkerSeat.{WorkerSeat}
use Rattle.dactl_shared.specs.Endings.{HasSeenEnd}
use Rattle.dactl_shared.specs.Stores.{WorksFor, seen_of, mine_of, program_of, limits_of, SameCounts, MayRead}
use Rattle.dactl_workers.specs.declared.worker.Worker.{Worker}
use Rattle.dactl_workers.specs.Accounts.{IsSubsequence, LastActs, HasDone}
use Rattle.dactl_workers.specs.Work.{account_of}

-- the nodes with numbers below this may be read through the seat
abbrev pub MayReadBelow : SharedStore → WorkerSeat → ℕ → Type 0
MayReadBelow s w known = (n : NodeId) → n.number < known → MayRead s w n

-- all that is below the count is below what was known before, or no greater than one of these nodes
abbrev pub IsKnownWith : ℕ → List NodeId → ℕ → Type 0
IsKnownWith known nodes count = (m : ℕ) → m < count → (m < known) ⊎ ((n : NodeId) × Contains nodes n × (m ≤ n.number))

-- a node is active after these entries
abbrev pub IsActiveAfter : Program → List Entry → NodeId → Type 0
IsActiveAfter p entries n = (g : Graph) × Reduction p (start_of p.start) entries g × IsActive g n

-- the reading was taken after the entries `start` and no later than `now`, at a moment at which its node had its version
pub record IsReadSince (p : Program) (start now : List Entry) (r : Reading) : Type 0 where
  pub at : List Entry
  pub after : StartsWith at start
  pub until : StartsWith now at
  pub version : IsVersion p at r.node r.version

-- the targets of the reading may be read through the seat
abbrev pub MayReadTargets : SharedStore → WorkerSeat → Reading → Type 0
MayReadTargets s w r = All (MayRead s w) (targets_of r.targets)

-- the seat has seen more since, and made no entry
pub record HasLooked (store : SharedStore) (old new : WorkerSeat) : Type 0 where
  pub own : WorksFor store new
  pub number : new.number ≡ old.number
  pub later : StartsWith (seen_of new) (seen_of old)
  pub mine : mine_of new ≡ mine_of old
  pub nodes : (n : NodeId) → MayRead store old n → MayRead store new n

-- the seat has made an entry, and the nodes are those that it made active
pub record HasCommitted (store : SharedStore) (old new : WorkerSeat) (woken : List NodeId) : Type 0 where
  pub number : new.number ≡ old.number
  pub event : Event
  pub front : List Entry
  pub later : StartsWith front (seen_of old)
  pub entry : seen_of new ≡ front ++ entry_of old.number event ∷ []
  pub mine : mine_of new ≡ mine_of old ++ entry_of old.number event ∷ []
  pub acts : LastActs (program_of store) (seen_of new) woken
  pub counts : SameCounts old new
  pub few_entries : length (seen_of new) ≤ (limits_of store).budget
  pub few_nodes : length woken ≤ (limits_of store).nodes

-- what the answer tells of the seat before the node n was tried and after: a stale commit shows that more was seen since,
-- and so does a passive one of a node that was active; an end that was answered was seen
abbrev pub Tells : SharedStore → NodeId → WorkerSeat → WorkerSeat → List NodeId → Answer → Type 0
Tells s n old new woken Committed = HasCommitted s old new woken
Tells s n old new woken (Stale m was now) =
    HasLooked s old new × (length (seen_of old) < length (seen_of new)) × (new.stale ≤ old.stale + 1) × (new.passive ≡ old.passive)
Tells s n old new woken Passive =
    HasLooked s old new × (IsActiveAfter (program_of s) (seen_of old) n → length (seen_of old) < length (seen_of new)) × (new.stale ≡ old.stale) × (new.passive ≤ old.passive + 1)
Tells s n old new woken (Full m rule needed left) = HasLooked s old new × SameCounts old new × HasSeenEnd s new
Tells s n old new woken (Ended e) = HasLooked s old new × SameCounts old new × HasSeenEnd s new

module _ {H : Type 0} (put taken : H → List NodeId) (back : H → ℕ) where
  -- the hand offered these nodes once each, in order, and `refused` of them were handed back
  pub record IsOffered (old new : H) (nodes : List NodeId) (refused : ℕ) : Type 0 where
    pub puts : List NodeId
    pub is_put : put new ≡ put old ++ puts
    pub among : IsSubsequence puts nodes
    pub even : length puts + refused ≡ length nodes
    pub is_back : back new ≡ back old + refused
    pub is_taken : taken new ≡ taken old

-- the worker's seat is of this store, its list has room for all nodes, and the nodes that count as known are there
pub record IsSeated {H : Type 0} (store : SharedStore) (w : Worker H) : Type 0 where
  pub own : WorksFor store w.seat
  pub woken : (limits_of store).nodes ≤ w.woken.room
  pub known : MayReadBelow store w.seat w.known
  pub worker : w.report.worker ≡ w.seat.number

-- the footprint is there, with room for each probe
abbrev pub HasFootprint : {H : Type 0} → ℕ → Worker H → Type 0
HasFootprint widest w = IsSomeAnd w.footprint (λ f. widest ≤ f.room)

-- the worker's hand is of this board, and its counts are small
pub record IsCounted {H : Type 0} (fits : H → Type 0) (back : H → ℕ) (store : SharedStore) (w : Worker H) : Type 0 where
  pub hand : fits w.hand
  pub is_back : back w.hand ≡ w.report.refused
  pub less : w.report.refused ≤ w.report.offered
  pub few : w.report.offered ≤ w.report.commits * (limits_of store).nodes
  pub some_mine : w.report.commits ≤ length (mine_of w.seat)

-- what the worker has done since, its seat being the same
pub record HasGone {H : Type 0} (put taken : H → List NodeId) (back : H → ℕ) (store : SharedStore) (old new : Worker H) : Type 0 where
  pub number : new.seat.number ≡ old.seat.number
  pub done : HasDone (program_of store) old.seat.number (account_of put taken back old) (account_of put taken back new)

-- a node that is there, and that the worker took from the board since, or that is active in what it has then seen
abbrev pub IsChosen : {H : Type 0} → SharedStore → Worker H → Worker H → NodeId → Type 0
IsChosen s old new n =
    MayRead s new.seat n × ((new.report.taken ≡ old.report.taken + 1) ⊎ IsActiveAfter (program_of s) (seen_of new.seat) n)

-- a node that the hand took since, and that was there in what the seat had seen, is the one that is tried
abbrev pub TriesTaken : {H : Type 0} → (H → List NodeId) → SharedStore → Worker H → Worker H → Option NodeId → Type 0
TriesTaken taken s old new result =
    (n : NodeId) → taken new.hand ≡ taken old.hand ++ n ∷ [] → MayRead s old.seat n → result ≡ Some n

-- the worker after a commit and its offers
abbrev pub with_offers : {H : Type 0} → Worker H → H → ℕ → ℕ → ℕ → Worker H
with_offers w hand known offers refused = record w {
  hand = hand;
  known = known;
  report = record w.report { commits = w.report.commits + 1; offered = w.report.offered + offers; refused = w.report.refused + refused };
}
