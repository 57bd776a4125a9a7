-- What is known of a state, and what a commit answers.
use Rattle.std.specs.Prelude.{◌≡◌, ℕ, ◌+◌, ◌<◌, ◌≤◌, List, [], ◌∷◌, ◌++◌, length, All, Option, Some, None}
use Rattle.dactl_model.specs.declared.graph.NodeId.{NodeId}
use Rattle.dactl_model.specs.declared.graph.Event.{Event}
use Rattle.dactl_model.specs.declared.graph.Event.TheVariants.{Fire, Note}
use Rattle.dactl_model.specs.declared.graph.Entry.{Entry}
use Rattle.dactl_model.specs.declared.graph.Room.{Room}
use Rattle.dactl_model.specs.declared.graph.Limits.{Limits}
use Rattle.dactl_model.specs.declared.graph.Graph.{Graph}
use Rattle.dactl_model.specs.declared.graph.End.{End}
use Rattle.dactl_model.specs.declared.graph.End.TheVariants.{Normal, Budget, Full as FullEnd}
use Rattle.dactl_model.specs.declared.program.Program.{Program}
use Rattle.dactl_model.specs.declared.reading.Reading.{Reading}
use Rattle.dactl_model.specs.Programs.{IsValid}
use Rattle.dactl_model.specs.Matching.{IsActive}
use Rattle.dactl_model.specs.Steps.{Step}
use Rattle.dactl_model.specs.Ending.{IsFull, arcs_of}
use Rattle.dactl_model.specs.Acts.{node_of_event, HasActs}
use Rattle.dactl_store.specs.Held.{Held}
use Rattle.dactl_store.specs.Held as held
use Rattle.dactl_store.specs.Start.{IsBegun}
use Rattle.dactl_firing.specs.Fired.{HasRoomFor}
use Rattle.dactl_state.specs.Histories.{IsHistory}
use Rattle.dactl_state.specs.declared.state.Answer.{Answer}
use Rattle.dactl_state.specs.declared.state.Answer.TheVariants.{Committed, Stale, Passive, Full, Ended}
use Rattle.dactl_state.specs.Grown.{HasNotGrown, IsFirstGrown, entry_of}
use Rattle.dactl_state.specs.Ends.{EndBy}

-- what contracts see of a state: the graph with versions is `held`, and `full` is a full end that is kept
pub record Run : Type 0 where
  pub program : Program
  pub limits : Limits
  pub journal : List Entry
  pub held : Held
  pub full : Option End

-- the room that the limits give
abbrev pub room_of : Limits → Room
room_of limits = record { nodes = limits.nodes; arcs = limits.arcs }

-- the graph has no more nodes and arcs than the limits allow
pub record IsWithin (limits : Limits) (g : Graph) : Type 0 where
  pub nodes : length g.nodes ≤ limits.nodes
  pub arcs : arcs_of g ≤ limits.arcs

-- what the graph has and what is left are together just what the limits allow
pub record IsRest (limits : Limits) (g : Graph) (left : Room) : Type 0 where
  pub nodes : length g.nodes + left.nodes ≡ limits.nodes
  pub arcs : arcs_of g + left.arcs ≡ limits.arcs

-- a kept end is a full one, of a firing that is allowed at this graph, and entries are left
abbrev pub IsKeptEnd : Program → Limits → List Entry → Graph → Option End → Type 0
IsKeptEnd p limits journal g None = Unit {0}
IsKeptEnd p limits journal g (Some Normal) = ⊥
IsKeptEnd p limits journal g (Some Budget) = ⊥
IsKeptEnd p limits journal g (Some (FullEnd n r needed left)) =
    (length journal < limits.budget) × IsFull p limits g n r needed left

-- what holds of every state: the journal leads from the program's start to the graph, versions are those
-- of the definition, the entries are within the budget, nodes and arcs within the limits, and a kept end
-- is one of this graph
pub record IsCourse (r : Run) : Type 0 where
  pub valid : IsValid r.program
  pub run : IsHistory r.program r.journal r.held
  pub few : length r.journal ≤ r.limits.budget
  pub room : r.held.room ≡ room_of r.limits
  pub store : held.IsValid r.held
  pub full : IsKeptEnd r.program r.limits r.journal r.held.graph r.full
  pub within : IsWithin r.limits r.held.graph

-- a state before its first entry
pub record IsFirst (p : Program) (limits : Limits) (r : Run) : Type 0 where
  pub program : r.program ≡ p
  pub limited : r.limits ≡ limits
  pub journal : r.journal ≡ []
  pub begun : IsBegun p.start (room_of limits) r.held
  pub full : r.full ≡ None

-- the end of the state is this, or there is none
abbrev pub EndOf : Run → Option End → Type 0
EndOf r e = EndBy r.held.graph (length r.journal) r.limits.budget r.full e

-- there is no end, and the event's node is active
pub record IsOpen (r : Run) (event : Event) : Type 0 where
  pub none : EndOf r None
  pub active : IsActive r.held.graph (node_of_event event)

-- there is room for what the event makes
abbrev pub HasRoom : Run → Event → Type 0
HasRoom r (Fire n rule) = HasRoomFor r.program rule r.held
HasRoom r (Note n) = Unit {0}

-- there was room for the event, which is a step from the one graph to the other; the journal has one entry
-- more, that of the event, and the list has the nodes that this entry made active
pub record IsStepped (old new : Run) (event : Event) (worker : ℕ) (woken : List NodeId) : Type 0 where
  pub room : HasRoom old event
  pub program : new.program ≡ old.program
  pub limits : new.limits ≡ old.limits
  pub full : new.full ≡ old.full
  pub journal : new.journal ≡ old.journal ++ entry_of worker event ∷ []
  pub step : Step old.program old.held.graph event new.held.graph
  pub acts : HasActs old.program new.journal (length new.journal) woken

-- what a commit of the event with these readings does to the state, and what it answers: the cases are
-- tried in this order, so each of them says that those before it do not hold
abbrev pub Commits : Run → Run → Event → List Reading → ℕ → List NodeId → Answer → Type 0
Commits old new event rs worker woken (Ended e) = EndOf old (Some e) × (new ≡ old) × (woken ≡ [])
Commits old new event rs worker woken Passive =
    EndOf old None × (IsActive old.held.graph (node_of_event event) → ⊥) × (new ≡ old) × (woken ≡ [])
Commits old new event rs worker woken (Stale node was now) =
    IsOpen old event × ((r : Reading) × (r.node ≡ node) × (r.version ≡ was) × IsFirstGrown old.held rs r now)
    × (new ≡ old) × (woken ≡ [])
Commits old new event rs worker woken (Full node rule needed left) =
    IsOpen old event × All (HasNotGrown old.held) rs × (event ≡ Fire node rule)
    × IsFull old.program old.limits old.held.graph node rule needed left
    × (new ≡ record old { full = Some (FullEnd node rule needed left) }) × (woken ≡ [])
Commits old new event rs worker woken Committed =
    IsOpen old event × All (HasNotGrown old.held) rs × IsStepped old new event worker woken

-- the answer to an event that is not tried, whoever asks: the state stays, and no node becomes active
abbrev pub Refuses : Run → Event → List Reading → Answer → Type 0
Refuses r event rs answer = (worker : ℕ) → Commits r r event rs worker [] answer

-- an event may be tried: there is no end, its node is active, and no reading has grown
pub record IsCurrent (r : Run) (event : Event) (rs : List Reading) : Type 0 where
  pub free : IsOpen r event
  pub grown : All (HasNotGrown r.held) rs

-- a full answer tells exactly what is left
abbrev pub TellsRest : Run → Answer → Type 0
TellsRest r (Ended e) = Unit {0}
TellsRest r Passive = Unit {0}
TellsRest r (Stale node was now) = Unit {0}
TellsRest r (Full node rule needed left) = IsRest r.limits r.held.graph left
TellsRest r Committed = Unit {0}
