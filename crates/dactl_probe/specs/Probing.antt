-- A probe, as contracts see it.
use Rattle.std.specs.Prelude.{◌≡◌, ◌≢◌, ℕ, ◌<◌, ◌≤◌, ◌⊎◌, ◌↔◌, List, [], length, slice_get, Some, None, AllPairs, Contains, unwrap_or}
use Rattle.dactl_model.specs.declared.graph.NodeId.{NodeId}
use Rattle.dactl_model.specs.declared.graph.Label.{Label}
use Rattle.dactl_model.specs.declared.graph.Label.TheVariants.{Symbol, Integer, Character}
use Rattle.dactl_model.specs.declared.graph.Event.{Event}
use Rattle.dactl_model.specs.declared.reading.Reading.{Reading}
use Rattle.dactl_model.specs.declared.program.Program.{Program}
use Rattle.dactl_model.specs.Acts.{node_of_event}
use Rattle.dactl_model.specs.Readings.{reading_of, targets_of}
use Rattle.dactl_model.specs.RuleTold.{ShowsEvent}
use Rattle.dactl_decide.specs.Decisions.{Decisions}
use Rattle.dactl_probe.specs.declared.probe.Next.{Next}
use Rattle.dactl_probe.specs.declared.probe.Next.TheVariants.{Need, Done}

-- the deciders, the probe's node, the readings taken so far, the room for readings, and what comes next
pub record Probing : Type 0 where
  pub decisions : Decisions
  pub node : NodeId
  pub readings : List Reading
  pub room : ℕ
  pub next : Next

-- the most readings at a node with this label: the number of the symbol's paths, and 1 where no rule has such a root
abbrev pub most : Decisions → Label → ℕ
most d (Symbol f) = unwrap_or (slice_get d.paths f) 1
most d (Integer i) = 1
most d (Character c) = 1

-- the readings decide an event at n
abbrev pub Decides : Program → List Reading → NodeId → Type 0
Decides p rs n = (e : Event) × (node_of_event e ≡ n) × ShowsEvent p rs e

-- a node that was read has m as a target
abbrev pub IsTargetRead : List Reading → NodeId → Type 0
IsTargetRead rs m = (r : Reading) × Contains rs r × Contains (targets_of r.targets) m

-- m is not read yet; it is the probe's own node, or a target of a node that was read; and the bounds have room for its reading
pub record IsNextNode (p : Probing) (m : NodeId) : Type 0 where
  pub unread : reading_of p.readings m ≡ None
  pub place : ((p.readings ≡ []) × (m ≡ p.node)) ⊎ IsTargetRead p.readings m
  pub fewer : (r : Reading) → reading_of p.readings p.node ≡ Some r → length p.readings < most p.decisions r.label
  pub within : length p.readings < p.decisions.widest

-- what holds of each probe: it is done exactly where its readings decide an event; these are of different nodes, and no more than the bound
pub record IsProbing (p : Probing) : Type 0 where
  pub done : (p.next ≡ Done) ↔ Decides p.decisions.program p.readings p.node
  pub need : (m : NodeId) → p.next ≡ Need m → IsNextNode p m
  pub different : AllPairs (λ a b. a.node ≢ b.node) p.readings
  pub few : (r : Reading) → reading_of p.readings p.node ≡ Some r → length p.readings ≤ most p.decisions r.label
