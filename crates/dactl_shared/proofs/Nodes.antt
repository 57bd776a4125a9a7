-- Which nodes a seat may read: those of the graph after what it has seen.
use Rattle.std.proofs.Common.{◌≡◌, ℕ, ◌+◌, ◌<◌, ◌≤◌, Bool, true, false, if◌then◌else◌, refl, not, ◌&&◌, ◌||◌, ◌==◌, List, [], ◌∷◌, ◌++◌, length, map, take, sym, ap, ◌∙◌, subst, All, Option, Some, None, IfSome, MatchOption, slice_get, inl, inr, arith}
use Rattle.std.proofs.lemmas.List.{take_all}
use Rattle.std.proofs.lemmas.List.Elements.{All-nil, All-cons, All-map, All-same, All-weaker}
use Rattle.std.proofs.lemmas.Option.{slice_get_cases}
use Rattle.dactl_model.specs.declared.graph.NodeId.{NodeId}
use Rattle.dactl_model.specs.declared.graph.Arc.{Arc}
use Rattle.dactl_model.specs.declared.graph.Node.{Node}
use Rattle.dactl_model.specs.declared.graph.Graph.{Graph}
use Rattle.dactl_model.specs.declared.graph.Event.{Event}
use Rattle.dactl_model.specs.declared.graph.Entry.{Entry}
use Rattle.dactl_model.specs.declared.graph.Limits.{Limits}
use Rattle.dactl_model.specs.declared.program.Program.{Program}
use Rattle.dactl_model.specs.declared.reading.Reading.{Reading}
use Rattle.dactl_model.specs.Graphs.{HasNode, IsFineNode, IsWellFormed}
use Rattle.dactl_model.specs.Programs.{IsValid}
use Rattle.dactl_model.specs.Firing.{start_of}
use Rattle.dactl_model.specs.Steps.{Reduction}
use Rattle.dactl_model.specs.Acts.{marks_active, active_in, acts_from, node_of_event}
use Rattle.dactl_model.specs.Matching.{IsActive}
use Rattle.dactl_model.specs.Ending.{IsPassive}
use Rattle.dactl_model.specs.Readings.{targets_of}
use Rattle.dactl_model.specs.Versions.{Content, content, content_read}
use Rattle.dactl_model.proofs.Pairs.{All-slice_get}
use Rattle.dactl_model.proofs.Reductions.{Reduction-split, same_reduction, reduction_keeps}
use Rattle.dactl_model.proofs.KeptFire.{begins_well_formed}
use Rattle.dactl_store.specs.Held.{IsReadingOf}
use Rattle.dactl_state.specs.declared.state.Answer.{Answer}
use Rattle.dactl_state.specs.declared.state.Answer.TheVariants.{Committed, Stale, Passive, Full, Ended}
use Rattle.dactl_state.specs.Runs.{Run, IsCourse, Commits}
use Rattle.dactl_state.proofs.Course.{active_has}
use Rattle.dactl_state.proofs.Nodes.{run_long}
use Rattle.dactl_turn.specs.declared.rule.Give.{Give}
use Rattle.dactl_turn.specs.Gives.{entries_of, StartsWith}
use Rattle.dactl_turn.proofs.Gives.{entries_of-append}
use Rattle.dactl_shared.specs.Stores.{IsStateAt, IsNodeAfter}

-- a node of the state's graph is one after its journal
pub node_known : (p : Program) (entries : List Entry) (r : Run) (n : NodeId) → IsCourse r → r.program ≡ p → r.journal ≡ entries → HasNode r.held.graph n → IsNodeAfter p entries n
node_known p entries r n course program is has =
    (r.held.graph, subst (λ (z : Program × List Entry). Reduction z.0 (start_of z.0.start) z.1 r.held.graph) (λ i. (program i, is i)) course.run.reduced, has)

-- a node that was there is there
pub node_found : (p : Program) (limits : Limits) (gs olds : List Give) (r : Run) (n : NodeId) → IsStateAt p limits gs r → StartsWith gs olds → IsNodeAfter p (entries_of olds) n → HasNode r.held.graph n
node_found p limits gs olds r n at later there = let valid = at.course.valid in let start : Graph = start_of p.start in let was = subst IsValid at.program valid in
    let is : r.journal ≡ entries_of olds ++ entries_of later.0 = at.entries ∙ (ap entries_of later.1 ∙ entries_of-append olds later.0) in
    let run : Reduction p start (entries_of olds ++ entries_of later.0) r.held.graph = subst (λ (z : Program × List Entry). Reduction z.0 (start_of z.0.start) z.1 r.held.graph) (λ i. (at.program i, is i)) at.course.run.reduced in
    let parts = Reduction-split p start r.held.graph (entries_of olds) (entries_of later.0) run in
    let same = same_reduction p start there.0 parts.0 (entries_of olds) was (begins_well_formed p was) there.1 parts.1 in
    let long = run_long p parts.0 r.held.graph (entries_of later.0) parts.2 in let has = subst (λ (z : Graph). HasNode z n) same there.2 in omega arith

-- so it stays one that may be read
pub node_stays : (p : Program) (limits : Limits) (gs olds : List Give) (r : Run) (n : NodeId) → IsStateAt p limits gs r → StartsWith gs olds → IsNodeAfter p (entries_of olds) n → IsNodeAfter p (entries_of gs) n
node_stays p limits gs olds r n at later there = node_known p (entries_of gs) r n at.course at.program at.entries (node_found p limits gs olds r n at later there)

-- an active node may be read
pub active_known : (p : Program) (entries : List Entry) (r : Run) (node : Option NodeId) → IsCourse r → r.program ≡ p → r.journal ≡ entries → MatchOption node (IsPassive r.held.graph) (IsActive r.held.graph) → IfSome node (IsNodeAfter p entries)
active_known p entries r None course program is told = tt
active_known p entries r (Some n) course program is told = node_known p entries r n course program is (active_has r.held n told)

-- the targets of a node are nodes
targets_there : (g : Graph) (n : NodeId) (targets : List NodeId) (c : Content) → IsWellFormed g → content g n ≡ Some c → c.targets ≡ targets → All (HasNode g) targets
targets_there g n targets c fine has is = elim (slice_get_cases g.nodes n.number).1 [
  | inl (node, below, at, eq) ↦
      let one : IsFineNode (length g.nodes) node = All-slice_get (IsFineNode (length g.nodes)) g.nodes n.number node fine.each at in
      let same : Some (record { label = node.label; targets = map (λ (a : Arc). a.target) node.arcs }) ≡ Some c = sym (rw at refl) ∙ has in
      let mine : map (λ (a : Arc). a.target) node.arcs ≡ targets = ap (λ (z : Option Content). (elim z [ Some d ↦ d.targets | None ↦ [] ])) same ∙ is in
      All-same (HasNode g) targets (map (λ (a : Arc). a.target) node.arcs) (sym mine) (All-map (HasNode g) (λ (a : Arc). a.target) node.arcs one.targets)
  | inr (past, none) ↦ absurd (cc)
]

-- the targets of what was read may be read
pub targets_known : (p : Program) (entries : List Entry) (r : Run) (n : NodeId) (reading : Reading) → IsCourse r → r.program ≡ p → r.journal ≡ entries → IsReadingOf r.held n reading → All (IsNodeAfter p entries) (targets_of reading.targets)
targets_known p entries r n reading course program is read =
    let fine = reduction_keeps r.program (start_of r.program.start) r.held.graph r.journal course.valid (begins_well_formed r.program course.valid) course.run.reduced in
    All-weaker (HasNode r.held.graph) (IsNodeAfter p entries) (λ m has. node_known p entries r m course program is has) (targets_of reading.targets)
    (targets_there r.held.graph n (targets_of reading.targets) (content_read reading) fine read.content refl)

all_chosen : (P : NodeId → Type 0) (b : Bool) (n : NodeId) (ns : List NodeId) → P n → All P ns → All P (if b then n ∷ ns else ns)
all_chosen P true n ns one rest = All-cons P n ns one rest
all_chosen P false n ns one rest = rest

-- what a step makes active are nodes of the graph after it
acts_there : (before : Graph) (n : NodeId) (m k : ℕ) (nodes : List Node) → k + length nodes ≤ m → All (λ (a : NodeId). a.number < m) (acts_from before n k nodes)
acts_there before n m k [] within = All-nil (λ (a : NodeId). a.number < m)
acts_there before n m k (node ∷ nodes) within =
    all_chosen (λ (a : NodeId). a.number < m) (marks_active node.mark && (not (active_in (slice_get before.nodes k)) || (k == n.number))) (record { number = k }) (acts_from before n (k + 1) nodes)
    (omega arith) (acts_there before n m (k + 1) nodes (omega arith))

-- the nodes that a commit made active may be read
pub woken_known : (p : Program) (limits : Limits) (gs : List Give) (old new : Run) (event : Event) (rs : List Reading) (w : ℕ) (woken : List NodeId) (a : Answer) → IsStateAt p limits gs new → old.program ≡ p
    → Commits old new event rs w woken a → All (IsNodeAfter p (entries_of gs)) woken
woken_known p limits gs old new event rs w woken (Ended e) at same s = All-same (IsNodeAfter p (entries_of gs)) woken [] s.2 (All-nil (IsNodeAfter p (entries_of gs)))
woken_known p limits gs old new event rs w woken Passive at same s = All-same (IsNodeAfter p (entries_of gs)) woken [] s.3 (All-nil (IsNodeAfter p (entries_of gs)))
woken_known p limits gs old new event rs w woken (Stale m was now) at same s = All-same (IsNodeAfter p (entries_of gs)) woken [] s.3 (All-nil (IsNodeAfter p (entries_of gs)))
woken_known p limits gs old new event rs w woken (Full n r needed left) at same s = All-same (IsNodeAfter p (entries_of gs)) woken [] s.5 (All-nil (IsNodeAfter p (entries_of gs)))
woken_known p limits gs old new event rs w woken Committed at same s = let acts = s.2.acts in
    let whole : take (length new.journal) new.journal ≡ entries_of gs = take_all (length new.journal) new.journal (omega arith) ∙ at.entries in
    let reduced : Reduction p (start_of p.start) (entries_of gs) acts.after = subst (λ (z : Program × List Entry). Reduction z.0 (start_of z.0.start) z.1 acts.after) (λ i. (same i, whole i)) acts.reduced_on in
    All-weaker (λ (n : NodeId). n.number < length acts.after.nodes) (IsNodeAfter p (entries_of gs)) (λ n has. (acts.after, reduced, has)) woken
    (All-same (λ (n : NodeId). n.number < length acts.after.nodes) woken (acts_from acts.before (node_of_event acts.entry.event) 0 acts.after.nodes) acts.acts
    (acts_there acts.before (node_of_event acts.entry.event) (length acts.after.nodes) 0 acts.after.nodes (omega arith)))
