-- What a state keeps, call by call.
use Rattle.std.proofs.Common.{◌≡◌, inl, inr, ℕ, ◌+◌, ◌-◌, ◌<◌, ◌≤◌, List, [], ◌∷◌, ◌++◌, take, refl, sym, ap, ◌∙◌, subst, append-nil, length, length-append, All, Option, Some, None, IsSomeAnd, get_or, lt_of_not-le, arith}
use mathlib.Core.Logic.{dite}
use native.Mathlib.Decide.{dec_le}
use Rattle.std.proofs.Math.Seq.{take-length}
use Rattle.std.proofs.lemmas.Option.{slice_get_cases, slice_get-get_or}
use Rattle.std.proofs.lemmas.List.Elements.{All-weaker}
use Rattle.dactl_model.specs.declared.graph.NodeId.{NodeId}
use Rattle.dactl_model.specs.declared.graph.Node.{Node}
use Rattle.dactl_model.specs.declared.graph.Graph.{Graph}
use Rattle.dactl_model.specs.declared.graph.Mark.TheVariants.{Active}
use Rattle.dactl_model.specs.declared.graph.Room.{Room}
use Rattle.dactl_model.specs.declared.graph.Limits.{Limits}
use Rattle.dactl_model.specs.declared.graph.Event.{Event}
use Rattle.dactl_model.specs.declared.graph.Event.TheVariants.{Fire, Note}
use Rattle.dactl_model.specs.declared.graph.Entry.{Entry}
use Rattle.dactl_model.specs.declared.graph.End.TheVariants.{Full as FullEnd}
use Rattle.dactl_model.specs.declared.program.Program.{Program}
use Rattle.dactl_model.specs.declared.reading.Reading.{Reading}
use Rattle.dactl_model.specs.Graphs.{HasNode}
use Rattle.dactl_model.specs.Programs.{IsValid}
use Rattle.dactl_model.specs.Matching.{IsActive}
use Rattle.dactl_model.specs.Noting.{noted}
use Rattle.dactl_model.specs.Firing.{start_of}
use Rattle.dactl_model.specs.Steps.{Step, MayHappen, Reduction}
use Rattle.dactl_model.specs.Acts.{node_of_event, acts_of_step, HasActs}
use Rattle.dactl_model.specs.Ending.{IsFull, room_left, arcs_of}
use Rattle.dactl_model.specs.RuleTold.{Shows}
use Rattle.dactl_model.specs.Versions.{content, IsVersion, IsShown}
use Rattle.dactl_model.proofs.Reductions.{reduction_keeps}
use Rattle.dactl_model.proofs.KeptFire.{begins_well_formed}
use Rattle.dactl_model.proofs.VersionSteps.{shown_agrees}
use Rattle.dactl_model.proofs.ReadingsTell.{shown_may_happen}
use Rattle.dactl_store.specs.Held.{Held, IsReadingOf, IsVersionAt, left_in}
use Rattle.dactl_store.specs.Held as held
use Rattle.dactl_store.specs.Start.{IsBegun}
use Rattle.dactl_store.specs.Redirecting.{IsLatest, IsVersioned}
use Rattle.dactl_firing.specs.Fired.{HasFired}
use Rattle.dactl_firing.specs.Fired as firing
use Rattle.dactl_firing.specs.declared.firing.Full.{Full as Counts}
use Rattle.dactl_state.specs.Histories.{IsHistory}
use Rattle.dactl_state.specs.Grown.{entry_of}
use Rattle.dactl_state.specs.Ends.{EndBy}
use Rattle.dactl_state.specs.Runs.{Run, IsCourse, IsKeptEnd, IsWithin, IsRest, IsStepped, IsOpen, IsCurrent, EndOf, HasRoom, room_of}
use Rattle.dactl_state.proofs.Stepping.{begun_keeps, stepped, noted_versions, acts_of_last}
use Rattle.dactl_state.proofs.Nodes.{shown_has}
use Rattle.dactl_state.proofs.NotGrown.{not_grown}

-- nodes and arcs are within the limits
within_room : (limits : Limits) (h : Held) → held.IsValid h → h.room ≡ room_of limits → IsWithin limits h.graph
within_room limits h fine room = record {
  nodes = subst (λ (z : Room). length h.graph.nodes ≤ z.nodes) room fine.nodes;
  arcs = subst (λ (z : Room). arcs_of h.graph ≤ z.arcs) room fine.arcs;
}

-- and what is left is exact
pub exact_rest : (limits : Limits) (g : Graph) (left : Room) → IsWithin limits g → left ≡ room_left limits g → IsRest limits g left
exact_rest limits g left within is =
    let n = within.nodes in let a = within.arcs in
    let nodes : left.nodes ≡ limits.nodes - length g.nodes = ap (λ (z : Room). z.nodes) is in
    let arcs : left.arcs ≡ limits.arcs - arcs_of g = ap (λ (z : Room). z.arcs) is in record { nodes = omega arith; arcs = omega arith }

-- a state begins
pub begun_course : (p : Program) (limits : Limits) (h : Held) → IsValid p → IsBegun p.start (room_of limits) h → held.IsValid h → IsCourse (record { program = p; limits = limits; journal = []; held = h; full = None })
begun_course p limits h valid begun fine = record { valid = valid; run = begun_keeps p (room_of limits) h valid begun; few = omega arith; room = begun.room; store = fine; full = tt; within = within_room limits h fine begun.room }

-- what is read is shown by the whole journal
pub read_shown : (r : Run) (n : NodeId) (rd : Reading) → IsCourse r → HasNode r.held.graph n → IsReadingOf r.held n rd → IsShown r.program r.journal rd
read_shown r n rd k has read = let whole : take (length r.journal) r.journal ≡ r.journal = take-length r.journal in record {
  prefix = r.journal;
  rest = [];
  parts = sym (append-nil r.journal);
  has = record { graph = r.held.graph; reduced = subst (λ (z : List Entry). Reduction r.program (start_of r.program.start) z r.held.graph) (sym whole) k.run.reduced; is = ap (content r.held.graph) read.node ∙ read.content };
  version = subst (λ (m : NodeId). IsVersion r.program r.journal m rd.version) (sym read.node) (k.run.versions n rd.version has read.version);
}

-- the ring turns
pub turned_course : (r : Run) (active : List ℕ) → IsCourse r → held.IsValid (record r.held { active = active }) → IsCourse (record r { held = record r.held { active = active } })
turned_course r active k fine = record { valid = k.valid; run = record { reduced = k.run.reduced; versions = k.run.versions; newest = k.run.newest }; few = k.few; room = k.room; store = fine; full = k.full; within = k.within }

-- where there is no end an entry is left
pub entry_left : (r : Run) → IsCourse r → EndOf r None → length r.journal < r.limits.budget
entry_left r k told = let few = k.few in let other = told.2 in dite (dec_le r.limits.budget (length r.journal)) (λ le. absurd (other (let e : length r.journal ≡ r.limits.budget = omega arith in e))) (λ n. lt_of_not-le n)

-- an active node is there
pub active_has : (h : Held) (n : NodeId) → IsActive h.graph n → HasNode h.graph n
active_has h n active = elim (slice_get_cases h.graph.nodes n.number).1 [
  | inl (node, below, at, is) ↦ below
  | inr (past, none) ↦ absurd (subst (λ (o : Option Node). IsSomeAnd o (λ (node : Node). node.mark ≡ Active)) none active)
]

-- the nodes of readings that the journal shows are there
pub all_there : (r : Run) (rs : List Reading) → IsCourse r → All (IsShown r.program r.journal) rs → All (λ (rd : Reading). HasNode r.held.graph rd.node) rs
all_there r rs k shown = All-weaker (IsShown r.program r.journal) (λ (rd : Reading). HasNode r.held.graph rd.node) (λ rd s. shown_has r.program r.journal r.held.graph rd k.valid k.run.reduced s) rs shown

-- the number of the next entry is greater than all versions
pub next_latest : (r : Run) → IsCourse r → IsLatest (length r.journal + 1) r.held
next_latest r k = let newest = k.run.newest in record {
  newer = omega arith;
  most = λ i d lt. let long = k.store.versions in let n : NodeId = record { number = i } in
      let here : IsVersionAt r.held n (get_or r.held.versions i d) = slice_get-get_or r.held.versions i d lt in
      let within = (k.run.versions n (get_or r.held.versions i d) (omega arith) here).within in omega arith;
}

-- what the tests for an end and for an active node tell
pub opened : (r : Run) (done : ℕ) (event : Event) (n : NodeId) → done ≡ length r.journal → EndBy r.held.graph done r.limits.budget r.full None → n ≡ node_of_event event → IsActive r.held.graph n → IsOpen r event
opened r done event n count none is active = record {
  none = subst (λ (z : ℕ). EndBy r.held.graph z r.limits.budget r.full None) count none;
  active = subst (IsActive r.held.graph) is active;
}

-- an event that readings show may happen, where they are shown by the journal and none of them has grown
pub current_may_happen : (r : Run) (event : Event) (rs : List Reading) (bindings : List NodeId) → IsCourse r → All (IsShown r.program r.journal) rs → Shows r.program rs bindings event → IsCurrent r event rs
    → MayHappen r.program r.held.graph bindings event
current_may_happen r event rs bindings k shown shows current = shown_may_happen r.program r.held.graph rs bindings event k.valid (reduction_keeps r.program (start_of r.program.start) r.held.graph r.journal k.valid (begins_well_formed r.program k.valid) k.run.reduced)
    (λ i d lt. let s = shown i d lt in let n = current.grown i d lt in shown_agrees r.program r.journal r.held.graph _ k.valid k.run.reduced s
    (not_grown r.program r.journal _ n.0 k.valid s (k.run.versions _ n.0 (shown_has r.program r.journal r.held.graph _ k.valid k.run.reduced s) n.1) n.2)) shows current.free.active

-- a full end is kept
pub full_kept : (r : Run) (n : NodeId) (rule : ℕ) (bindings : List NodeId) (h : Held) (woken : List NodeId) (counts : Counts) → IsCourse r → EndOf r None → MayHappen r.program r.held.graph bindings (Fire n rule)
    → firing.IsFull r.program rule r.held h woken counts
    → (let new : Run = record { program = r.program; limits = r.limits; journal = r.journal; held = h; full = Some (FullEnd n rule counts.needed counts.left) } in
    IsCourse new × IsFull r.program r.limits r.held.graph n rule counts.needed counts.left × (new ≡ record r { full = Some (FullEnd n rule counts.needed counts.left) }))
full_kept r n rule bindings h woken counts k none may full =
    let left_same : left_in r.held ≡ room_left r.limits r.held.graph = ap (λ (z : Room). let left : Room = record { nodes = z.nodes - length r.held.graph.nodes; arcs = z.arcs - arcs_of r.held.graph } in left) k.room in
    let f : IsFull r.program r.limits r.held.graph n rule counts.needed counts.left = record {
      rule = full.rule;
      is_rule = full.is_rule;
      allowed = may.0;
      needs = full.needed;
      has = full.left ∙ left_same;
      above = full.above;
    } in
    let with_store : Held → Run = λ (z : Held). record { program = r.program; limits = r.limits; journal = r.journal; held = z; full = Some (FullEnd n rule counts.needed counts.left) } in
    let there : IsCourse (with_store r.held) = record { valid = k.valid; run = k.run; few = k.few; room = k.room; store = k.store; full = (entry_left r k none, f); within = k.within } in
    (subst (λ (z : Held). IsCourse (with_store z)) (sym full.same) there, f, ap with_store full.same)

-- a step is entered
pub entered : (r : Run) (event : Event) (worker : ℕ) (h : Held) (after : List Entry) (woken : List NodeId) → IsCourse r → EndOf r None → Step r.program r.held.graph event h.graph → IsVersioned (length r.journal + 1) r.held h → h.newest ≤ length r.journal + 1
    → h.room ≡ r.held.room → held.IsValid h → woken ≡ acts_of_step r.held.graph event h.graph → HasRoom r event → after ≡ r.journal ++ entry_of worker event ∷ []
    → (let new : Run = record { program = r.program; limits = r.limits; journal = after; held = h; full = r.full } in IsCourse new × IsStepped r new event worker woken)
entered r event worker h after woken k none step versioned newest same_room fine acts has_room grown =
    let e : Entry = entry_of worker event in let left = entry_left r k none in
    let long : length r.journal + 1 ≡ length after = sym (ap length grown ∙ length-append r.journal (e ∷ [])) in
    let history : IsHistory r.program (r.journal ++ e ∷ []) h = stepped r.program r.journal r.held h e k.valid k.run step versioned newest in
    let made = acts_of_last r.program r.journal r.held.graph h.graph e woken k.run.reduced history.reduced acts in
    let room : h.room ≡ room_of r.limits = same_room ∙ k.room in (
      record {
        valid = k.valid;
        run = subst (λ (z : List Entry). IsHistory r.program z h) (sym grown) history;
        few = omega arith;
        room = room;
        store = fine;
        full = subst (IsKeptEnd r.program r.limits after h.graph) (sym none.0) tt;
        within = within_room r.limits h fine room;
      },
      record {
        room = has_room;
        program = refl;
        limits = refl;
        full = refl;
        journal = grown;
        step = step;
        acts = subst (λ (z : List Entry × ℕ). HasActs r.program z.0 z.1 woken) (λ i. (sym grown i, long i)) made;
      },
    )

-- a firing is entered
pub fired_course : (r : Run) (n : NodeId) (rule worker entry : ℕ) (bindings : List NodeId) (h : Held) (after : List Entry) (woken : List NodeId) → IsCourse r → EndOf r None → MayHappen r.program r.held.graph bindings (Fire n rule) → entry ≡ length r.journal + 1
    → HasFired r.program n rule entry r.held h woken → held.IsValid h → after ≡ r.journal ++ entry_of worker (Fire n rule) ∷ []
    → (let new : Run = record { program = r.program; limits = r.limits; journal = after; held = h; full = r.full } in IsCourse new × IsStepped r new (Fire n rule) worker woken)
fired_course r n rule worker entry bindings h after woken k none may number fired fine grown = let newest = fired.newest in
    entered r (Fire n rule) worker h after woken k none (may.0, fired.graph) (subst (λ (z : ℕ). IsVersioned z r.held h) number fired.versions) (omega arith) fired.room fine fired.woken fired.fits grown

-- a notification is entered
pub noted_course : (r : Run) (n : NodeId) (worker : ℕ) (h : Held) (after : List Entry) (woken : List NodeId) → IsCourse r → EndOf r None → MayHappen r.program r.held.graph [] (Note n) → h.graph ≡ noted r.held.graph n → h.versions ≡ r.held.versions
    → h.room ≡ r.held.room → h.newest ≡ r.held.newest → woken ≡ acts_of_step r.held.graph (Note n) h.graph → held.IsValid h → after ≡ r.journal ++ entry_of worker (Note n) ∷ []
    → (let new : Run = record { program = r.program; limits = r.limits; journal = after; held = h; full = r.full } in IsCourse new × IsStepped r new (Note n) worker woken)
noted_course r n worker h after woken k none may graph versions room newest acts fine grown = let before = k.run.newest in
    entered r (Note n) worker h after woken k none (may, graph) (noted_versions n (length r.journal + 1) r.held h graph versions fine.versions) (omega arith) room fine acts tt grown
