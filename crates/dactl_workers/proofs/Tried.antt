-- A node that was tried: what the answer to its commit tells.
use Rattle.std.proofs.Common.{◌≡◌, inl, inr, ⊎_elim, ℕ, ◌+◌, ◌<◌, ◌≤◌, List, [], ◌∷◌, ◌++◌, take, refl, sym, ap, ◌∙◌, subst, append-nil, length, eq-eqb, ne_eqb, Option, Some, None, All, Bool, true, false, not, ◌&&◌, ◌||◌, ◌==◌, slice_get, if◌then◌else◌, arith}
use mathlib.Core.Logic.{dite}
use native.Mathlib.Decide.{ℕ_discrete}
use Rattle.std.proofs.lemmas.List.{take_all}
use Rattle.std.proofs.lemmas.Option.{slice_get_within}
use Rattle.std.proofs.lemmas.List.Elements.{All-weaker, All-cons}
use Rattle.dactl_model.specs.declared.graph.NodeId.{NodeId}
use Rattle.dactl_model.specs.declared.graph.Node.{Node}
use Rattle.dactl_model.specs.declared.graph.Graph.{Graph}
use Rattle.dactl_model.specs.declared.graph.Event.{Event}
use Rattle.dactl_model.specs.declared.graph.Entry.{Entry}
use Rattle.dactl_model.specs.declared.graph.Room.{Room}
use Rattle.dactl_model.specs.declared.graph.Limits.{Limits}
use Rattle.dactl_model.specs.declared.graph.End.{End}
use Rattle.dactl_model.specs.declared.graph.End.TheVariants.{Normal, Budget, Full as FullEnd}
use Rattle.dactl_model.specs.declared.program.Program.{Program}
use Rattle.dactl_model.specs.declared.reading.Reading.{Reading}
use Rattle.dactl_model.specs.Programs.{IsValid}
use Rattle.dactl_model.specs.Matching.{IsActive}
use Rattle.dactl_model.specs.Firing.{start_of}
use Rattle.dactl_model.specs.Steps.{Reduction}
use Rattle.dactl_model.specs.Acts.{node_of_event, marks_active, active_in, acts_from, HasActs}
use Rattle.dactl_model.specs.Versions.{IsVersion}
use Rattle.dactl_model.proofs.Pairs.{All-slice_get}
use Rattle.dactl_model.proofs.Reductions.{same_reduction}
use Rattle.dactl_model.proofs.KeptFire.{begins_well_formed}
use Rattle.dactl_turn.specs.declared.rule.Give.{Give}
use Rattle.dactl_turn.specs.Gives.{listed, entries_of, StartsWith, give}
use Rattle.dactl_turn.proofs.Gives.{entries_of-snoc, entries_of-append}
use Rattle.dactl_state.specs.declared.state.Answer.{Answer}
use Rattle.dactl_state.specs.declared.state.Answer.TheVariants.{Committed, Stale, Passive, Full, Ended}
use Rattle.dactl_state.specs.Grown.{entry_of, IsFirstGrown}
use Rattle.dactl_state.specs.Runs.{Run, EndOf}
use Rattle.dactl_shared.specs.declared.store.SharedStore.{SharedStore}
use Rattle.dactl_shared.specs.declared.store.WorkerSeat.{WorkerSeat}
use Rattle.dactl_shared.specs.Counts.{entry_by, raised, stale_by, passive_by}
use Rattle.dactl_shared.specs.Endings.{HasSeenEnd, TellsEnd}
use Rattle.dactl_shared.specs.Stores.{WorksFor, gives_of, seen_of, mine_of, program_of, limits_of, SameCounts, MayRead, IsStateAt, TakesStep}
use Rattle.dactl_workers.specs.Accounts.{LastActs}
use Rattle.dactl_workers.specs.Turns.{IsActiveAfter, IsReadSince, HasLooked, Tells}
use Rattle.dactl_shared.proofs.Later.{step_known}
use Rattle.dactl_workers.proofs.Fronts.{starts_trans, longer_than, no_shorter}

entries_start : (gs front : List Give) → StartsWith gs front → StartsWith (entries_of gs) (entries_of front)
entries_start gs front b = (entries_of b.0, ap entries_of b.1 ∙ entries_of-append front b.0)

-- the graph of a state is where its entries lead
state_run : (p : Program) (limits : Limits) (gs : List Give) (r : Run) → IsStateAt p limits gs r → Reduction p (start_of p.start) (entries_of gs) r.held.graph
state_run p limits gs r at = subst (λ (z : Program × List Entry). Reduction z.0 (start_of z.0.start) z.1 r.held.graph) (λ i. (at.program i, at.entries i)) at.course.run.reduced

state_valid : (p : Program) (limits : Limits) (gs : List Give) (r : Run) → IsStateAt p limits gs r → IsValid p
state_valid p limits gs r at = subst IsValid at.program at.course.valid

-- a node has one version after a journal
one_version : (p : Program) (journal : List Entry) (n : NodeId) (k l : ℕ) → IsVersion p journal n k → IsVersion p journal n l → k < l → ⊥
one_version p journal n k l a b lt = b.least k a.latest lt a.kept

-- a greater version shows that more was seen
risen_longer : (p : Program) (front whole : List Entry) (n : NodeId) (was now : ℕ) → IsVersion p front n was → IsVersion p whole n now → was < now → StartsWith whole front → length front < length whole
risen_longer p front whole n was now a b lt on = longer_than whole front on (λ same. one_version p whole n was now (subst (λ (z : List Entry). IsVersion p z n was) (sym same) a) b lt)

raised_most : (n : ℕ) → raised n ≤ n + 1
raised_most n = dite (ℕ_discrete n 18446744073709551615) (λ is. let q = eq-eqb n 18446744073709551615 is in rw q (omega arith)) (λ not. let q = ne_eqb n 18446744073709551615 not in rw q (omega arith))

-- no more nodes were made active than there are
acts_few : (before : Graph) (n : NodeId) (k : ℕ) (nodes : List Node) → length (acts_from before n k nodes) ≤ length nodes
acts_few before n k [] = omega arith
acts_few before n k (node ∷ nodes) = let h = acts_few before n (k + 1) nodes in grind arith

-- the seat before a node was tried, after its readings and after its commit
pub record Tried (s : SharedStore) (w g e : WorkerSeat) (event : Event) (rs : List Reading) (answer : Answer) (woken : List NodeId) : Type 0 where
  pub looked : HasLooked s w g
  pub counts : SameCounts w g
  pub own : WorksFor s e
  pub number : e.number ≡ g.number
  pub step : TakesStep s g e event rs answer woken
  pub mine : mine_of e ≡ mine_of g ++ listed (entry_by answer g.number event)
  pub stale : e.stale ≡ stale_by answer g.stale
  pub passive : e.passive ≡ passive_by answer g.passive
  pub ended : TellsEnd answer → HasSeenEnd s e
  pub since : All (IsReadSince (program_of s) (seen_of w) (seen_of g)) rs

module _ (s : SharedStore) (w g e : WorkerSeat) (event : Event) (rs : List Reading) (woken : List NodeId) where
  abbrev p : Program
  p = program_of s

  abbrev Trial : Answer → Type 0
  Trial answer = Tried s w g e event rs answer woken

  -- the entries found begin with all that was seen before
  found_on : (answer : Answer) (t : Trial answer) → StartsWith (entries_of t.step.found) (seen_of w)
  found_on answer t = starts_trans (entries_of t.step.found) (seen_of g) (seen_of w) (entries_start t.step.found (gives_of g) t.step.later) t.looked.later

  seen_at : (answer : Answer) (t : Trial answer) → seen_of e ≡ entries_of t.step.found ++ listed (entry_by answer g.number event)
  seen_at answer t = ap entries_of t.step.after ∙ entries_of-snoc t.step.found (give (entry_by answer g.number event) t.step.next.full)

  -- a commit without an entry only looks
  only_looked : (answer : Answer) → Trial answer → entry_by answer g.number event ≡ None → HasLooked s w e
  only_looked answer t none = let seen : seen_of e ≡ entries_of t.step.found = seen_at answer t ∙ (ap (λ z. entries_of t.step.found ++ listed z) none ∙ append-nil (entries_of t.step.found)) in let on = found_on answer t in record {
    own = t.own;
    number = t.number ∙ t.looked.number;
    later = (on.0, seen ∙ on.1);
    mine = t.mine ∙ (ap (λ z. mine_of g ++ listed z) none ∙ (append-nil (mine_of g) ∙ t.looked.mine));
    nodes = λ n there. step_known s g e event rs answer woken n t.step (t.looked.nodes n there);
  }

  seen_found : (answer : Answer) (t : Trial answer) → entry_by answer g.number event ≡ None → entries_of t.step.found ≡ seen_of e
  seen_found answer t none = sym (seen_at answer t ∙ (ap (λ z. entries_of t.step.found ++ listed z) none ∙ append-nil (entries_of t.step.found)))

  -- a version that has grown shows that more was seen since the choice
  grown_longer : (answer : Answer) (t : Trial answer) (r : Reading) (now : ℕ) → IsFirstGrown t.step.run.held rs r now → length (seen_of w) < length (entries_of t.step.found)
  grown_longer answer t r now grown = let i = All-slice_get (IsReadSince p (seen_of w) (seen_of g)) rs grown.place r t.since grown.at in let at = t.step.is in
      let within = slice_get_within t.step.run.held.versions r.node.number now grown.grown.0 in let long = at.course.store.versions in
      let is : IsVersion p (entries_of t.step.found) r.node now = subst (λ (z : Program × List Entry). IsVersion z.0 z.1 r.node now) (λ j. (at.program j, at.entries j)) (at.course.run.versions r.node now (omega arith) grown.grown.0) in
      let whole = starts_trans (entries_of t.step.found) (seen_of g) i.at (entries_start t.step.found (gives_of g) t.step.later) i.until in
      let more = risen_longer p i.at (entries_of t.step.found) r.node r.version now i.version is grown.grown.1 whole in let low = no_shorter i.at (seen_of w) i.after in omega arith

  -- so does a node that is no longer active
  passive_longer : (answer : Answer) (t : Trial answer) (n : NodeId) → entry_by answer g.number event ≡ None → (IsActive t.step.run.held.graph n → ⊥) → IsActiveAfter p (seen_of w) n → length (seen_of w) < length (seen_of e)
  passive_longer answer t n none not was = let l = only_looked answer t none in let at = t.step.is in let valid = state_valid p (limits_of s) t.step.found t.step.run at in
      longer_than (seen_of e) (seen_of w) l.later (λ same. not (subst (λ (z : Graph). IsActive z n)
      (same_reduction p (start_of p.start) was.0 t.step.run.held.graph (seen_of w) valid (begins_well_formed p valid) was.1
      (subst (λ (z : List Entry). Reduction p (start_of p.start) z t.step.run.held.graph) (seen_found answer t none ∙ same) (state_run p (limits_of s) t.step.found t.step.run at))) was.2))

  -- as many nodes as were made active there are
  few_woken : (answer : Answer) (t : Trial answer) → LastActs p (seen_of e) woken → length woken ≤ (limits_of s).nodes
  few_woken answer t acts = let stands = t.step.stands in let k = length (seen_of e) in let valid = state_valid p (limits_of s) (gives_of e) t.step.next stands in
      let whole : take k (seen_of e) ≡ seen_of e = take_all k (seen_of e) (omega arith) in
      let same : acts.after ≡ t.step.next.held.graph = same_reduction p (start_of p.start) acts.after t.step.next.held.graph (seen_of e) valid (begins_well_formed p valid)
      (subst (λ (z : List Entry). Reduction p (start_of p.start) z acts.after) whole acts.reduced_on) (state_run p (limits_of s) (gives_of e) t.step.next stands) in
      let few = acts_few acts.before (node_of_event acts.entry.event) 0 acts.after.nodes in let is : length woken ≡ length (acts_from acts.before (node_of_event acts.entry.event) 0 acts.after.nodes) = ap length acts.acts in
      let nodes : length acts.after.nodes ≡ length t.step.next.held.graph.nodes = ap (λ (z : Graph). length z.nodes) same in let within = stands.course.store.nodes in
      let room : t.step.next.held.room.nodes ≡ (limits_of s).nodes = ap (λ (z : Room). z.nodes) stands.course.room ∙ ap (λ (z : Limits). z.nodes) stands.limited in omega arith

  pub tells : (n : NodeId) (answer : Answer) → node_of_event event ≡ n → Trial answer → Tells s n w e woken answer
  tells n Committed is t = let c = t.step.commits in let step = c.2 in let stands = t.step.stands in let number = t.looked.number in
      let acts : LastActs p (seen_of e) woken = subst (λ (z : Program × List Entry). HasActs z.0 z.1 (length z.1) woken) (λ i. (t.step.is.program i, stands.entries i)) step.acts in
      let few : length t.step.next.journal ≤ t.step.next.limits.budget = stands.course.few in let all : length t.step.next.journal ≡ length (seen_of e) = ap length stands.entries in let most : t.step.next.limits.budget ≡ (limits_of s).budget = ap (λ (z : Limits). z.budget) stands.limited in record {
        number = t.number ∙ number;
        event = event;
        front = entries_of t.step.found;
        later = found_on Committed t;
        entry = seen_at Committed t ∙ ap (λ (k : ℕ). entries_of t.step.found ++ entry_of k event ∷ []) number;
        mine = t.mine ∙ (λ i. t.looked.mine i ++ entry_of (number i) event ∷ []);
        acts = acts;
        counts = (t.stale ∙ t.counts.0, t.passive ∙ t.counts.1);
        few_entries = omega arith;
        few_nodes = few_woken Committed t acts;
      }
  tells n (Stale m was now) is t = let c = t.step.commits in let longer = grown_longer (Stale m was now) t c.1.0 now c.1.3 in let all : length (entries_of t.step.found) ≡ length (seen_of e) = ap length (seen_found (Stale m was now) t refl) in
      let most = raised_most g.stale in let a = t.stale in let b = t.counts.0 in
      (only_looked (Stale m was now) t refl, omega arith, omega arith, t.passive ∙ t.counts.1)
  tells n Passive is t = let c = t.step.commits in let most = raised_most g.passive in let a = t.passive in let b = t.counts.1 in
      (only_looked Passive t refl, passive_longer Passive t n refl (subst (λ (m : NodeId). IsActive t.step.run.held.graph m → ⊥) is c.1), t.stale ∙ t.counts.0, omega arith)
  tells n (Full m rule needed left) is t = (only_looked (Full m rule needed left) t refl, (t.stale ∙ t.counts.0, t.passive ∙ t.counts.1), t.ended tt)
  tells n (Ended end) is t = (only_looked (Ended end) t refl, (t.stale ∙ t.counts.0, t.passive ∙ t.counts.1), t.ended tt)
