-- What a contract sees once a node has notified those that wait for it.
use Rattle.std.proofs.Common.{◌≡◌, ◌≢◌, ℕ, zero, suc, ◌+◌, ◌<◌, Bool, true, false, not, ◌&&◌, ◌||◌, cond, eqb, List, [], ◌∷◌, length, map, count_by, refl, sym, ap, ◌∙◌, arith, inl, inr}
use Rattle.std.specs.List.{slice_get}
use Rattle.std.proofs.lemmas.Bool.{eqb-true, eqb-false, eq-eqb, ne_eqb, cases_Bool}
use Rattle.dactl_active.specs.Ring.{has}
use Rattle.dactl_arcs.specs.declared.lists.ArcRecord.{ArcRecord}
use Rattle.dactl_arcs.specs.Pool.{Pool, targets}
use Rattle.dactl_arcs.specs.Moves.{idle}
use Rattle.dactl_arcs.specs.Moves as moves
use Rattle.dactl_model.specs.declared.graph.NodeId.{NodeId}
use Rattle.dactl_model.specs.declared.graph.Mark.{Mark}
use Rattle.dactl_model.specs.declared.graph.Mark.TheVariants.{Idle}
use Rattle.dactl_model.specs.declared.graph.Node.{Node}
use Rattle.dactl_model.specs.declared.graph.Graph.{Graph}
use Rattle.dactl_model.specs.declared.graph.Room.{Room}
use Rattle.dactl_model.specs.Acts.{marks_active, active_in}
use Rattle.dactl_model.specs.Noting.{waits_for, cleared, noted_mark, noted_nodes, noted}
use Rattle.dactl_model.proofs.Counting.{count_by-map}
use Rattle.dactl_store.specs.declared.table.NodeRecord.{NodeRecord}
use Rattle.dactl_store.specs.Table.{Table, no_node, record_of, is_active}
use Rattle.dactl_store.specs.Held.{changed_at, with_mark}
use Rattle.dactl_store.specs.Layout.{arc_of, own_part, node_of, graph_of, version_of, spans_of, IsStore}
use Rattle.dactl_store.specs.Notifying.{waiting, AreNotified, numbers, IsWokenList}
use Rattle.dactl_store.proofs.Seen.{map-map, span_of, in_spans}
use Rattle.dactl_store.proofs.Counting.{count_own, count_same}
use Rattle.dactl_store.proofs.Moved.{map_alike, own_changed, IsStore-map}
use Rattle.dactl_store.proofs.Acting.{is_act}

cleared_owner_of : (b : Bool) (a : ArcRecord) → (cond b (idle a) a).owner ≡ a.owner
cleared_owner_of true a = refl
cleared_owner_of false a = refl

pub cleared_owner : (target : ℕ) (a : ArcRecord) → (moves.cleared target a).owner ≡ a.owner
cleared_owner target a = cleared_owner_of (eqb a.target target) a

cleared_waits : (b waits : Bool) → (cond b false waits) ≡ (waits && not b)
cleared_waits true true = refl
cleared_waits true false = refl
cleared_waits false true = refl
cleared_waits false false = refl

cleared_by : (b : Bool) (a : ArcRecord) → arc_of (cond b (idle a) a) ≡ record { target = record { number = a.target }; waits = a.waits && not b }
cleared_by true a = ap (λ w. record { target = record { number = a.target }; waits = w }) (cleared_waits true a.waits)
cleared_by false a = ap (λ w. record { target = record { number = a.target }; waits = w }) (cleared_waits false a.waits)

arcs_cleared : (n : NodeId) (own : List ArcRecord) → map arc_of (map (moves.cleared n.number) own) ≡ map (cleared n) (map arc_of own)
arcs_cleared n [] = refl
arcs_cleared n (a ∷ own) = let first : arc_of (moves.cleared n.number a) ≡ cleared n (arc_of a) = cleared_by (eqb a.target n.number) a in let rest = arcs_cleared n own in cc

-- the node after n has notified it, n itself aside
abbrev pub told : NodeId → Node → Node
told n node = record { label = node.label; arcs = map (cleared n) node.arcs; mark = noted_mark (count_by (waits_for n) node.arcs) node.mark }

-- n is idle first, and then all are told
told_later : (n : NodeId) (k : ℕ) (nodes : List Node) → n.number < k → map (told n) nodes ≡ noted_nodes n k nodes
told_later n k [] earlier = refl
told_later n k (node ∷ nodes) earlier =
    let other : eqb k n.number ≡ false = ne_eqb k n.number (λ e. omega arith) in
    let rest = told_later n (k + 1) nodes (omega arith) in
    rw other (ap (λ ns. told n node ∷ ns) rest)

told_all : (n : NodeId) (j k : ℕ) (nodes : List Node) → n.number ≡ k + j → map (told n) (changed_at j (λ node. record node { mark = Idle }) nodes) ≡ noted_nodes n k nodes
told_all n j k [] at = refl
told_all n zero k (node ∷ nodes) at =
    let here : eqb k n.number ≡ true = eq-eqb k n.number (omega arith) in
    let rest = told_later n (k + 1) nodes (omega arith) in
    rw here (ap (λ ns. told n (record node { mark = Idle }) ∷ ns) rest)
told_all n (suc j) k (node ∷ nodes) at =
    let other : eqb k n.number ≡ false = ne_eqb k n.number (λ e. omega arith) in
    let rest = told_all n j (k + 1) nodes (omega arith) in
    rw other (ap (λ ns. told n node ∷ ns) rest)

reordered : (p q r : Bool) → (p && (q && r)) ≡ ((q && p) && r)
reordered true true r = refl
reordered true false r = refl
reordered false true r = refl
reordered false false r = refl

-- the mark at a place, or Idle
abbrev slice_mark : List Node → ℕ → Mark
slice_mark [] n = Idle
slice_mark (node ∷ nodes) zero = node.mark
slice_mark (node ∷ nodes) (suc n) = slice_mark nodes n

or_of_false : (a b : Bool) → b ≡ false → (a || b) ≡ a
or_of_false true b none = refl
or_of_false false b none = none

pub active_in_seen : (records : List NodeRecord) (arcs : List ArcRecord) (m : ℕ) → is_active records m ≡ active_in (slice_get (map (node_of arcs) records) m)
active_in_seen [] arcs m = refl
active_in_seen (r ∷ records) arcs zero = refl
active_in_seen (r ∷ records) arcs (suc m) = active_in_seen records arcs m

active_other : (n m : ℕ) (nodes : List Node) → m ≢ n → active_in (slice_get (changed_at n (λ node. record node { mark = Idle }) nodes) m) ≡ active_in (slice_get nodes m)
active_other n m [] differ = refl
active_other zero zero (node ∷ nodes) differ = absurd (differ refl)
active_other zero (suc m) (node ∷ nodes) differ = refl
active_other (suc n) zero (node ∷ nodes) differ = refl
active_other (suc n) (suc m) (node ∷ nodes) differ = active_other n m nodes (λ e. differ (ap suc e))

idle_at : (n : ℕ) (nodes : List Node) → n < length nodes → slice_mark (changed_at n (λ node. record node { mark = Idle }) nodes) n ≡ Idle
idle_at n [] below = absurd (omega arith)
idle_at zero (node ∷ nodes) below = refl
idle_at (suc n) (node ∷ nodes) below = idle_at n nodes (omega arith)

mark_seen : (records : List NodeRecord) (arcs : List ArcRecord) (n : ℕ) → (record_of records n).mark ≡ slice_mark (map (node_of arcs) records) n
mark_seen [] arcs n = refl
mark_seen (r ∷ records) arcs zero = refl
mark_seen (r ∷ records) arcs (suc n) = mark_seen records arcs n

marks_idle : (records : List NodeRecord) (arcs : List ArcRecord) (n : ℕ) (nodes : List Node) → map (node_of arcs) records ≡ changed_at n (λ node. record node { mark = Idle }) nodes → n < length nodes → (record_of records n).mark ≡ Idle
marks_idle records arcs n nodes are below = mark_seen records arcs n ∙ ap (λ ns. slice_mark ns n) are ∙ idle_at n nodes below

module _ (nodes : Table) (arcs : Pool) (root : NodeId) (room : Room) (is : IsStore nodes arcs room) (new : Table) (more : Pool) (n : NodeId) (before : Graph)
    (changed : more.arcs ≡ map (moves.cleared n.number) arcs.arcs) (notified : AreNotified arcs.arcs n.number nodes.records new.records)
    (idled : graph_of nodes.records arcs.arcs root ≡ with_mark before n Idle) where
  spans_same : (m : ℕ) → (record_of new.records m).span ≡ (record_of nodes.records m).span
  spans_same m = ap (λ r. r.span) (notified.each m)

  pub IsStore-noted : more.changed ≡ arcs.changed → targets more ≡ targets arcs → more.room ≡ arcs.room → new.room ≡ nodes.room → IsStore new more room
  IsStore-noted same_changes same_targets same_room same_nodes =
      IsStore-map nodes arcs root room is new more (moves.cleared n.number) (cleared_owner n.number) changed notified.long spans_same (ap length same_changes) same_targets same_room same_nodes

  -- along how many of its own arcs a node waits
  waiting_own : (m : ℕ) → m < length nodes.records → waiting arcs.arcs n.number m ≡ count_by (waits_for n) (map arc_of (own_part arcs.arcs (record_of nodes.records m).span))
  waiting_own m below =
      let q : ArcRecord → Bool = λ a. a.waits && eqb a.target n.number in
      count_same (λ a. eqb a.target n.number && (a.waits && eqb a.owner m)) (λ a. q a && eqb a.owner m) (λ a. reordered (eqb a.target n.number) a.waits (eqb a.owner m)) arcs.arcs
      ∙ count_own q m m 0 0 (spans_of nodes.records) arcs.arcs arcs.arcs is.laid refl (omega arith) (in_spans nodes arcs root room is m below)
      ∙ ap (λ s. count_by q (own_part arcs.arcs s)) (sym (span_of nodes.records m))
      ∙ sym (count_by-map q (waits_for n) arc_of (λ a. refl) (own_part arcs.arcs (record_of nodes.records m).span))

  node_told : (m : ℕ) → m < length nodes.records → node_of more.arcs (record_of new.records m) ≡ told n (node_of arcs.arcs (record_of nodes.records m))
  node_told m below =
      let label : (record_of new.records m).label ≡ (record_of nodes.records m).label = ap (λ r. r.label) (notified.each m) in
      let mark : (record_of new.records m).mark ≡ noted_mark (count_by (waits_for n) (map arc_of (own_part arcs.arcs (record_of nodes.records m).span))) (record_of nodes.records m).mark =
      ap (λ r. r.mark) (notified.each m) ∙ ap (λ c. noted_mark c (record_of nodes.records m).mark) (waiting_own m below) in
      let own : map arc_of (own_part more.arcs (record_of new.records m).span) ≡ map (cleared n) (map arc_of (own_part arcs.arcs (record_of nodes.records m).span)) =
      ap (map arc_of) (own_changed nodes arcs root room is new more (moves.cleared n.number) (cleared_owner n.number) changed notified.long spans_same m) ∙ arcs_cleared n (own_part arcs.arcs (record_of nodes.records m).span) in
      cc

  pub graph_noted : graph_of new.records more.arcs root ≡ noted before n
  graph_noted =
      let all : map (node_of more.arcs) new.records ≡ noted_nodes n 0 before.nodes =
      map_alike (node_of more.arcs) (λ r. told n (node_of arcs.arcs r)) no_node new.records nodes.records notified.long node_told
      ∙ sym (map-map (node_of arcs.arcs) (told n) nodes.records)
      ∙ ap (λ g. map (told n) g.nodes) idled
      ∙ told_all n n.number 0 before.nodes (omega arith) in
      let at_root : root ≡ before.root = ap (λ g. g.root) idled in
      cc

  pub versions_noted : more.changed ≡ arcs.changed → map (version_of more.changed) new.records ≡ map (version_of arcs.changed) nodes.records
  versions_noted same_changes =
      map_alike (version_of more.changed) (version_of arcs.changed) no_node new.records nodes.records notified.long (λ m below.
      ap (λ changes. version_of changes (record_of new.records m)) same_changes ∙ ap (version_of arcs.changed) (notified.each m))

  -- the list of those that became active
  module _ (list : List NodeId) (woken : IsWokenList nodes.records new.records list) (there : n.number < length before.nodes) where
    n_idle : (record_of nodes.records n.number).mark ≡ Idle
    n_idle = marks_idle nodes.records arcs.arcs n.number before.nodes (ap (λ g. g.nodes) idled) there

    pub acts_listed : (m : ℕ) → has (numbers list) m ≡ is_act before n.number m (active_in (slice_get (graph_of new.records more.arcs root).nodes m))
    acts_listed m =
        let after = active_in_seen new.records more.arcs m in
        elim (cases_Bool (eqb m n.number)) [
          | inl same ↦
              let e : m ≡ n.number = eqb-true m n.number same in
              let passive : is_active new.records m ≡ false = ap (is_active new.records) e ∙ ap (λ r. marks_active r.mark) (notified.each n.number) ∙ ap (λ mark. marks_active (noted_mark (waiting arcs.arcs n.number n.number) mark)) n_idle in
              woken.members m ∙ ap (λ b. b && not (is_active nodes.records m)) passive ∙ sym (ap (is_act before n.number m) (sym after ∙ passive))
          | inr other ↦
              let first : is_active nodes.records m ≡ active_in (slice_get before.nodes m) = active_in_seen nodes.records arcs.arcs m ∙ ap (λ g. active_in (slice_get g.nodes m)) idled ∙ active_other n.number m before.nodes (eqb-false m n.number other) in
              woken.members m ∙ ap (λ b. is_active new.records m && not b) first
              ∙ ap (λ b. is_active new.records m && b) (sym (or_of_false (not (active_in (slice_get before.nodes m))) (eqb m n.number) other))
              ∙ ap (is_act before n.number m) after
        ]
