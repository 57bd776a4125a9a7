-- What a contract sees once a record is written.
use Rattle.std.proofs.Common.{◌≡◌, ℕ, ◌+◌, ◌<◌, ◌≤◌, [], ◌∷◌, ◌++◌, length, set, map, refl, sym, ap, ◌∙◌, arith, subst, length-set}
use Rattle.std.proofs.lemmas.List.{length-map, length_push, map-append, map-set}
use Rattle.dactl_arcs.specs.declared.lists.ArcRecord.{ArcRecord}
use Rattle.dactl_arcs.specs.Pool.{Pool}
use Rattle.dactl_arcs.specs.Kept.{IsKept}
use Rattle.dactl_model.specs.declared.graph.NodeId.{NodeId}
use Rattle.dactl_model.specs.declared.graph.Mark.{Mark}
use Rattle.dactl_model.specs.declared.graph.Room.{Room}
use Rattle.dactl_store.specs.declared.table.NodeRecord.{NodeRecord}
use Rattle.dactl_store.specs.Table.{Table, no_node, record_of, ring_with, marked, longer}
use Rattle.dactl_store.specs.Held.{changed_at, with_mark, with_arcs}
use Rattle.dactl_store.specs.Layout.{arc_of, own_part, node_of, graph_of, greatest, version_of, held_of, AreLaid, spans_of, IsStore}
use Rattle.dactl_store.proofs.Lists.{map-changed, map-set_same, map_same}
use Rattle.dactl_store.proofs.Laying.{AreLaid-push, AreLaid-more, own_part-push, own_part-more, last_ends}
use Rattle.dactl_store.proofs.Seen.{span_of, span_within}
use Rattle.dactl_store.proofs.Versions.{greatest_zero}

-- the table after a record is written
abbrev pub table_set : Table → ℕ → NodeRecord → Table
table_set nodes n written = record { records = set nodes.records n written; active = ring_with written.mark nodes.active n; room = nodes.room }

-- the table after a record is added
abbrev pub table_push : Table → NodeRecord → Table
table_push nodes added = record { records = nodes.records ++ added ∷ []; active = ring_with added.mark nodes.active (length nodes.records); room = nodes.room }

-- the table after a record that keeps its mark is written
abbrev pub table_kept : Table → ℕ → NodeRecord → Table
table_kept nodes n written = record nodes { records = set nodes.records n written }

module _ (nodes : Table) (arcs : Pool) (root : NodeId) (room : Room) (is : IsStore nodes arcs room) where
  pub IsStore-set : (n : ℕ) (written : NodeRecord) → written.span ≡ (record_of nodes.records n).span → IsStore (table_set nodes n written) arcs room
  IsStore-set n written same = record {
    nodes_room = is.nodes_room;
    nodes_few = omega (arith, length-set nodes.records n written, is.nodes_few);
    targets = is.targets;
    arcs_room = is.arcs_room;
    fits = is.fits;
    few = is.few;
    changes = is.changes;
    laid = subst (λ spans. AreLaid 0 0 spans arcs.arcs) (sym (map-set_same (λ r. r.span) nodes.records n no_node written same)) is.laid;
  }

  pub marked_seen : (n : NodeId) (mark : Mark) → n.number < length nodes.records
      → held_of (table_set nodes n.number (marked mark (record_of nodes.records n.number))) arcs root room
      ≡ record (held_of nodes arcs root room) { graph = with_mark (graph_of nodes.records arcs.arcs root) n mark; active = ring_with mark nodes.active n.number }
  marked_seen n mark below =
      let written : NodeRecord = marked mark (record_of nodes.records n.number) in
      let seen : map (node_of arcs.arcs) (set nodes.records n.number written) ≡ changed_at n.number (λ node. record node { mark = mark }) (map (node_of arcs.arcs) nodes.records) =
      map-changed (node_of arcs.arcs) (λ node. record node { mark = mark }) nodes.records n.number no_node written below refl in
      let versions : map (version_of arcs.changed) (set nodes.records n.number written) ≡ map (version_of arcs.changed) nodes.records = map-set_same (version_of arcs.changed) nodes.records n.number no_node written refl in
      cc

  pub IsStore-push : (added : NodeRecord) → length nodes.records < nodes.room → added.span.first ≡ length arcs.arcs → added.span.count ≡ 0 → IsStore (table_push nodes added) arcs room
  IsStore-push added free first none = record {
    nodes_room = is.nodes_room;
    nodes_few = omega (arith, length_push nodes.records added);
    targets = is.targets;
    arcs_room = is.arcs_room;
    fits = is.fits;
    few = is.few;
    changes = is.changes;
    laid = subst (λ spans. AreLaid 0 0 spans arcs.arcs) (sym (map-append (λ r. r.span) nodes.records (added ∷ []))) (AreLaid-push 0 0 (spans_of nodes.records) arcs.arcs added.span is.laid (omega arith) none);
  }

  -- the last node gets an arc
  module _ (more : Pool) (n : ℕ) (added : ArcRecord) (grown : more.arcs ≡ arcs.arcs ++ added ∷ []) (later : more.changed ≡ arcs.changed ++ 0 ∷ []) (newest : more.newest ≡ arcs.newest) (kept : IsKept arcs more)
      (last : n + 1 ≡ length nodes.records) (owner : added.owner ≡ n) where
    before : NodeRecord
    before = record_of nodes.records n

    pub IsStore-more : (written : NodeRecord) → written.span.first ≡ (record_of nodes.records n).span.first → written.span.count ≡ (record_of nodes.records n).span.count + 1 → written.span.count ≤ 16
        → length arcs.arcs < arcs.room → IsStore (table_kept nodes n written) more room
    IsStore-more written first count few free = record {
      nodes_room = is.nodes_room;
      nodes_few = omega (arith, length-set nodes.records n written, is.nodes_few);
      targets = kept.targets ∙ is.targets;
      arcs_room = kept.room ∙ is.arcs_room;
      fits = is.fits;
      few = omega (arith, ap length grown, length_push arcs.arcs added, kept.room);
      changes = omega (arith, ap length grown, length_push arcs.arcs added, ap length later, length_push arcs.changed 0, is.changes);
      laid = let span = span_of nodes.records n in
          subst (λ spans. AreLaid 0 0 spans more.arcs) (sym (map-set (λ r. r.span) nodes.records n written))
          (subst (AreLaid 0 0 (set (spans_of nodes.records) n written.span)) (sym grown)
          (AreLaid-more 0 0 (spans_of nodes.records) arcs.arcs n written.span added is.laid (last ∙ sym (length-map nodes.records (λ r. r.span))) (omega arith) (first ∙ ap (λ s. s.first) span) (count ∙ ap (λ s. s.count + 1) span) few));
    }

    -- an arc that is added changes no version
    longer_version : (written : NodeRecord) → written ≡ longer (record_of nodes.records n) → (record_of nodes.records n).span.first + (record_of nodes.records n).span.count ≡ length arcs.arcs
        → version_of (arcs.changed ++ 0 ∷ []) written ≡ version_of (arcs.changed ++ 0 ∷ []) (record_of nodes.records n)
    longer_version written is_written ends =
        let r = record_of nodes.records n in
        ap (version_of (arcs.changed ++ 0 ∷ [])) is_written
        ∙ ap (greatest r.version) (own_part-more arcs.changed r.span (longer (record_of nodes.records n)).span 0 (omega (arith, is.changes, ends)) refl refl)
        ∙ greatest_zero r.version (own_part arcs.changed r.span)
        ∙ sym (ap (greatest r.version) (own_part-push arcs.changed r.span 0 (omega (arith, is.changes, ends))))

    pub more_seen : (written : NodeRecord) → written ≡ longer (record_of nodes.records n)
        → held_of (table_kept nodes n written) more root room ≡ record (held_of nodes arcs root room) { graph = with_arcs (graph_of nodes.records arcs.arcs root) (record { number = n }) (arc_of added ∷ []) }
    more_seen written is_written =
        let r = record_of nodes.records n in
        let below : n < length nodes.records = omega arith in
        let end = last_ends 0 0 (spans_of nodes.records) arcs.arcs is.laid n (last ∙ sym (length-map nodes.records (λ r. r.span))) in
        let ends : r.span.first + r.span.count ≡ length arcs.arcs = rw (span_of nodes.records n) (omega (arith, end)) in
        let own : own_part (arcs.arcs ++ added ∷ []) written.span ≡ own_part arcs.arcs r.span ++ added ∷ [] = own_part-more arcs.arcs r.span written.span added ends (ap (λ w. w.span.first) is_written) (ap (λ w. w.span.count) is_written) in
        let stays : own_part (arcs.arcs ++ added ∷ []) r.span ≡ own_part arcs.arcs r.span = own_part-push arcs.arcs r.span added (omega arith) in
        let at_end : map arc_of (own_part (arcs.arcs ++ added ∷ []) written.span) ≡ map arc_of (own_part (arcs.arcs ++ added ∷ []) r.span) ++ arc_of added ∷ [] =
        ap (map arc_of) own ∙ map-append arc_of (own_part arcs.arcs r.span) (added ∷ []) ∙ ap (λ xs. map arc_of xs ++ arc_of added ∷ []) (sym stays) in
        let label : written.label ≡ r.label = ap (λ w. w.label) is_written in
        let mark : written.mark ≡ r.mark = ap (λ w. w.mark) is_written in
        let at_place : node_of (arcs.arcs ++ added ∷ []) written ≡ record (node_of (arcs.arcs ++ added ∷ []) r) { arcs = map arc_of (own_part (arcs.arcs ++ added ∷ []) r.span) ++ arc_of added ∷ [] } = cc in
        let changed : map (node_of (arcs.arcs ++ added ∷ [])) (set nodes.records n written) ≡ changed_at n (λ node. record node { arcs = node.arcs ++ arc_of added ∷ [] }) (map (node_of (arcs.arcs ++ added ∷ [])) nodes.records) =
        map-changed (node_of (arcs.arcs ++ added ∷ [])) (λ node. record node { arcs = node.arcs ++ arc_of added ∷ [] }) nodes.records n no_node written below at_place in
        let others : map (node_of (arcs.arcs ++ added ∷ [])) nodes.records ≡ map (node_of arcs.arcs) nodes.records =
        map_same (node_of (arcs.arcs ++ added ∷ [])) (node_of arcs.arcs) no_node nodes.records (λ i within.
        ap (λ own. record { label = (record_of nodes.records i).label; arcs = map arc_of own; mark = (record_of nodes.records i).mark })
        (own_part-push arcs.arcs (record_of nodes.records i).span added (span_within nodes arcs root room is i within))) in
        let versions : map (version_of more.changed) (set nodes.records n written) ≡ map (version_of arcs.changed) nodes.records =
        ap (λ changed. map (version_of changed) (set nodes.records n written)) later
        ∙ map-set_same (version_of (arcs.changed ++ 0 ∷ [])) nodes.records n no_node written (longer_version written is_written ends)
        ∙ map_same (version_of (arcs.changed ++ 0 ∷ [])) (version_of arcs.changed) no_node nodes.records (λ i within.
        ap (greatest (record_of nodes.records i).version) (own_part-push arcs.changed (record_of nodes.records i).span 0 (omega (arith, span_within nodes arcs root room is i within, is.changes)))) in
        let graph : map (node_of more.arcs) (set nodes.records n written) ≡ changed_at n (λ node. record node { arcs = node.arcs ++ arc_of added ∷ [] }) (map (node_of arcs.arcs) nodes.records) =
        ap (λ all. map (node_of all) (set nodes.records n written)) grown ∙ changed ∙ ap (changed_at n (λ node. record node { arcs = node.arcs ++ arc_of added ∷ [] })) others in
        cc
