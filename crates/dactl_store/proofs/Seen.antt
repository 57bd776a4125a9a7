-- What a contract sees of the parts of a store.
use Rattle.std.proofs.Common.{◌≡◌, ℕ, zero, suc, ◌+◌, ◌-◌, ◌<◌, ◌≤◌, Bool, true, false, List, [], ◌∷◌, length, get_or, map, drop, All, sum_by, Option, Some, None, refl, sym, ap, ◌∙◌, arith, subst}
use Rattle.std.specs.List.{slice_get}
use Rattle.std.specs.Option.{IsSomeAnd, is_some, option_map}
use Rattle.std.specs.Bool.{MatchBool}
use Rattle.std.proofs.lemmas.Bool.{both_ways}
use Rattle.std.proofs.lemmas.Option.{none-some, slice_get-map}
use Rattle.std.proofs.lemmas.Bool.Decides.{nat_tests}
use Rattle.std.proofs.lemmas.List.{length-map, get_or_default, length-take}
use Rattle.std.proofs.lemmas.List.Elements.{All-map}
use Rattle.std.proofs.lemmas.List.Sums.{sum_by-cons}
use Rattle.dactl_active.specs.Ring.{has, turned}
use Rattle.dactl_active.proofs.Numbers.{has-at_front}
use Rattle.dactl_arcs.specs.declared.lists.ArcRecord.{ArcRecord}
use Rattle.dactl_arcs.specs.Pool.{Pool}
use Rattle.dactl_model.specs.declared.graph.NodeId.{NodeId}
use Rattle.dactl_model.specs.declared.graph.Mark.{Mark}
use Rattle.dactl_model.specs.declared.graph.Mark.TheVariants.{Idle, Active, Waiting}
use Rattle.dactl_model.specs.declared.graph.Room.{Room}
use Rattle.dactl_model.specs.declared.reading.Targets.{Targets}
use Rattle.dactl_model.specs.Readings.{targets_of}
use Rattle.dactl_model.specs.Graphs.{HasArity, HasPlace, HasArc}
use Rattle.dactl_model.specs.Versions.{content, content_of}
use Rattle.dactl_model.specs.Acts.{marks_active}
use Rattle.dactl_model.specs.Matching.{IsActive}
use Rattle.dactl_model.specs.Ending.{arcs_of, IsPassive}
use Rattle.dactl_store.specs.declared.table.NodeRecord.{NodeRecord}
use Rattle.dactl_store.specs.Table.{Table, no_node, record_of, is_active, IsValidTable}
use Rattle.dactl_store.specs.Held.{Held, IsValid, HasActive, IsLast, IsReadingOf, left_in}
use Rattle.dactl_store.specs.Layout.{arc_of, own_part, node_of, graph_of, version_of, held_of, spans_of, IsStore}
use Rattle.dactl_store.proofs.Laying.{no_span, laid_span, arcs_together, length-own_part, own_part_at}
use Rattle.dactl_store.proofs.Rings.{has_push}

pub is_Active : (mark : Mark) → marks_active mark ≡ true → mark ≡ Active
is_Active Idle is = absurd (both_ways false refl is)
is_Active Active is = refl
is_Active (Waiting k) is = absurd (both_ways false refl is)

active_at : (records : List NodeRecord) (arcs : List ArcRecord) (i : ℕ) → IsSomeAnd (slice_get (map (node_of arcs) records) i) (λ node. node.mark ≡ Active) → is_active records i ≡ true
active_at [] arcs i is = absurd is
active_at (r ∷ records) arcs zero is = ap marks_active is
active_at (r ∷ records) arcs (suc i) is = active_at records arcs i is

at_active : (records : List NodeRecord) (arcs : List ArcRecord) (i : ℕ) → is_active records i ≡ true → IsSomeAnd (slice_get (map (node_of arcs) records) i) (λ node. node.mark ≡ Active)
at_active [] arcs i is = absurd (both_ways false refl is)
at_active (r ∷ records) arcs zero is = is_Active r.mark is
at_active (r ∷ records) arcs (suc i) is = at_active records arcs i is

pub active_seen : (records : List NodeRecord) (arcs : List ArcRecord) (root n : NodeId) → IsActive (graph_of records arcs root) n → is_active records n.number ≡ true
active_seen records arcs root n is = active_at records arcs n.number is

pub seen_active : (records : List NodeRecord) (arcs : List ArcRecord) (root n : NodeId) → is_active records n.number ≡ true → IsActive (graph_of records arcs root) n
seen_active records arcs root n is = at_active records arcs n.number is

pub span_of : (records : List NodeRecord) (i : ℕ) → (record_of records i).span ≡ get_or (spans_of records) i no_span
span_of [] i = refl
span_of (r ∷ records) zero = refl
span_of (r ∷ records) (suc i) = span_of records i

pub has-turned : (xs : List ℕ) (m : ℕ) → has (turned xs) m ≡ has xs m
has-turned [] m = refl
has-turned (x ∷ xs) m = grind (arith, nat_tests, has_push xs x m)

pub seen_at : {X Y : Type 0} (g : X → Y) (P : Y → Type 0) (d : X) (xs : List X) (i : ℕ) → i < length xs → P (g (get_or xs i d)) → IsSomeAnd (slice_get (map g xs) i) P
seen_at g P d [] i below is = absurd (omega arith)
seen_at g P d (x ∷ xs) zero below is = is
seen_at g P d (x ∷ xs) (suc i) below is = seen_at g P d xs i (omega arith) is

pub at_seen : {X Y : Type 0} (g : X → Y) (P : Y → Type 0) (d : X) (xs : List X) (i : ℕ) → IsSomeAnd (slice_get (map g xs) i) P → P (g (get_or xs i d))
at_seen g P d [] i is = absurd is
at_seen g P d (x ∷ xs) zero is = is
at_seen g P d (x ∷ xs) (suc i) is = at_seen g P d xs i is

pub mapped_at : {X Y : Type 0} (g : X → Y) (d : X) (xs : List X) (i : ℕ) → i < length xs → slice_get (map g xs) i ≡ Some (g (get_or xs i d))
mapped_at g d [] i below = absurd (omega arith)
mapped_at g d (x ∷ xs) zero below = refl
mapped_at g d (x ∷ xs) (suc i) below = mapped_at g d xs i (omega arith)

pub map-map : {X Y Z : Type 0} (f : X → Y) (g : Y → Z) (xs : List X) → map g (map f xs) ≡ map (λ x. g (f x)) xs
map-map f g [] = refl
map-map f g (x ∷ xs) = ap (λ ys. g (f x) ∷ ys) (map-map f g xs)

sum_by-spans : (arcs : List ArcRecord) (records : List NodeRecord) → sum_by (λ node. length node.arcs) (map (node_of arcs) records) ≡ sum_by (λ span. length (own_part arcs span)) (spans_of records)
sum_by-spans arcs [] = refl
sum_by-spans arcs (r ∷ records) =
    sum_by-cons (λ node. length node.arcs) (node_of arcs r) (map (node_of arcs) records)
    ∙ omega (arith, length-map (own_part arcs r.span) arc_of, sum_by-spans arcs records)
    ∙ sym (sum_by-cons (λ span. length (own_part arcs span)) r.span (spans_of records))

module _ (nodes : Table) (arcs : Pool) (root : NodeId) (room : Room) (is : IsStore nodes arcs room) where
  pub arcs_counted : arcs_of (graph_of nodes.records arcs.arcs root) ≡ length arcs.arcs
  arcs_counted = sum_by-spans arcs.arcs nodes.records ∙ arcs_together 0 0 (spans_of nodes.records) arcs.arcs arcs.arcs is.laid refl

  pub nodes_counted : length (graph_of nodes.records arcs.arcs root).nodes ≡ length nodes.records
  nodes_counted = length-map nodes.records (node_of arcs.arcs)

  pub in_spans : (i : ℕ) → i < length nodes.records → i < length (spans_of nodes.records)
  in_spans i below = omega (arith, length-map nodes.records (λ r. r.span))

  pub span_within : (i : ℕ) → i < length nodes.records → (record_of nodes.records i).span.first + (record_of nodes.records i).span.count ≤ length arcs.arcs
  span_within i below = let laid = laid_span 0 0 (spans_of nodes.records) arcs.arcs is.laid i (in_spans i below) in rw (span_of nodes.records i) (omega (arith, laid.within))

  pub span_few : (i : ℕ) → i < length nodes.records → (record_of nodes.records i).span.count ≤ 16
  span_few i below = let laid = laid_span 0 0 (spans_of nodes.records) arcs.arcs is.laid i (in_spans i below) in rw (span_of nodes.records i) laid.few

  few_arcs : All (λ node. length node.arcs ≤ 16) (map (node_of arcs.arcs) nodes.records)
  few_arcs =
      All-map (λ node. length node.arcs ≤ 16) (node_of arcs.arcs) nodes.records (λ i d below.
      let same : get_or nodes.records i d ≡ record_of nodes.records i = get_or_default nodes.records i d no_node below in
      subst (λ r. length (node_of arcs.arcs r).arcs ≤ 16) (sym same)
      (omega (arith, length-map (own_part arcs.arcs (record_of nodes.records i).span) arc_of, length-take (record_of nodes.records i).span.count (drop (record_of nodes.records i).span.first arcs.arcs), span_few i below)))

  pub valid : IsValidTable nodes → IsValid (held_of nodes arcs root room)
  valid table = record {
    fits = omega (arith, table.fits, is.nodes_room);
    nodes = omega (arith, nodes_counted, table.few, is.nodes_room);
    arcs = omega (arith, arcs_counted, is.few, is.arcs_room);
    few = few_arcs;
    versions = length-map nodes.records (version_of arcs.changed) ∙ sym nodes_counted;
    active = λ n. (λ there. seen_active nodes.records arcs.arcs root n (sym (table.active n.number) ∙ there), λ active. table.active n.number ∙ active_seen nodes.records arcs.arcs root n active);
  }

  -- what is left beside the graph
  pub left_seen : (count len : ℕ) → count ≡ length nodes.records → len ≡ length arcs.arcs → record { nodes = room.nodes - count; arcs = room.arcs - len } ≡ left_in (held_of nodes arcs root room)
  left_seen count len counted long = let a = arcs_counted in let n = nodes_counted in cc

  -- a number below the count that a contract sees
  pub below_seen : (held : Held) → held_of nodes arcs root room ≡ held → (n : ℕ) → n < length held.graph.nodes → n < length nodes.records
  below_seen held seen n below = omega (arith, nodes_counted, ap (λ h. length h.graph.nodes) seen)

  pub last_seen : (held : Held) → held_of nodes arcs root room ≡ held → (n : NodeId) → IsLast held.graph n → n.number + 1 ≡ length nodes.records
  last_seen held seen n last = omega (arith, nodes_counted, ap (λ h. length h.graph.nodes) seen, last.last)

  -- the last node may have a further arc
  pub last_few : (held : Held) → held_of nodes arcs root room ≡ held → (n : NodeId) → IsLast held.graph n → (record_of nodes.records n.number).span.count + 1 ≤ 16
  last_few held seen n last =
      let few : IsSomeAnd (slice_get (map (node_of arcs.arcs) nodes.records) n.number) (λ node. length node.arcs < 16) = subst (λ h. IsSomeAnd (slice_get h.graph.nodes n.number) (λ node. length node.arcs < 16)) (sym seen) last.few in
      let own = (record_of nodes.records n.number).span in
      let below : n.number < length nodes.records = omega (arith, last_seen held seen n last) in
      let few_own : length (map arc_of (own_part arcs.arcs (record_of nodes.records n.number).span)) < 16 = at_seen (node_of arcs.arcs) (λ node. length node.arcs < 16) no_node nodes.records n.number few in
      omega (arith, few_own, length-map (own_part arcs.arcs own) arc_of, length-own_part arcs.arcs own (span_within n.number below))

  pub arity_seen : (n : NodeId) → n.number < length nodes.records → HasArity (graph_of nodes.records arcs.arcs root) n (record_of nodes.records n.number).span.count
  arity_seen n below =
      let own = (record_of nodes.records n.number).span in
      let few : (record_of nodes.records n.number).span.count ≡ length (map arc_of (own_part arcs.arcs (record_of nodes.records n.number).span)) =
      sym (length-map (own_part arcs.arcs own) arc_of ∙ length-own_part arcs.arcs own (span_within n.number below)) in
      seen_at (node_of arcs.arcs) (λ node. (record_of nodes.records n.number).span.count ≡ length node.arcs) no_node nodes.records n.number below few

  pub arc_seen : (n : NodeId) (place : ℕ) (found : ArcRecord) → n.number < length nodes.records → HasPlace (graph_of nodes.records arcs.arcs root) n place
      → slice_get arcs.arcs ((record_of nodes.records n.number).span.first + place) ≡ Some found → HasArc (graph_of nodes.records arcs.arcs root) n place (arc_of found)
  arc_seen n place found below there at =
      let own = (record_of nodes.records n.number).span in
      let within : place < length (map arc_of (own_part arcs.arcs (record_of nodes.records n.number).span)) = at_seen (node_of arcs.arcs) (λ node. place < length node.arcs) no_node nodes.records n.number there in
      let fits = span_within n.number below in
      let short : place < (record_of nodes.records n.number).span.count = omega (arith, within, length-map (own_part arcs.arcs own) arc_of, length-own_part arcs.arcs own fits) in
      seen_at (node_of arcs.arcs) (λ node. slice_get node.arcs place ≡ Some (arc_of found)) no_node nodes.records n.number below
      (slice_get-map arc_of (own_part arcs.arcs own) place ∙ ap (option_map arc_of) (own_part_at arcs.arcs own place found short fits at))

  -- what is read of a node
  pub content_seen : (n : NodeId) (targets : List NodeId) → n.number < length nodes.records → targets ≡ map (λ a. (arc_of a).target) (own_part arcs.arcs (record_of nodes.records n.number).span)
      → content (graph_of nodes.records arcs.arcs root) n ≡ Some (record { label = (record_of nodes.records n.number).label; targets = targets })
  content_seen n targets below are =
      let node = node_of arcs.arcs (record_of nodes.records n.number) in
      let found : slice_get (map (node_of arcs.arcs) nodes.records) n.number ≡ Some (node_of arcs.arcs (record_of nodes.records n.number)) = mapped_at (node_of arcs.arcs) no_node nodes.records n.number below in
      ap content_of found ∙ ap (λ ts. Some (record { label = (record_of nodes.records n.number).label; targets = ts })) (map-map arc_of (λ a. a.target) (own_part arcs.arcs (record_of nodes.records n.number).span) ∙ sym are)

  pub version_seen : (n : ℕ) → n < length nodes.records → slice_get (map (version_of arcs.changed) nodes.records) n ≡ Some (version_of arcs.changed (record_of nodes.records n))
  version_seen n below = mapped_at (version_of arcs.changed) no_node nodes.records n below

-- the front of the ring is active
pub front_active : (nodes : Table) (arcs : List ArcRecord) (root : NodeId) (front : ℕ) → IsValidTable nodes → slice_get nodes.active 0 ≡ Some front → IsActive (graph_of nodes.records arcs root) (record { number = front })
front_active nodes arcs root front table at = seen_active nodes.records arcs root (record { number = front }) (sym (table.active front) ∙ has-at_front nodes.active front at)

-- where the ring is empty no node is active
pub none_active : (nodes : Table) (arcs : List ArcRecord) (root : NodeId) → IsValidTable nodes → nodes.active ≡ [] → IsPassive (graph_of nodes.records arcs root)
none_active nodes arcs root table empty n active =
    let there : has nodes.active n.number ≡ true = table.active n.number ∙ active_seen nodes.records arcs root n active in
    let none : has [] n.number ≡ true = subst (λ xs. has xs n.number ≡ true) empty there in
    both_ways false refl none

is_empty : (xs : List ℕ) → None ≡ slice_get xs 0 → xs ≡ []
is_empty [] none = refl
is_empty (x ∷ xs) none = absurd (none-some x none)

pub any_seen : (nodes : Table) (arcs : List ArcRecord) (root : NodeId) (front : Option ℕ) (answer : Bool) → IsValidTable nodes → front ≡ slice_get nodes.active 0 → answer ≡ is_some front
    → MatchBool answer (HasActive (graph_of nodes.records arcs root)) (IsPassive (graph_of nodes.records arcs root))
any_seen nodes arcs root None answer table at is = rw is (none_active nodes arcs root table (is_empty nodes.active at))
any_seen nodes arcs root (Some front) answer table at is = rw is (record { number = front }, front_active nodes arcs root front table (sym at))

pub empty_ring : (nodes : Table) (front : Option ℕ) → front ≡ slice_get nodes.active 0 → front ≡ None → nodes.active ≡ []
empty_ring nodes front at none = is_empty nodes.active (sym none ∙ at)

-- the ring turns, and has the active nodes still
pub valid_turned : (nodes : Table) (arcs : Pool) (root : NodeId) (room : Room) → IsStore nodes arcs room → IsValidTable nodes → IsValid (held_of (record nodes { active = turned nodes.active }) arcs root room)
valid_turned nodes arcs root room is table =
    let before = valid nodes arcs root room is table in
    record {
      fits = before.fits;
      nodes = before.nodes;
      arcs = before.arcs;
      few = before.few;
      versions = before.versions;
      active = λ n. (λ there. (before.active n).0 (sym (has-turned nodes.active n.number) ∙ there), λ active. has-turned nodes.active n.number ∙ (before.active n).1 active);
    }

pub reading_seen : (nodes : Table) (arcs : Pool) (root : NodeId) (room : Room) → IsStore nodes arcs room → (n : NodeId) (found : NodeRecord) (targets : Targets) (version : ℕ) → n.number < length nodes.records
    → found ≡ record_of nodes.records n.number → targets_of targets ≡ map (λ a. (arc_of a).target) (own_part arcs.arcs found.span) → version ≡ version_of arcs.changed found
    → IsReadingOf (held_of nodes arcs root room) n (record { node = n; label = found.label; targets = targets; version = version })
reading_seen nodes arcs root room is n found targets version below at are is_version =
    let label : found.label ≡ (record_of nodes.records n.number).label = ap (λ x. x.label) at in
    let own : targets_of targets ≡ map (λ a. (arc_of a).target) (own_part arcs.arcs (record_of nodes.records n.number).span) = are ∙ ap (λ x. map (λ a. (arc_of a).target) (own_part arcs.arcs x.span)) at in
    record {
      node = refl;
      content = content_seen nodes arcs root room is n (targets_of targets) below own ∙ ap (λ l. Some (record { label = l; targets = targets_of targets })) (sym label);
      version = version_seen nodes arcs root room is n.number below ∙ ap Some (sym (is_version ∙ ap (version_of arcs.changed) at));
    }
