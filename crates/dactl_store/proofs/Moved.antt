-- What a contract sees once all arcs are changed alike.
use Rattle.std.proofs.Common.{◌≡◌, ◌≢◌, ℕ, zero, suc, ◌+◌, ◌<◌, ◌≤◌, Bool, true, false, not, cond, eqb, List, [], ◌∷◌, length, get_or, map, take, drop, All, Option, Some, None, refl, sym, ap, ◌∙◌, arith, subst, inl, inr}
use Rattle.std.specs.List.{list_any, slice_get}
use Rattle.std.proofs.lemmas.Bool.{eqb-true, eq-eqb, cases_Bool, both_ways, or_parts, or_from}
use Rattle.std.proofs.lemmas.List.{length-map, take-map, take-append-drop}
use Rattle.std.proofs.lemmas.List.Elements.{All-map, All-append, All-head, All-tail, All-from_recursion}
use Rattle.dactl_arcs.specs.declared.lists.ArcRecord.{ArcRecord}
use Rattle.dactl_arcs.specs.Pool.{Pool, targets}
use Rattle.dactl_arcs.specs.Moves.{moved_to, retargeted}
use Rattle.dactl_arcs.specs.Kept.{IsKept, AreBelow}
use Rattle.dactl_arcs.specs.Stamps.{changed_by}
use Rattle.dactl_model.specs.declared.graph.NodeId.{NodeId}
use Rattle.dactl_model.specs.declared.graph.Room.{Room}
use Rattle.dactl_model.specs.Firing.{redirected_arc}
use Rattle.dactl_model.specs.Versions.{Content, content}
use Rattle.dactl_store.specs.declared.table.Span.{Span}
use Rattle.dactl_store.specs.Table.{Table, no_node, record_of}
use Rattle.dactl_store.specs.Layout.{arc_of, own_part, node_of, graph_of, version_of, held_of, AreLaid, spans_of, IsStore}
use Rattle.dactl_store.specs.Redirecting.{number_pairs, sent, redirected_node, redirected, IsVersioned, IsLatest, AreNodes}
use Rattle.dactl_store.specs.Notifying.{HasOwners}
use Rattle.dactl_store.proofs.Lists.{map_same}
use Rattle.dactl_store.proofs.Seen.{map-map, content_seen, version_seen}
use Rattle.dactl_store.proofs.Versions.{any_moved, version_moved, length-changed_by}

pub drop-map : {X Y : Type 0} (f : X → Y) (n : ℕ) (xs : List X) → drop n (map f xs) ≡ map f (drop n xs)
drop-map f zero xs = refl
drop-map f (suc n) [] = refl
drop-map f (suc n) (x ∷ xs) = drop-map f n xs

pub own_part-map : (g : ArcRecord → ArcRecord) (arcs : List ArcRecord) (span : Span) → own_part (map g arcs) span ≡ map g (own_part arcs span)
own_part-map g arcs span = ap (take span.count) (drop-map g span.first arcs) ∙ take-map g span.count (drop span.first arcs)

-- two lists of which the items at each place are made alike
pub map_alike : {X Y : Type 0} (f g : X → Y) (d : X) (xs ys : List X) → length xs ≡ length ys → ((i : ℕ) → i < length ys → f (get_or xs i d) ≡ g (get_or ys i d)) → map f xs ≡ map g ys
map_alike f g d [] [] long same = refl
map_alike f g d [] (y ∷ ys) long same = absurd (omega arith)
map_alike f g d (x ∷ xs) [] long same = absurd (omega arith)
map_alike f g d (x ∷ xs) (y ∷ ys) long same =
    let first : f x ≡ g y = same 0 (omega arith) in
    let rest : map f xs ≡ map g ys = map_alike f g d xs ys (omega arith) (λ i below. same (suc i) (omega arith)) in
    cc

-- arcs that keep their owners keep their places
pub AreLaid-map : (g : ArcRecord → ArcRecord) → ((a : ArcRecord) → (g a).owner ≡ a.owner) → (k at : ℕ) (spans : List Span) (arcs : List ArcRecord) → AreLaid k at spans arcs → AreLaid k at spans (map g arcs)
AreLaid-map g owner k at [] arcs laid = ap (map g) laid
AreLaid-map g owner k at (span ∷ spans) arcs laid = (
  laid.0,
  laid.1,
  omega (arith, length-map arcs g, laid.2),
  rw (take-map g span.count arcs) (All-map (λ a. a.owner ≡ k) g (take span.count arcs) (λ i d below. owner (get_or (take span.count arcs) i d) ∙ laid.3 i d below)),
  subst (AreLaid (k + 1) (at + span.count) spans) (sym (drop-map g span.count arcs)) (AreLaid-map g owner (k + 1) (at + span.count) spans (drop span.count arcs) laid.4),
)

-- each arc is a node's
laid_owners : (k at : ℕ) (spans : List Span) (arcs : List ArcRecord) → AreLaid k at spans arcs → All (λ a. a.owner < k + length spans) arcs
laid_owners k at [] arcs laid = rw laid (All-from_recursion (λ (a : ArcRecord). a.owner < k + 0) [] tt)
laid_owners k at (span ∷ spans) arcs laid =
    let front : All (λ a. a.owner < k + length (span ∷ spans)) (take span.count arcs) = λ i d below. (let e = laid.3 i d below in omega (arith, e)) in
    let back : All (λ a. a.owner < k + length (span ∷ spans)) (drop span.count arcs) = λ i d below. (let e = laid_owners (k + 1) (at + span.count) spans (drop span.count arcs) laid.4 i d below in omega (arith, e)) in
    subst (All (λ a. a.owner < k + length (span ∷ spans))) (take-append-drop span.count arcs) (All-append (λ a. a.owner < k + length (span ∷ spans)) (take span.count arcs) (drop span.count arcs) front back)

module _ (nodes : Table) (arcs : Pool) (root : NodeId) (room : Room) (is : IsStore nodes arcs room) where
  pub owners : HasOwners nodes.records arcs.arcs
  owners = λ i d below. (let e = laid_owners 0 0 (spans_of nodes.records) arcs.arcs is.laid i d below in omega (arith, e, length-map nodes.records (λ r. r.span)))

  module _ (new : Table) (more : Pool) (g : ArcRecord → ArcRecord) (owner : (a : ArcRecord) → (g a).owner ≡ a.owner) (changed : more.arcs ≡ map g arcs.arcs) (long : length new.records ≡ length nodes.records)
      (spans : (m : ℕ) → (record_of new.records m).span ≡ (record_of nodes.records m).span) where
    pub IsStore-map : length more.changed ≡ length arcs.changed → targets more ≡ targets arcs → more.room ≡ arcs.room → new.room ≡ nodes.room → IsStore new more room
    IsStore-map same_changes same_targets same_room same_nodes = record {
      nodes_room = same_nodes ∙ is.nodes_room;
      nodes_few = omega (arith, long, same_nodes, is.nodes_few);
      targets = same_targets ∙ is.targets;
      arcs_room = same_room ∙ is.arcs_room;
      fits = is.fits;
      few = omega (arith, ap length changed, length-map arcs.arcs g, same_room, is.few);
      changes = omega (arith, ap length changed, length-map arcs.arcs g, same_changes, is.changes);
      laid = subst (λ all. AreLaid 0 0 (spans_of new.records) all) (sym changed)
          (subst (λ ss. AreLaid 0 0 ss (map g arcs.arcs)) (sym (map_alike (λ r. r.span) (λ r. r.span) no_node new.records nodes.records long (λ i below. spans i)))
          (AreLaid-map g owner 0 0 (spans_of nodes.records) arcs.arcs is.laid));
    }

    -- a node's own arcs are changed as all are
    pub own_changed : (m : ℕ) → own_part more.arcs (record_of new.records m).span ≡ map g (own_part arcs.arcs (record_of nodes.records m).span)
    own_changed m = ap (λ all. own_part all (record_of new.records m).span) changed ∙ own_part-map g arcs.arcs (record_of new.records m).span ∙ ap (λ s. map g (own_part arcs.arcs s)) (spans m)

All-at : {X Y : Type 0} (g : X → Y) (P : Y → Type 0) (d : X) (xs : List X) (i : ℕ) → i < length xs → All P (map g xs) → P (g (get_or xs i d))
All-at g P d [] i below all = absurd (omega arith)
All-at g P d (x ∷ xs) zero below all = All-head P (g x) (map g xs) all
All-at g P d (x ∷ xs) (suc i) below all = All-at g P d xs i (omega arith) (All-tail P (g x) (map g xs) all)

-- where the pairs send a node, by numbers
pub sent_number : (moves : List (NodeId × NodeId)) (n : NodeId) → sent moves n ≡ record { number = moved_to (number_pairs moves) n.number }
sent_number [] n = refl
sent_number (move ∷ moves) n = elim (cases_Bool (eqb move.0.number n.number)) [
  | inl same ↦ rw same refl
  | inr other ↦ rw other (sent_number moves n)
]

arc_sent : (moves : List (NodeId × NodeId)) (a : ArcRecord) → arc_of (retargeted (number_pairs moves) a) ≡ redirected_arc (sent moves) (arc_of a)
arc_sent moves a = ap (λ t. record { target = t; waits = a.waits }) (sym (sent_number moves (record { number = a.target })))

arcs_sent : (moves : List (NodeId × NodeId)) (own : List ArcRecord) → map arc_of (map (retargeted (number_pairs moves)) own) ≡ map (redirected_arc (sent moves)) (map arc_of own)
arcs_sent moves [] = refl
arcs_sent moves (a ∷ own) = let first = arc_sent moves a in let rest = arcs_sent moves own in cc

double_not : (b : Bool) → not b ≡ false → b ≡ true
double_not true is = refl
double_not false is = absurd (both_ways true is refl)

abbrev numbered : ℕ → NodeId
numbered n = record { number = n }

abbrev first_number : List NodeId → ℕ
first_number [] = 0
first_number (n ∷ ns) = n.number

abbrev targets_in : Option Content → List NodeId
targets_in None = []
targets_in (Some c) = c.targets

-- the targets stay where no arc is moved
unmoved : (pairs : List (ℕ × ℕ)) (own : List ArcRecord) → any_moved pairs own ≡ false
    → map (λ a. (arc_of a).target) (map (retargeted pairs) own) ≡ map (λ a. (arc_of a).target) own
unmoved pairs [] none = refl
unmoved pairs (a ∷ own) none =
    let parts = or_parts (not (eqb (moved_to pairs a.target) a.target)) (list_any (λ x. not (eqb (moved_to pairs x.target) x.target)) own) none in
    let same : moved_to pairs a.target ≡ a.target = eqb-true (moved_to pairs a.target) a.target (double_not (eqb (moved_to pairs a.target) a.target) parts.0) in
    let first : numbered (moved_to pairs a.target) ≡ numbered a.target = ap numbered same in
    let rest = unmoved pairs own parts.1 in
    cc

-- and only there
still : (pairs : List (ℕ × ℕ)) (own : List ArcRecord) → map (λ a. (arc_of a).target) (map (retargeted pairs) own) ≡ map (λ a. (arc_of a).target) own
    → any_moved pairs own ≡ false
still pairs [] same = refl
still pairs (a ∷ own) same =
    let first : moved_to pairs a.target ≡ a.target = ap first_number same in
    let rest : map (λ x. (arc_of x).target) (map (retargeted pairs) own) ≡ map (λ x. (arc_of x).target) own = ap (drop 1) same in
    or_from (not (eqb (moved_to pairs a.target) a.target)) (list_any (λ x. not (eqb (moved_to pairs x.target) x.target)) own) (ap not (eq-eqb (moved_to pairs a.target) a.target first)) (still pairs own rest)

module _ (nodes : Table) (arcs : Pool) (root : NodeId) (room : Room) (is : IsStore nodes arcs room) (more : Pool) (moves : List (NodeId × NodeId)) (version : ℕ)
    (kept : IsKept arcs more) (moved : more.arcs ≡ map (retargeted (number_pairs moves)) arcs.arcs) (stamped : more.changed ≡ changed_by (number_pairs moves) version arcs.arcs arcs.changed) where
  own_moved : (m : ℕ) → own_part more.arcs (record_of nodes.records m).span ≡ map (retargeted (number_pairs moves)) (own_part arcs.arcs (record_of nodes.records m).span)
  own_moved = own_changed nodes arcs root room is nodes more (retargeted (number_pairs moves)) (λ a. refl) moved refl (λ m. refl)

  pub IsStore-moved : IsStore nodes more room
  IsStore-moved =
      let long : length more.changed ≡ length arcs.changed = ap length stamped ∙ length-changed_by (number_pairs moves) version arcs.arcs arcs.changed is.changes ∙ sym is.changes in
      IsStore-map nodes arcs root room is nodes more (retargeted (number_pairs moves)) (λ a. refl) moved refl (λ m. refl) long kept.targets kept.room refl

  node_sent : (m : ℕ) → node_of more.arcs (record_of nodes.records m) ≡ redirected_node (sent moves) (node_of arcs.arcs (record_of nodes.records m))
  node_sent m =
      let own : map arc_of (own_part more.arcs (record_of nodes.records m).span) ≡ map (redirected_arc (sent moves)) (map arc_of (own_part arcs.arcs (record_of nodes.records m).span)) =
      ap (map arc_of) (own_moved m) ∙ arcs_sent moves (own_part arcs.arcs (record_of nodes.records m).span) in
      cc

  pub graph_moved : (number : ℕ) → number ≡ moved_to (number_pairs moves) root.number → graph_of nodes.records more.arcs (record { number = number }) ≡ redirected (sent moves) (graph_of nodes.records arcs.arcs root)
  graph_moved number is_root =
      let all : map (node_of more.arcs) nodes.records ≡ map (redirected_node (sent moves)) (map (node_of arcs.arcs) nodes.records) =
      map_same (node_of more.arcs) (λ r. redirected_node (sent moves) (node_of arcs.arcs r)) no_node nodes.records (λ i below. node_sent i)
      ∙ sym (map-map (node_of arcs.arcs) (redirected_node (sent moves)) nodes.records) in
      let at_root : numbered number ≡ sent moves root = ap numbered is_root ∙ sym (sent_number moves root) in
      cc

  module _ (root' : NodeId) (latest : IsLatest version (held_of nodes arcs root room)) where
    module _ (n : NodeId) (below : n.number < length nodes.records) where
      before : content (graph_of nodes.records arcs.arcs root) n ≡ Some (record { label = (record_of nodes.records n.number).label; targets = map (λ a. (arc_of a).target) (own_part arcs.arcs (record_of nodes.records n.number).span) })
      before = content_seen nodes arcs root room is n (map (λ a. (arc_of a).target) (own_part arcs.arcs (record_of nodes.records n.number).span)) below refl

      after : content (graph_of nodes.records more.arcs root') n
          ≡ Some (record { label = (record_of nodes.records n.number).label; targets = map (λ a. (arc_of a).target) (map (retargeted (number_pairs moves)) (own_part arcs.arcs (record_of nodes.records n.number).span)) })
      after =
          content_seen nodes more root' room IsStore-moved n (map (λ a. (arc_of a).target) (own_part more.arcs (record_of nodes.records n.number).span)) below refl
          ∙ ap (λ xs. Some (record { label = (record_of nodes.records n.number).label; targets = map (λ a. (arc_of a).target) xs })) (own_moved n.number)

      -- the version is the given one where the pairs move one of the node's arcs
      version_sent : version_of more.changed (record_of nodes.records n.number)
          ≡ cond (any_moved (number_pairs moves) (own_part arcs.arcs (record_of nodes.records n.number).span)) version (version_of arcs.changed (record_of nodes.records n.number))
      version_sent =
          let r = record_of nodes.records n.number in
          let most : version_of arcs.changed (record_of nodes.records n.number) ≤ version = All-at (version_of arcs.changed) (λ v. v ≤ version) no_node nodes.records n.number below latest.most in
          ap (λ changed. version_of changed r) stamped ∙ version_moved (number_pairs moves) version r.version r.span arcs.arcs arcs.changed is.changes most

      stays_unmoved : content (graph_of nodes.records more.arcs root') n ≡ content (graph_of nodes.records arcs.arcs root) n → any_moved (number_pairs moves) (own_part arcs.arcs (record_of nodes.records n.number).span) ≡ false
      stays_unmoved same = still (number_pairs moves) (own_part arcs.arcs (record_of nodes.records n.number).span) (ap targets_in (sym after ∙ same ∙ before))

      unmoved_stays : any_moved (number_pairs moves) (own_part arcs.arcs (record_of nodes.records n.number).span) ≡ false → content (graph_of nodes.records more.arcs root') n ≡ content (graph_of nodes.records arcs.arcs root) n
      unmoved_stays none =
          after
          ∙ ap (λ ts. Some (record { label = (record_of nodes.records n.number).label; targets = ts })) (unmoved (number_pairs moves) (own_part arcs.arcs (record_of nodes.records n.number).span) none)
          ∙ sym before

      kept_version : content (graph_of nodes.records more.arcs root') n ≡ content (graph_of nodes.records arcs.arcs root) n
          → slice_get (map (version_of more.changed) nodes.records) n.number ≡ slice_get (map (version_of arcs.changed) nodes.records) n.number
      kept_version same =
          version_seen nodes more root' room IsStore-moved n.number below
          ∙ ap Some (version_sent ∙ ap (λ b. cond b version (version_of arcs.changed (record_of nodes.records n.number))) (stays_unmoved same))
          ∙ sym (version_seen nodes arcs root room is n.number below)

      given_version : content (graph_of nodes.records more.arcs root') n ≢ content (graph_of nodes.records arcs.arcs root) n → slice_get (map (version_of more.changed) nodes.records) n.number ≡ Some version
      given_version differ = elim (cases_Bool (any_moved (number_pairs moves) (own_part arcs.arcs (record_of nodes.records n.number).span))) [
        | inl goes ↦
            version_seen nodes more root' room IsStore-moved n.number below
            ∙ ap Some (version_sent ∙ ap (λ b. cond b version (version_of arcs.changed (record_of nodes.records n.number))) goes)
        | inr none ↦ absurd (differ (unmoved_stays none))
      ]

    pub versioned : IsVersioned version (held_of nodes arcs root room) (held_of nodes more root' room)
    versioned = record {
      long = length-map nodes.records (version_of more.changed) ∙ sym (length-map nodes.records (node_of more.arcs));
      kept = λ n here same. kept_version n (omega (arith, length-map nodes.records (node_of more.arcs))) same;
      given = λ n here differ. given_version n (omega (arith, length-map nodes.records (node_of more.arcs))) differ;
    }

-- the numbers of nodes below the room
pub pairs_below : (room : ℕ) (moves : List (NodeId × NodeId)) → AreNodes room moves → AreBelow room (number_pairs moves)
pairs_below room moves all = All-map (λ (move : ℕ × ℕ). (move.0 < room) × (move.1 < room)) (λ (move : NodeId × NodeId). (move.0.number, move.1.number)) moves all
