-- The new nodes of a contractum, one after another.
use Rattle.std.proofs.Common.{◌≡◌, ℕ, zero, suc, ◌+◌, ◌<◌, ◌≤◌, List, [], ◌∷◌, ◌++◌, length, get_or, map, take, drop, sum_by, All, Some, refl, sym, ap, ◌∙◌, arith, subst, length-append}
use Rattle.std.specs.List.{slice_get}
use Rattle.std.specs.Option.{IsSomeAnd}
use Rattle.std.proofs.lemmas.Option.{unwrap_or-slice_get}
use Rattle.std.proofs.lemmas.List.{append_assoc, length-map, length_push, length-take-le, take_more, drop_more, map-append}
use Rattle.std.proofs.lemmas.List.Sums.{sum_by-cons}
use Rattle.dactl_model.specs.declared.graph.NodeId.{NodeId}
use Rattle.dactl_model.specs.declared.graph.Node.{Node}
use Rattle.dactl_model.specs.declared.program.Mention.{Mention}
use Rattle.dactl_model.specs.declared.program.Mention.TheVariants.{Old, Fresh}
use Rattle.dactl_model.specs.declared.program.FreshArc.{FreshArc}
use Rattle.dactl_model.specs.declared.program.FreshNode.{FreshNode}
use Rattle.dactl_model.specs.Firing.{mentioned, fresh_arc, fresh_node}
use Rattle.dactl_model.specs.Matching.{bound_node}
use Rattle.dactl_model.specs.Programs.{IsMention, fresh_arcs}
use Rattle.dactl_model.specs.Ending.{arcs_of}
use Rattle.dactl_store.specs.Held.{Held, arc_to}
use Rattle.dactl_store.specs.Contractum.{IsTarget, TakesArcs, CanAppend}
use Rattle.dactl_store.proofs.Growing.{grown, grown_more, changed_last}

-- one more arc
pub arcs_step : (held self new : Held) (n : NodeId) (first : ℕ) (h : List NodeId) (arcs : List FreshArc) (i : ℕ) (d : FreshArc) (target : NodeId) → i < length arcs
    → self ≡ grown held n (map (fresh_arc first h (λ x. x)) (take i arcs)) → target ≡ mentioned first h (get_or arcs i d).to → new ≡ grown self n (arc_to target (get_or arcs i d).waits ∷ [])
    → new ≡ grown held n (map (fresh_arc first h (λ x. x)) (take (i + 1) arcs))
arcs_step held self new n first h arcs i d target below so_far is step =
    step
    ∙ ap (λ s. grown s n (arc_to target (get_or arcs i d).waits ∷ [])) so_far
    ∙ ap (λ t. grown (grown held n (map (fresh_arc first h (λ x. x)) (take i arcs))) n (arc_to t (get_or arcs i d).waits ∷ [])) is
    ∙ grown_more held n (map (fresh_arc first h (λ x. x)) (take i arcs)) (fresh_arc first h (λ x. x) (get_or arcs i d) ∷ [])
    ∙ ap (grown held n) (sym (ap (map (fresh_arc first h (λ x. x))) (take_more arcs i d below) ∙ map-append (fresh_arc first h (λ x. x)) (take i arcs) (get_or arcs i d ∷ [])))

-- so many of the new nodes are there, and for the others there is room
pub record IsFilled (start now : Held) (h : List NodeId) (fresh : List FreshNode) (version i : ℕ) : Type 0 where
  pub nodes : now.graph.nodes ≡ start.graph.nodes ++ map (fresh_node (length start.graph.nodes) h (λ x. x)) (take i fresh)
  pub root : now.graph.root ≡ start.graph.root
  pub versions : now.versions ≡ start.versions ++ map (λ _. version) (take i fresh)
  pub room : now.room ≡ start.room
  pub newest : now.newest ≡ start.newest
  pub arcs : arcs_of now.graph + fresh_arcs (drop i fresh) ≡ arcs_of start.graph + fresh_arcs fresh

get_last : {X : Type 0} (xs : List X) (x : X) (n : ℕ) → n ≡ length xs → slice_get (xs ++ x ∷ []) n ≡ Some x
get_last [] x zero last = refl
get_last [] x (suc n) last = absurd (omega arith)
get_last (y ∷ xs) x zero last = absurd (omega arith)
get_last (y ∷ xs) x (suc n) last = get_last xs x n (omega arith)

arcs_of-push : (nodes : List Node) (node : Node) → sum_by (λ x. length x.arcs) (nodes ++ node ∷ []) ≡ sum_by (λ x. length x.arcs) nodes + length node.arcs
arcs_of-push [] node = sum_by-cons (λ x. length x.arcs) node [] ∙ omega arith
arcs_of-push (x ∷ nodes) node =
    sum_by-cons (λ y. length y.arcs) x (nodes ++ node ∷ []) ∙ omega (arith, arcs_of-push nodes node, sum_by-cons (λ y. length y.arcs) x nodes)

arcs_left : (fresh : List FreshNode) (i : ℕ) (item : FreshNode) → i < length fresh → item ≡ get_or fresh i item → fresh_arcs (drop i fresh) ≡ length item.arcs + fresh_arcs (drop (i + 1) fresh)
arcs_left fresh i item below is =
    ap fresh_arcs (drop_more fresh i item below ∙ ap (λ x. x ∷ drop (i + 1) fresh) (sym is)) ∙ sum_by-cons (λ node. length node.arcs) item (drop (i + 1) fresh)

module _ (start now : Held) (h : List NodeId) (fresh : List FreshNode) (version i : ℕ) (can : CanAppend start h fresh) (filled : IsFilled start now h fresh version i) (below : i < length fresh)
    (item : FreshNode) (is : item ≡ get_or fresh i item) where
  count_now : length now.graph.nodes ≡ length start.graph.nodes + i
  count_now = ap length filled.nodes ∙ omega (arith, length-append start.graph.nodes (map (fresh_node (length start.graph.nodes) h (λ x. x)) (take i fresh)), length-map (take i fresh) (fresh_node (length start.graph.nodes) h (λ x. x)), length-take-le i fresh (omega arith))

  pub free_node : length now.graph.nodes < now.room.nodes
  free_node = omega (arith, count_now, can.nodes, ap (λ r. r.nodes) filled.room)

  few_at : (k : ℕ) (d : FreshNode) → k < length fresh → length (get_or fresh k d).arcs ≤ 16
  few_at k d within = can.few k d within

  module _ (added : Held) (owner : NodeId) (bare : Node) (last : owner.number ≡ length now.graph.nodes) (nodes : added.graph.nodes ≡ now.graph.nodes ++ bare ∷ []) (none : bare.arcs ≡ []) (room : added.room ≡ now.room) where
    pub takes_arcs : TakesArcs added owner (length item.arcs)
    takes_arcs =
        let few : length item.arcs ≤ 16 = subst (λ x. length x.arcs ≤ 16) (sym is) (few_at i item below) in
        let found : slice_get (now.graph.nodes ++ bare ∷ []) owner.number ≡ Some bare = get_last now.graph.nodes bare owner.number last in
        record {
          last = omega (arith, ap length nodes, length_push now.graph.nodes bare, last);
          few = subst (λ ns. IsSomeAnd (slice_get ns owner.number) (λ node. length node.arcs + length item.arcs ≤ 16)) (sym nodes)
              (subst (λ o. IsSomeAnd o (λ node. length node.arcs + length item.arcs ≤ 16)) (sym found) (omega (arith, ap length none, few)));
          free = omega (arith, ap (sum_by (λ x. length x.arcs)) nodes, arcs_of-push now.graph.nodes bare, ap length none, filled.arcs, arcs_left fresh i item below is, can.arcs, ap (λ r. r.arcs) room, ap (λ r. r.arcs) filled.room);
        }

    pub filled_more : (new : Held) (first : ℕ) → first ≡ length start.graph.nodes → new ≡ grown added owner (map (fresh_arc first h (λ x. x)) item.arcs) → added.graph.root ≡ now.graph.root → added.versions ≡ now.versions ++ version ∷ []
        → added.newest ≡ now.newest → bare.label ≡ item.label → bare.mark ≡ item.mark → IsFilled start new h fresh version (i + 1)
    filled_more new first is_first step root versions newest label mark =
        let F = fresh_node (length start.graph.nodes) h (λ x. x) in
        let made : record bare { arcs = bare.arcs ++ map (fresh_arc first h (λ x. x)) item.arcs } ≡ fresh_node (length start.graph.nodes) h (λ x. x) item =
        let arcs : bare.arcs ++ map (fresh_arc first h (λ x. x)) item.arcs ≡ map (fresh_arc (length start.graph.nodes) h (λ x. x)) item.arcs = rw none (ap (λ m. map (fresh_arc m h (λ x. x)) item.arcs) is_first) in cc in
        let at_end : new.graph.nodes ≡ now.graph.nodes ++ fresh_node (length start.graph.nodes) h (λ x. x) item ∷ [] =
        ap (λ s. s.graph.nodes) step ∙ rw nodes (changed_last owner.number (λ node. record node { arcs = node.arcs ++ map (fresh_arc first h (λ x. x)) item.arcs }) now.graph.nodes bare last) ∙ ap (λ x. now.graph.nodes ++ x ∷ []) made in
        let one_more : take (i + 1) fresh ≡ take i fresh ++ item ∷ [] = take_more fresh i item below ∙ ap (λ x. take i fresh ++ x ∷ []) (sym is) in
        record {
          nodes = at_end ∙ ap (λ ns. ns ++ fresh_node (length start.graph.nodes) h (λ x. x) item ∷ []) filled.nodes
              ∙ append_assoc start.graph.nodes (map F (take i fresh)) (F item ∷ [])
              ∙ ap (λ ns. start.graph.nodes ++ ns) (sym (ap (map F) one_more ∙ map-append F (take i fresh) (item ∷ [])));
          root = ap (λ s. s.graph.root) step ∙ root ∙ filled.root;
          versions = ap (λ s. s.versions) step ∙ versions ∙ ap (λ vs. vs ++ version ∷ []) filled.versions
              ∙ append_assoc start.versions (map (λ _. version) (take i fresh)) (version ∷ [])
              ∙ ap (λ vs. start.versions ++ vs) (sym (ap (map (λ _. version)) one_more ∙ map-append (λ _. version) (take i fresh) (item ∷ [])));
          room = ap (λ s. s.room) step ∙ room ∙ filled.room;
          newest = ap (λ s. s.newest) step ∙ newest ∙ filled.newest;
          arcs = omega (arith, ap (sum_by (λ x. length x.arcs)) at_end, arcs_of-push now.graph.nodes (F item), length-map item.arcs (fresh_arc (length start.graph.nodes) h (λ x. x)), filled.arcs, arcs_left fresh i item below is);
        }

bound_in_room : (room : ℕ) (h : List NodeId) (v : ℕ) → All (λ n. n.number < room) h → v < length h → (bound_node h v).number < room
bound_in_room room h v all below = rw (unwrap_or-slice_get h v) (all v _ below)

is_target : (room first count : ℕ) (h : List NodeId) (mention : Mention) → All (λ n. n.number < room) h → first + count ≤ room → IsMention (length h) count mention → IsTarget room first h mention
is_target room first count h (Old v) bound fits is = (is, bound_in_room room h v bound is)
is_target room first count h (Fresh k) bound fits is = omega arith

pub are_targets : (start : Held) (h : List NodeId) (fresh : List FreshNode) (i first room : ℕ) (item : FreshNode) → CanAppend start h fresh → i < length fresh → item ≡ get_or fresh i item → first ≡ length start.graph.nodes
    → room ≡ start.room.nodes → All (λ a. IsTarget room first h a.to) item.arcs
are_targets start h fresh i first room item can below is is_first same k d within =
    let mentions : All (λ a. IsMention (length h) (length fresh) a.to) item.arcs = subst (λ x. All (λ a. IsMention (length h) (length fresh) a.to) x.arcs) (sym is) (can.mentions i item below) in
    is_target room first (length fresh) h (get_or item.arcs k d).to (subst (λ r. All (λ n. n.number < r) h) (sym same) can.bound) (omega (arith, can.nodes)) (mentions k d within)
