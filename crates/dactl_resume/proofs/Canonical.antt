-- The restriction of a graph: its numbers are those of the print, and there is one at most.
use Rattle.std.proofs.Common.{◌≡◌, ℕ, zero, suc, ◌+◌, ◌<◌, ◌≤◌, List, [], ◌∷◌, ◌++◌, map, length, Some, slice_get, slice_index_or, refl, sym, ◌∙◌, ap, subst, arith, inl, inr}
use Rattle.std.specs.List.{AllByRecursion, Contains}
use Rattle.std.specs.Option.{option_map}
use Rattle.std.proofs.lemmas.List.{length-map}
use Rattle.std.proofs.lemmas.Option.{slice_get_cases, slice_get-map}
use Rattle.dactl_model.specs.declared.graph.NodeId.{NodeId}
use Rattle.dactl_model.specs.declared.graph.Arc.{Arc}
use Rattle.dactl_model.specs.declared.graph.Node.{Node}
use Rattle.dactl_model.specs.declared.graph.Graph.{Graph}
use Rattle.dactl_model.specs.Graphs.{node_at, HasNode, IsWellFormed}
use Rattle.dactl_model.specs.Matching.{bound_node}
use Rattle.dactl_model.specs.Firing.{redirected_arc}
use Rattle.dactl_model.proofs.OneMatch.{same_from_gets}
use Rattle.dactl_model.proofs.Pairs.{has_node}
use Rattle.dactl_print.specs.Order.{Visits, ended, passed, joined, IsOrder}
use Rattle.dactl_print.proofs.OneOrder.{has_one_order}
use Rattle.dactl_within.specs.Renumbering.{renumbered, Renumbers, image, IsImage, nodes_from}
use Rattle.dactl_within.proofs.FireKept.{numbered, node_with}
use Rattle.dactl_within.proofs.Places.{node_there, targets_in}
use Rattle.dactl_within.proofs.StepKept.{length-nodes_from}
use Rattle.dactl_within.proofs.Runs.{append-assoc}
use Rattle.dactl_resume.specs.Restriction.{IsRestriction, IsCanonical}
use Rattle.dactl_resume.specs.Statements.{RestrictionIsCanonical, CanonicalIsOwn, HasOneRestriction, RestrictionHasText, RestrictionIsIdleBeside, RestrictionIsSame}
use Rattle.dactl_resume.proofs.Among.{among}
use Rattle.dactl_resume.proofs.Visiting.{visits_back}
use Rattle.dactl_resume.proofs.Texts.{text_is_kept, text_comes_back}

get_from : (m count i : ℕ) → i < count → slice_get (nodes_from m count) i ≡ Some (numbered (m + i))
get_from m zero i below = absurd (omega arith)
get_from m (suc count) zero below = let number : m ≡ m + 0 = omega arith in ap (λ k. Some (numbered k)) number
get_from m (suc count) (suc i) below =
    let number : (m + 1) + i ≡ m + suc i = omega arith in
    get_from (m + 1) count i (omega arith) ∙ ap (λ k. Some (numbered k)) number

pub bound_is : (f : List NodeId) (i : ℕ) (x : NodeId) → slice_get f i ≡ Some x → bound_node f i ≡ x
bound_is f i x at = rw at refl

pub image_at : (f : List NodeId) (i : ℕ) (x : NodeId) → slice_get f i ≡ Some x → image f (numbered (0 + i)) ≡ x
image_at f i x at = let number : 0 + i ≡ i = omega arith in ap (bound_node f) number ∙ bound_is f i x at

-- a list is that of the images of its own places
pub map_self : (f : List NodeId) → map (image f) (nodes_from 0 (length f)) ≡ f
map_self f =
    same_from_gets (map (image f) (nodes_from 0 (length f))) f (length-map (nodes_from 0 (length f)) (image f) ∙ length-nodes_from 0 (length f)) (λ i below.
    let within : i < length f = omega (arith, below, length-map (nodes_from 0 (length f)) (image f), length-nodes_from 0 (length f)) in
    let got : slice_get (map (image f) (nodes_from 0 (length f))) i ≡ Some (image f (numbered (0 + i))) = slice_get-map (image f) (nodes_from 0 (length f)) i ∙ ap (option_map (image f)) (get_from 0 (length f) i within) in
    elim (slice_get_cases f i).1 [
      | inl (x, inside, at, same) ↦ got ∙ ap Some (image_at f i x at) ∙ sym at
      | inr (past, none) ↦ absurd (omega arith)
    ])

map_apart : (f : NodeId → NodeId) (P : NodeId → Type 0) → ((x y : NodeId) → P x → P y → f x ≡ f y → x ≡ y) → (xs ys : List NodeId) → AllByRecursion P xs → AllByRecursion P ys → map f xs ≡ map f ys → xs ≡ ys
map_apart f P once [] [] one other e = refl
map_apart f P once [] (y ∷ ys) one other e = absurd (cc e)
map_apart f P once (x ∷ xs) [] one other e = absurd (cc e)
map_apart f P once (x ∷ xs) (y ∷ ys) one other e =
    let first : f x ≡ f y = cc in
    let rest : map f xs ≡ map f ys = cc in
    ap (λ z. z ∷ xs) (once x y one.0 other.0 first) ∙ ap (λ zs. y ∷ zs) (map_apart f P once xs ys one.1 other.1 rest)

from_in : (h : Graph) (m count : ℕ) → m + count ≤ length h.nodes → AllByRecursion (HasNode h) (nodes_from m count)
from_in h m zero below = tt
from_in h m (suc count) below = (omega arith, from_in h (m + 1) count (omega arith))

append-nil : (xs : List NodeId) → xs ++ [] ≡ xs
append-nil [] = refl
append-nil (x ∷ xs) = ap (λ s. x ∷ s) (append-nil xs)

abbrev graph_with : List Node → NodeId → Graph
graph_with nodes root = record { nodes = nodes; root = root }

pub graph_is : (h k : Graph) → h.nodes ≡ k.nodes → h.root ≡ k.root → h ≡ k
graph_is h k nodes root = ap (λ ns. graph_with ns h.root) nodes ∙ ap (λ r. graph_with k.nodes r) root

contained_is : (xs : List NodeId) (i : ℕ) (x y : NodeId) → slice_get xs i ≡ Some x → slice_index_or xs i y ≡ y → y ≡ x
contained_is [] i x y got at = absurd (cc got)
contained_is (z ∷ xs) zero x y got at = let same : z ≡ x = cc in sym at ∙ same
contained_is (z ∷ xs) (suc i) x y got at = contained_is xs i x y got at

-- a visit adds at the end
pub visit_grows : {g : Graph} {ns before after : List NodeId} → Visits g ns before after → (more : List NodeId) × (after ≡ before ++ more)
visit_grows {before} ended = ([], sym (append-nil before))
visit_grows (passed p v) = visit_grows v
visit_grows (joined {n} {rest} {before} {between} {after} m v w) =
    let first = visit_grows v in
    let second = visit_grows w in
    (n ∷ (first.0 ++ second.0), second.1 ∙ ap (λ s. s ++ second.0) (first.1 ∙ append-assoc before (n ∷ []) first.0) ∙ append-assoc before (n ∷ first.0) second.0)

order_begins : {g : Graph} {r : NodeId} {order : List NodeId} → Visits g (r ∷ []) [] order → (more : List NodeId) × (order ≡ r ∷ more)
order_begins {r} (passed p v) = absurd (among [] r p)
order_begins {r} (joined {between} {after} m v w) =
    let first = visit_grows v in
    let second = visit_grows w in
    (first.0 ++ second.0, second.1 ∙ ap (λ s. s ++ second.0) first.1)

root_zero : (r : NodeId) (count : ℕ) (more : List NodeId) → nodes_from 0 count ≡ r ∷ more → r.number ≡ 0
root_zero r zero more e = absurd (cc e)
root_zero r (suc count) more e = let first : numbered 0 ≡ r = cc in sym (ap (λ z. z.number) first)

pub restriction_is_canonical : RestrictionIsCanonical
restriction_is_canonical g h order is =
    let root : g.root ∷ [] ≡ map (image order) (h.root ∷ []) = ap (λ r. r ∷ []) is.within.renumbers.root in
    let back = visits_back (image order) h g is.fine is.within.renumbers is.is_order (h.root ∷ []) [] root refl (is.fine.root, tt) tt in
    let self : map (image order) (nodes_from 0 (length h.nodes)) ≡ order = ap (λ c. map (image order) (nodes_from 0 c)) (sym is.within.long) ∙ map_self order in
    let same : back.0 ≡ nodes_from 0 (length h.nodes) =
    map_apart (image order) (HasNode h) is.within.renumbers.once back.0 (nodes_from 0 (length h.nodes)) back.3 (from_in h 0 (length h.nodes) (omega arith)) (sym back.1 ∙ sym self) in
    let canonical : IsCanonical h = subst (λ o. IsOrder h o) same back.2 in
    let begins = order_begins canonical in
    (canonical, root_zero h.root (length h.nodes) begins.0 begins.1)

image_own : (count : ℕ) (x : NodeId) → x.number < count → image (nodes_from 0 count) x ≡ x
image_own count x below =
    let number : 0 + x.number ≡ x.number = omega arith in
    bound_is (nodes_from 0 count) x.number (numbered (0 + x.number)) (get_from 0 count x.number below) ∙ ap numbered number

own_arcs : (f : NodeId → NodeId) (P : NodeId → Type 0) → ((x : NodeId) → P x → f x ≡ x) → (arcs : List Arc) → AllByRecursion (λ a. P a.target) arcs → map (redirected_arc f) arcs ≡ arcs
own_arcs f P same [] all = refl
own_arcs f P same (a ∷ arcs) all = rw (same a.target all.0, own_arcs f P same arcs all.1) refl

pub canonical_is_own : CanonicalIsOwn
canonical_is_own h fine canonical =
    let own : (x : NodeId) → HasNode h x → image (nodes_from 0 (length h.nodes)) x ≡ x = λ x has. image_own (length h.nodes) x has in
    record {
      fine = fine;
      is_order = canonical;
      within = record {
        long = length-nodes_from 0 (length h.nodes);
        renumbers = record {
          once = λ x y has also e. sym (own x has) ∙ e ∙ own y also;
          nodes = λ x node at.
              ap (node_at h) (own x (has_node h x node at)) ∙ at
              ∙ ap (λ arcs. Some (node_with node.label arcs node.mark)) (sym (own_arcs (image (nodes_from 0 (length h.nodes))) (HasNode h) own node.arcs (targets_in h x node fine at)));
          root = sym (own h.root fine.root);
        };
      };
    }

module _ (f : NodeId → NodeId) (h k g : Graph) (size : length h.nodes ≡ length k.nodes) (fine : IsWellFormed h) (fine_k : IsWellFormed k) (is : Renumbers f h g) (also : Renumbers f k g) where
  across : (x : NodeId) → HasNode k x → HasNode h x
  across x has = omega (arith, size, has)

  same_arcs_of : (xs ys : List Arc) → AllByRecursion (λ a. HasNode h a.target) xs → AllByRecursion (λ a. HasNode k a.target) ys → map (redirected_arc f) xs ≡ map (redirected_arc f) ys → xs ≡ ys
  same_arcs_of [] [] one other e = refl
  same_arcs_of [] (y ∷ ys) one other e = absurd (cc e)
  same_arcs_of (x ∷ xs) [] one other e = absurd (cc e)
  same_arcs_of (x ∷ xs) (y ∷ ys) one other e =
      let first : redirected_arc f x ≡ redirected_arc f y = cc in
      let target : x.target ≡ y.target = is.once x.target y.target one.0 (across y.target other.0) (ap (λ a. a.target) first) in
      let waits : x.waits ≡ y.waits = ap (λ a. a.waits) first in
      let here : x ≡ y = rw (target, waits) refl in
      let rest : map (redirected_arc f) xs ≡ map (redirected_arc f) ys = cc in
      ap (λ z. z ∷ xs) here ∙ ap (λ zs. y ∷ zs) (same_arcs_of xs ys one.1 other.1 rest)

  same_node_of : (x : NodeId) (one other : Node) → node_at h x ≡ Some one → node_at k x ≡ Some other → one ≡ other
  same_node_of x one other at at_k =
      let both : Some (renumbered f one) ≡ Some (renumbered f other) = sym (is.nodes x one at) ∙ also.nodes x other at_k in
      let same : renumbered f one ≡ renumbered f other = cc in
      let arcs : one.arcs ≡ other.arcs = same_arcs_of one.arcs other.arcs (targets_in h x one fine at) (targets_in k x other fine_k at_k) (ap (λ z. z.arcs) same) in
      let label : one.label ≡ other.label = ap (λ z. z.label) same in
      let mark : one.mark ≡ other.mark = ap (λ z. z.mark) same in
      ap (λ z. node_with z one.arcs one.mark) label ∙ ap (λ z. node_with other.label z one.mark) arcs ∙ ap (λ z. node_with other.label other.arcs z) mark

  same_at : (i : ℕ) → i < length h.nodes → slice_get h.nodes i ≡ slice_get k.nodes i
  same_at i below =
      let one = node_there h (numbered i) below in
      let other = node_there k (numbered i) (omega (arith, size, below)) in
      one.1 ∙ ap Some (same_node_of (numbered i) one.0 other.0 one.1 other.1) ∙ sym other.1

  pub same_graph : h ≡ k
  same_graph =
      let nodes : h.nodes ≡ k.nodes = same_from_gets h.nodes k.nodes size same_at in
      let root : h.root ≡ k.root = is.once h.root k.root fine.root (across k.root fine_k.root) (sym is.root ∙ also.root) in
      graph_is h k nodes root

pub has_one_restriction : HasOneRestriction
has_one_restriction g h k one other is also =
    let orders : one ≡ other = has_one_order g (g.root ∷ []) [] one other is.is_order also.is_order in
    let renumbers : Renumbers (image one) k g = subst (λ o. Renumbers (image o) k g) (sym orders) also.within.renumbers in
    same_graph (image one) h k g (sym is.within.long ∙ ap length orders ∙ also.within.long) is.fine also.fine is.within.renumbers renumbers

pub restriction_has_text : RestrictionHasText
restriction_has_text p g h order text is = (λ has. text_is_kept p order h g text is.fine is.within has, λ has. text_comes_back p order h g text is.fine is.within has)

-- what is in the order is an image
ordered_image : (g h : Graph) (order : List NodeId) → IsRestriction g order h → (y : NodeId) → Contains order y → IsImage order h y
ordered_image g h order is y (i, below, at) =
    elim (slice_get_cases order i).1 [
      | inl (x, inside, got, same) ↦ record { origin = numbered (0 + i); has = omega (arith, is.within.long, below); is = contained_is order i x y got at ∙ sym (image_at order i x got) }
      | inr (past, none) ↦ absurd (omega arith)
    ]

pub restriction_is_idle_beside : RestrictionIsIdleBeside
restriction_is_idle_beside g h order is reached y node at busy = ordered_image g h order is y (reached y node at busy)

pub restriction_is_same : RestrictionIsSame
restriction_is_same g h order is reached = record { within = is.within; all = λ y has. ordered_image g h order is y (reached y has) }
