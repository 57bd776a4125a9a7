-- The restriction of a graph is there.
use Rattle.std.proofs.Common.{◌≡◌, ℕ, zero, suc, ◌<◌, Bool, true, false, cond, List, [], ◌∷◌, ◌++◌, map, length, All, Option, Some, None, slice_get, refl, sym, ◌∙◌, ap, subst, arith, ◌⊎◌, inl, inr}
use Rattle.std.specs.List.{AllByRecursion}
use Rattle.std.specs.Option.{option_map}
use Rattle.std.proofs.lemmas.Bool.{eq-eqb}
use Rattle.std.proofs.lemmas.List.{length-map}
use Rattle.std.proofs.lemmas.List.Elements.{All-from_recursion}
use Rattle.std.proofs.lemmas.Option.{slice_get_cases, slice_get-map, slice_get_within}
use Rattle.dactl_model.specs.declared.graph.NodeId.{NodeId}
use Rattle.dactl_model.specs.declared.graph.Label.TheVariants.{Symbol}
use Rattle.dactl_model.specs.declared.graph.Arc.{Arc}
use Rattle.dactl_model.specs.declared.graph.Mark.{Mark}
use Rattle.dactl_model.specs.declared.graph.Mark.TheVariants.{Idle, Active, Waiting}
use Rattle.dactl_model.specs.declared.graph.Node.{Node}
use Rattle.dactl_model.specs.declared.graph.Graph.{Graph}
use Rattle.dactl_model.specs.Patterns.{same_node}
use Rattle.dactl_model.specs.Graphs.{node_at, HasNode, flags, FitsMark, IsFineNode, IsWellFormed}
use Rattle.dactl_model.specs.Firing.{redirected_arc}
use Rattle.dactl_model.proofs.Counting.{count_by-map}
use Rattle.dactl_model.proofs.KeptNote.{fits_label-map}
use Rattle.dactl_model.proofs.Pairs.{has_node, All-slice_get}
use Rattle.dactl_model.proofs.Unique.{same_node_is}
use Rattle.dactl_print.specs.Order.{Visits, ended, passed, joined, IsOrder, targets_of, targets}
use Rattle.dactl_within.specs.Renumbering.{renumbered, image}
use Rattle.dactl_within.proofs.FireKept.{numbered, node_with}
use Rattle.dactl_within.proofs.Places.{NodeThere, node_there}
use Rattle.dactl_resume.specs.Restriction.{IsRestriction}
use Rattle.dactl_resume.specs.Statements.{HasRestriction}
use Rattle.dactl_resume.proofs.Among.{Among, among, contains, among_left, among_right, among_either, each_append, each_among}
use Rattle.dactl_resume.proofs.Visiting.{targets_each}
use Rattle.dactl_resume.proofs.Canonical.{visit_grows, bound_is}

-- ---- what a visit gives

pub visits_in : {g : Graph} {ns before after : List NodeId} → IsWellFormed g → Visits g ns before after → AllByRecursion (HasNode g) ns → AllByRecursion (HasNode g) before → AllByRecursion (HasNode g) after
visits_in fine ended have seen = seen
visits_in fine (passed p v) have seen = visits_in fine v have.1 seen
visits_in {g} fine (joined {n} {before} m v w) have seen =
    visits_in fine w have.1 (visits_in fine v (targets_each g fine n have.0) (each_append (HasNode g) before (n ∷ []) seen (have.0, tt)))

-- no node stands twice
abbrev pub AreDistinct : List NodeId → Type 0
AreDistinct [] = Unit {0}
AreDistinct (n ∷ ns) = (Among ns n → ⊥) × AreDistinct ns

distinct_push : (ns : List NodeId) (n : NodeId) → AreDistinct ns → (Among ns n → ⊥) → AreDistinct (ns ++ n ∷ [])
distinct_push [] n distinct new = (λ is. is, tt)
distinct_push (m ∷ ms) n distinct new = (
  λ is. elim (among_either ms (n ∷ []) m is) [ inl old ↦ distinct.0 old | inr last ↦ elim last [ inl at ↦ new (inl (sym at)) | inr none ↦ none ] ],
  distinct_push ms n distinct.1 (λ is. new (inr is)),
)

pub visits_distinct : {g : Graph} {ns before after : List NodeId} → Visits g ns before after → AreDistinct before → AreDistinct after
visits_distinct ended distinct = distinct
visits_distinct (passed p v) distinct = visits_distinct v distinct
visits_distinct (joined {n} {before} m v w) distinct = visits_distinct w (visits_distinct v (distinct_push before n distinct (λ is. m (contains before n is))))

pub visits_keep : {g : Graph} {ns before after : List NodeId} → Visits g ns before after → (x : NodeId) → Among before x → Among after x
visits_keep {before} v x is = let grown = visit_grows v in subst (λ s. Among s x) (sym grown.1) (among_left before grown.0 x is)

-- all that was to be visited is there
pub visits_seen : {g : Graph} {ns before after : List NodeId} → Visits g ns before after → AllByRecursion (Among after) ns
visits_seen ended = tt
visits_seen (passed {n} {before} p v) = (visits_keep v n (among before n p), visits_seen v)
visits_seen (joined {n} {before} m v w) = (visits_keep w n (visits_keep v n (among_right before (n ∷ []) n (inl refl))), visits_seen w)

each_weaken : (P Q : NodeId → Type 0) → ((x : NodeId) → P x → Q x) → (ns : List NodeId) → AllByRecursion P ns → AllByRecursion Q ns
each_weaken P Q step [] all = tt
each_weaken P Q step (n ∷ ns) all = (step n all.0, each_weaken P Q step ns all.1)

-- and what is new there has its targets there
abbrev pub IsClosedAt : Graph → List NodeId → NodeId → Type 0
IsClosedAt g after x = AllByRecursion (Among after) (targets g x)

pub visits_closed : {g : Graph} {ns before after : List NodeId} → Visits g ns before after → (x : NodeId) → Among after x → Among before x ⊎ IsClosedAt g after x
visits_closed ended x is = inl is
visits_closed (passed p v) x is = visits_closed v x is
visits_closed {g} {after} (joined {n} {before} {between} m v w) x is =
    elim (visits_closed w x is) [
      | inr closed ↦ inr closed
      | inl old ↦
          elim (visits_closed v x old) [
            | inr closed ↦ inr (each_weaken (Among between) (Among after) (visits_keep w) (targets g x) closed)
            | inl older ↦
                elim (among_either before (n ∷ []) x older) [
                  | inl first ↦ inl first
                  | inr last ↦
                      elim last [
                        | inl at ↦ inr (subst (IsClosedAt g after) at (each_weaken (Among between) (Among after) (visits_keep w) (targets g n) (visits_seen v)))
                        | inr none ↦ absurd none
                      ]
                ]
          ]
    ]

-- ---- the place of a node in a list

abbrev pub place_in : List NodeId → NodeId → ℕ
place_in [] t = 0
place_in (m ∷ ms) t = cond (same_node m t) 0 (suc (place_in ms t))

clash : (b : Bool) → b ≡ true → b ≡ false → ⊥
clash b is not_is = let e : true ≡ false = sym is ∙ not_is in cc

place_here : (m t : NodeId) (ms : List NodeId) (b : Bool) → same_node m t ≡ b → Among (m ∷ ms) t → ((Among ms t) → slice_get ms (place_in ms t) ≡ Some t) → slice_get (m ∷ ms) (cond b 0 (suc (place_in ms t))) ≡ Some t
place_here m t ms true same is later = ap Some (same_node_is m t same)
place_here m t ms false same (inl at) later = absurd (clash (same_node m t) (ap (λ z. same_node m z) (sym at) ∙ eq-eqb m.number m.number refl) same)
place_here m t ms false same (inr is) later = later is

pub get_place : (ms : List NodeId) (t : NodeId) → Among ms t → slice_get ms (place_in ms t) ≡ Some t
get_place [] t is = absurd is
get_place (m ∷ ms) t is = place_here m t ms (same_node m t) refl is (get_place ms t)

pub place_below : (ms : List NodeId) (t : NodeId) → Among ms t → place_in ms t < length ms
place_below ms t is = slice_get_within ms (place_in ms t) t (get_place ms t is)

-- places of a list without doubles
get_among : (ms : List NodeId) (i : ℕ) (x : NodeId) → slice_get ms i ≡ Some x → Among ms x
get_among [] i x at = absurd (cc at)
get_among (m ∷ ms) zero x at = let same : m ≡ x = cc in inl same
get_among (m ∷ ms) (suc i) x at = inr (get_among ms i x at)

one_place : (ms : List NodeId) → AreDistinct ms → (i j : ℕ) (x : NodeId) → slice_get ms i ≡ Some x → slice_get ms j ≡ Some x → i ≡ j
one_place [] distinct i j x one other = absurd (cc one)
one_place (m ∷ ms) distinct zero zero x one other = refl
one_place (m ∷ ms) distinct zero (suc j) x one other = let same : m ≡ x = cc in absurd (distinct.0 (subst (Among ms) (sym same) (get_among ms j x other)))
one_place (m ∷ ms) distinct (suc i) zero x one other = let same : m ≡ x = cc in absurd (distinct.0 (subst (Among ms) (sym same) (get_among ms i x one)))
one_place (m ∷ ms) distinct (suc i) (suc j) x one other = ap suc (one_place ms distinct.1 i j x one other)

-- ---- the restriction

abbrev pub placed : List NodeId → NodeId → NodeId
placed order t = numbered (place_in order t)

abbrev pub restricted_node : List NodeId → Option Node → Node
restricted_node order (Some node) = renumbered (placed order) node
restricted_node order None = node_with (Symbol 0) [] Idle

abbrev pub restricted : Graph → List NodeId → Graph
restricted g order = record { nodes = map (λ n. restricted_node order (node_at g n)) order; root = placed order g.root }

flags_kept : (f : NodeId → NodeId) (arcs : List Arc) → flags (map (redirected_arc f) arcs) ≡ flags arcs
flags_kept f arcs = count_by-map (λ a. a.waits) (λ a. a.waits) (redirected_arc f) (λ a. refl) arcs

mark_fits : (mark : Mark) (arcs arcs' : List Arc) → flags arcs' ≡ flags arcs → FitsMark mark arcs → FitsMark mark arcs'
mark_fits Idle arcs arcs' same fits = tt
mark_fits Active arcs arcs' same fits = tt
mark_fits (Waiting k) arcs arcs' same fits = (fits.0, omega (arith, fits.1))

module _ (g : Graph) (order : List NodeId) (fine : IsWellFormed g) (is : IsOrder g order) where
  all_in : AllByRecursion (HasNode g) order
  all_in = visits_in fine is (fine.root, tt) tt

  distinct : AreDistinct order
  distinct = visits_distinct is tt

  root_in : Among order g.root
  root_in = (visits_seen is).0

  closed : (x : NodeId) → Among order x → AllByRecursion (Among order) (targets g x)
  closed x has = elim (visits_closed is x has) [ inl none ↦ absurd none | inr all ↦ all ]

  arcs_in : (arcs : List Arc) → AllByRecursion (Among order) (map (λ a. a.target) arcs) → AllByRecursion (λ a. a.target.number < length order) (map (redirected_arc (placed order)) arcs)
  arcs_in [] have = tt
  arcs_in (a ∷ arcs) have = (place_below order a.target have.0, arcs_in arcs have.1)

  arcs_back : (arcs : List Arc) → AllByRecursion (Among order) (map (λ a. a.target) arcs) → map (redirected_arc (image order)) (map (redirected_arc (placed order)) arcs) ≡ arcs
  arcs_back [] have = refl
  arcs_back (a ∷ arcs) have =
      let here : image order (placed order a.target) ≡ a.target = bound_is order (place_in order a.target) a.target (get_place order a.target have.0) in
      rw (here, arcs_back arcs have.1) refl

  targets_there : (x : NodeId) (node : Node) → Among order x → node_at g x ≡ Some node → AllByRecursion (Among order) (map (λ a. a.target) node.arcs)
  targets_there x node has at = subst (λ o. AllByRecursion (Among order) (targets_of o)) at (closed x has)

  node_fine : (x : NodeId) (node : Node) → Among order x → node_at g x ≡ Some node → IsFineNode (length order) (renumbered (placed order) node)
  node_fine x node has at =
      let here : IsFineNode (length g.nodes) node = All-slice_get (IsFineNode (length g.nodes)) g.nodes x.number node fine.each at in
      record {
        targets = All-from_recursion (λ a. a.target.number < length order) (map (redirected_arc (placed order)) node.arcs) (arcs_in node.arcs (targets_there x node has at));
        few = rw length-map here.few;
        label = fits_label-map (redirected_arc (placed order)) node.label node.arcs here.label;
        mark = mark_fits node.mark node.arcs (map (redirected_arc (placed order)) node.arcs) (flags_kept (placed order) node.arcs) here.mark;
      }

  nodes_fine : (ns : List NodeId) → AllByRecursion (Among order) ns → AllByRecursion (IsFineNode (length order)) (map (λ n. restricted_node order (node_at g n)) ns)
  nodes_fine [] have = tt
  nodes_fine (n ∷ ns) have =
      let there : NodeThere g n = node_there g n (each_among (HasNode g) order n all_in have.0) in
      (subst (λ o. IsFineNode (length order) (restricted_node order o)) (sym there.1) (node_fine n there.0 have.0 there.1), nodes_fine ns have.1)

  each_own : (ms ns : List NodeId) → ((x : NodeId) → Among ns x → Among ms x) → AllByRecursion (Among ms) ns
  each_own ms [] sub = tt
  each_own ms (n ∷ ns) sub = (sub n (inl refl), each_own ms ns (λ x has. sub x (inr has)))

  size : length (restricted g order).nodes ≡ length order
  size = length-map order (λ n. restricted_node order (node_at g n))

  restricted_fine : IsWellFormed (restricted g order)
  restricted_fine = record {
    some = let below : place_in order g.root < length order = place_below order g.root root_in in omega (arith, size, below);
    root = rw size (place_below order g.root root_in);
    each = subst (λ c. All (IsFineNode c) (restricted g order).nodes) (sym size) (All-from_recursion (IsFineNode (length order)) (restricted g order).nodes (nodes_fine order (each_own order order (λ x has. has))));
  }

  node_back : (x : NodeId) (n : NodeId) (node : Node) → slice_get order x.number ≡ Some n → node_at (restricted g order) x ≡ Some node → node_at g (image order x) ≡ Some (renumbered (image order) node)
  node_back x n node at stands =
      let has : Among order n = get_among order x.number n at in
      let there : NodeThere g n = node_there g n (each_among (HasNode g) order n all_in has) in
      let got : node_at (restricted g order) x ≡ Some (restricted_node order (node_at g n)) = slice_get-map (λ m. restricted_node order (node_at g m)) order x.number ∙ ap (option_map (λ m. restricted_node order (node_at g m))) at in
      let both : Some (renumbered (placed order) there.0) ≡ Some node = ap (λ o. Some (restricted_node order o)) (sym there.1) ∙ sym got ∙ stands in
      let same : renumbered (placed order) there.0 ≡ node = cc in
      ap (node_at g) (bound_is order x.number n at) ∙ there.1
      ∙ ap (λ arcs. Some (node_with there.0.label arcs there.0.mark)) (sym (arcs_back there.0.arcs (targets_there n there.0 has there.1)))
      ∙ ap (λ z. Some (renumbered (image order) z)) same

  got_at : (x : NodeId) → HasNode (restricted g order) x → (n : NodeId) × (slice_get order x.number ≡ Some n)
  got_at x has =
      elim (slice_get_cases order x.number).1 [
        | inl (n, inside, at, same) ↦ (n, at)
        | inr (past, none) ↦ absurd (omega (arith, size, has))
      ]

  restricted_once : (x y : NodeId) → HasNode (restricted g order) x → HasNode (restricted g order) y → image order x ≡ image order y → x ≡ y
  restricted_once x y has also e =
      let one = got_at x has in
      let other = got_at y also in
      let same : other.0 ≡ one.0 = sym (bound_is order y.number other.0 other.1) ∙ sym e ∙ bound_is order x.number one.0 one.1 in
      ap numbered (one_place order distinct x.number y.number one.0 one.1 (other.1 ∙ ap Some same))

  pub restriction : IsRestriction g order (restricted g order)
  restriction = record {
    fine = restricted_fine;
    is_order = is;
    within = record {
      long = sym size;
      renumbers = record {
        once = restricted_once;
        nodes = λ x node at. let got = got_at x (has_node (restricted g order) x node at) in node_back x got.0 node got.1 at;
        root = sym (bound_is order (place_in order g.root) g.root (get_place order g.root root_in));
      };
    };
  }

pub has_restriction : HasRestriction
has_restriction g order fine is = (restricted g order, restriction g order fine is)
