-- Each well-formed graph has an order, and so a text: a visit comes to its end, since it passes each node once.
use Rattle.std.proofs.Common.{◌≡◌, ℕ, zero, suc, ◌+◌, ◌<◌, ◌≤◌, ◌⊎◌, ◌==◌, cond, List, [], ◌∷◌, ◌++◌, length, map, Option, All, refl, sym, ap, ◌∙◌, subst, inl, inr, arith}
use Rattle.std.specs.List.{Contains, AllByRecursion}
use Rattle.std.proofs.lemmas.Bool.{cond-true, cond-false, eq-eqb, ne_eqb, cases_eq, cases_lt}
use Rattle.std.proofs.lemmas.List.Elements.{Contains-append_left, Contains-push, All-map, recursion_from_All}
use Rattle.std.proofs.lemmas.Option.{slice_get_cases}
use Rattle.dactl_model.specs.declared.graph.NodeId.{NodeId}
use Rattle.dactl_model.specs.declared.graph.Arc.{Arc}
use Rattle.dactl_model.specs.declared.graph.Node.{Node}
use Rattle.dactl_model.specs.declared.graph.Graph.{Graph}
use Rattle.dactl_model.specs.Graphs.{HasNode, IsWellFormed, IsFineNode}
use Rattle.dactl_model.proofs.Pairs.{All-slice_get}
use Rattle.dactl_print.specs.Order.{Visits, ended, passed, joined, targets, targets_of, number_from, IsOrder}
use Rattle.dactl_print.specs.Lines.{graph_lines}
use Rattle.dactl_top.specs.Laws.{EachHasText}
use Rattle.dactl_print.proofs.Numbers.{number_found, number_zero}

-- ---- lists of numbers that are still to come

Has : ℕ → List ℕ → Type 0
Has m [] = ⊥
Has m (x ∷ xs) = (x ≡ m) ⊎ Has m xs

without : ℕ → List ℕ → List ℕ
without n [] = []
without n (x ∷ xs) = cond (x == n) (without n xs) (x ∷ without n xs)

below : ℕ → List ℕ
below zero = []
below (suc k) = k ∷ below k

below_has : (m count : ℕ) → m < count → Has m (below count)
unfolding Has below
below_has m zero lt = absurd (omega arith)
below_has m (suc k) lt = elim (cases_eq k m) [ inl e ↦ inl e | inr ne ↦ inr (below_has m k (let other : k ≡ m → ⊥ = ne in omega arith)) ]

no_longer : (n : ℕ) (xs : List ℕ) → length (without n xs) ≤ length xs
unfolding without
no_longer n [] = omega arith
no_longer n (x ∷ xs) =
    let rest = no_longer n xs in
    elim (cases_eq x n) as (λ _. length (without n (x ∷ xs)) ≤ length (x ∷ xs)) [
      | inl e ↦ rw (cond-true (x == n) (without n xs) (x ∷ without n xs) (eq-eqb x n e)) (omega arith)
      | inr ne ↦ rw (cond-false (x == n) (without n xs) (x ∷ without n xs) (ne_eqb x n ne)) (omega arith)
    ]

shorter : (n : ℕ) (xs : List ℕ) → Has n xs → length (without n xs) + 1 ≤ length xs
unfolding Has without
shorter n [] has = absurd has
shorter n (x ∷ xs) has =
    elim (cases_eq x n) as (λ _. length (without n (x ∷ xs)) + 1 ≤ length (x ∷ xs)) [
      | inl e ↦ rw (cond-true (x == n) (without n xs) (x ∷ without n xs) (eq-eqb x n e)) (let rest = no_longer n xs in omega arith)
      | inr ne ↦ rw (cond-false (x == n) (without n xs) (x ∷ without n xs) (ne_eqb x n ne))
          (elim has as (λ _. length (x ∷ without n xs) + 1 ≤ length (x ∷ xs)) [ inl e ↦ absurd (ne e) | inr later ↦ let rest = shorter n xs later in omega arith ])
    ]

other_stays : (m n : ℕ) (xs : List ℕ) → (m ≡ n → ⊥) → Has m xs → Has m (without n xs)
unfolding Has without
other_stays m n [] other has = absurd has
other_stays m n (x ∷ xs) other has =
    elim (cases_eq x n) as (λ _. Has m (without n (x ∷ xs))) [
      | inl e ↦ rw (cond-true (x == n) (without n xs) (x ∷ without n xs) (eq-eqb x n e)) (elim has as (λ _. Has m (without n xs)) [ inl is ↦ absurd (other (sym is ∙ e)) | inr later ↦ other_stays m n xs other later ])
      | inr ne ↦ rw (cond-false (x == n) (without n xs) (x ∷ without n xs) (ne_eqb x n ne)) (elim has as (λ _. Has m (x ∷ without n xs)) [ inl is ↦ inl is | inr later ↦ inr (other_stays m n xs other later) ])
    ]

-- ---- visits

-- whether a node has been visited
seen_or_not : (before : List NodeId) (n : NodeId) → Contains before n ⊎ (Contains before n → ⊥)
seen_or_not before n =
    elim (cases_lt 0 (number_from 1 before n)) [
      | inl some ↦ inl (number_found 1 before n some)
      | inr none ↦ inr (number_zero 1 before n (omega arith) (omega (arith, none)))
    ]

-- each node that has not been visited is still to come
Covers : Graph → List ℕ → List NodeId → Type 0
Covers g left before = (m : NodeId) → HasNode g m → (Contains before m → ⊥) → Has m.number left

-- the visit of these nodes comes to its end, and what was visited stays so
record Ends (g : Graph) (nodes before : List NodeId) : Type 0 where
  after : List NodeId
  visits : Visits g nodes before after
  stays : (m : NodeId) → Contains before m → Contains after m

-- where one node fewer is to come, each visit ends
Shorter : Graph → ℕ → Type 0
Shorter g k = (left : List ℕ) (nodes before : List NodeId) → length left ≤ k → Covers g left before → AllByRecursion (HasNode g) nodes → Ends g nodes before

same_node : (m n : NodeId) → m.number ≡ n.number → m ≡ n
same_node m n e = let node : ℕ → NodeId = λ k. record { number = k } in ap node e

covers_less : (g : Graph) (left : List ℕ) (before : List NodeId) (n : NodeId) → Covers g left before → Covers g (without n.number left) (before ++ n ∷ [])
unfolding Covers
covers_less g left before n covers m node new =
    other_stays m.number n.number left (λ e. new (subst (λ x. Contains (before ++ n ∷ []) x) (sym (same_node m n e)) (Contains-push before n)))
    (covers m node (λ old. new (Contains-append_left before (n ∷ []) m old)))

covers_on : (g : Graph) (left : List ℕ) (before after : List NodeId) → ((m : NodeId) → Contains before m → Contains after m) → Covers g left before → Covers g left after
unfolding Covers
covers_on g left before after stays covers m node new = covers m node (λ old. new (stays m old))

none_left : (m : ℕ) (left : List ℕ) → length left ≤ 0 → Has m left → ⊥
unfolding Has
none_left m [] few has = has
none_left m (x ∷ left) few has = absurd (omega arith)

-- where nothing is to come, all nodes have been visited
visits_none : (g : Graph) (left : List ℕ) (nodes before : List NodeId) → length left ≤ 0 → Covers g left before → AllByRecursion (HasNode g) nodes → Ends g nodes before
unfolding Covers
visits_none g left [] before few covers all = record { after = before; visits = ended; stays = λ m is. is }
visits_none g left (n ∷ nodes) before few covers all =
    elim (seen_or_not before n) as (λ _. Ends g (n ∷ nodes) before) [
      | inl old ↦ let rest = visits_none g left nodes before few covers all.1 in record { after = rest.after; visits = passed old rest.visits; stays = rest.stays }
      | inr new ↦ absurd (none_left n.number left few (covers n all.0 new))
    ]

all_targets : (count : ℕ) (arcs : List Arc) → All (λ (a : Arc). a.target.number < count) arcs → AllByRecursion (λ (n : NodeId). n.number < count) (map (λ (a : Arc). a.target) arcs)
all_targets count arcs all = recursion_from_All _ _ (All-map (λ (n : NodeId). n.number < count) (λ (a : Arc). a.target) arcs all)

targets_fine : (g : Graph) (n : NodeId) → IsWellFormed g → AllByRecursion (HasNode g) (targets g n)
targets_fine g n fine = elim (slice_get_cases g.nodes n.number).1 as (λ _. AllByRecursion (HasNode g) (targets g n)) [
  | inl there ↦
      subst (λ (o : Option Node). AllByRecursion (HasNode g) (targets_of o)) (sym there.2) (all_targets (length g.nodes) there.0.arcs (All-slice_get (IsFineNode (length g.nodes)) g.nodes n.number there.0 fine.each there.2).targets)
  | inr past ↦ subst (λ (o : Option Node). AllByRecursion (HasNode g) (targets_of o)) (sym past.1) tt
]

to_come : (g : Graph) (left : List ℕ) (before : List NodeId) (n : NodeId) → Covers g left before → HasNode g n → (Contains before n → ⊥) → Has n.number left
unfolding Covers
to_come g left before n covers node new = covers n node new

-- one node more to come
visits_more : (g : Graph) (k : ℕ) → IsWellFormed g → Shorter g k → (left : List ℕ) (nodes before : List NodeId) → length left ≤ suc k → Covers g left before → AllByRecursion (HasNode g) nodes → Ends g nodes before
unfolding Shorter
visits_more g k fine fewer left [] before few covers all = record { after = before; visits = ended; stays = λ m is. is }
visits_more g k fine fewer left (n ∷ nodes) before few covers all =
    elim (seen_or_not before n) as (λ _. Ends g (n ∷ nodes) before) [
      | inl old ↦ let rest = visits_more g k fine fewer left nodes before few covers all.1 in record { after = rest.after; visits = passed old rest.visits; stays = rest.stays }
      | inr new ↦
          let less = shorter n.number left (to_come g left before n covers all.0 new) in
          let inner = fewer (without n.number left) (targets g n) (before ++ n ∷ []) (omega arith) (covers_less g left before n covers) (targets_fine g n fine) in
          let kept : (m : NodeId) → Contains before m → Contains inner.after m = λ m is. inner.stays m (Contains-append_left before (n ∷ []) m is) in
          let rest = visits_more g k fine fewer left nodes inner.after few (covers_on g left before inner.after kept covers) all.1 in
          record { after = rest.after; visits = joined new inner.visits rest.visits; stays = λ m is. rest.stays m (kept m is) }
    ]

each_ends : (g : Graph) → IsWellFormed g → (k : ℕ) → Shorter g k
unfolding Shorter
each_ends g fine zero left nodes before few covers all = visits_none g left nodes before few covers all
each_ends g fine (suc k) left nodes before few covers all = visits_more g k fine (each_ends g fine k) left nodes before few covers all

pub has_order : (g : Graph) → IsWellFormed g → (order : List NodeId) × IsOrder g order
unfolding Shorter Covers
has_order g fine =
    let visit = each_ends g fine (length (below (length g.nodes))) (below (length g.nodes)) (g.root ∷ []) [] (omega arith) (λ m node new. below_has m.number (length g.nodes) node) (fine.root, tt) in
    (visit.after, visit.visits)

-- a well-formed graph has a text
pub each_has_text : EachHasText
each_has_text p g fine = let order = has_order g fine in (graph_lines p g order.0, record { order = order.0; is_order = order.1; lines = refl })
