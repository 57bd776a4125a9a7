-- Each well-formed graph has an order.
use Rattle.std.proofs.Common.{◌≡◌, ℕ, zero, suc, ◌+◌, ◌<◌, ◌≤◌, Bool, true, false, cond, List, [], ◌∷◌, ◌++◌, length, refl, sym, ◌∙◌, ap, arith, ◌⊎◌, inl, inr}
use Rattle.std.specs.List.{AllByRecursion}
use Rattle.std.proofs.lemmas.Bool.{eq-eqb, cases_lt}
use Rattle.dactl_model.specs.declared.graph.NodeId.{NodeId}
use Rattle.dactl_model.specs.declared.graph.Graph.{Graph}
use Rattle.dactl_model.specs.Patterns.{same_node}
use Rattle.dactl_model.specs.Graphs.{HasNode, IsWellFormed}
use Rattle.dactl_model.proofs.Unique.{same_node_is}
use Rattle.dactl_print.specs.Order.{Visits, ended, passed, joined, targets}
use Rattle.dactl_within.specs.Renumbering.{nodes_from}
use Rattle.dactl_within.proofs.FireKept.{numbered}
use Rattle.dactl_within.proofs.StepKept.{length-nodes_from}
use Rattle.dactl_resume.specs.Statements.{HasOrder}
use Rattle.dactl_resume.proofs.Among.{Among, among, contains, among_left, among_right}
use Rattle.dactl_resume.proofs.Visiting.{targets_each}
use Rattle.dactl_resume.proofs.Existing.{visits_keep}

differ : (m n : NodeId) → same_node m n ≡ false → m ≡ n → ⊥
differ m n same at = let e : true ≡ false = sym (ap (λ z. same_node m z) (sym at) ∙ eq-eqb m.number m.number refl) ∙ same in cc

among_or_not_by : (m n : NodeId) (ms : List NodeId) (b : Bool) → same_node m n ≡ b → Among ms n ⊎ (Among ms n → ⊥) → Among (m ∷ ms) n ⊎ (Among (m ∷ ms) n → ⊥)
among_or_not_by m n ms true same rest = inl (inl (same_node_is m n same))
among_or_not_by m n ms false same (inl is) = inl (inr is)
among_or_not_by m n ms false same (inr none) =
    inr (λ is. elim is [ inl at ↦ differ m n same at | inr later ↦ none later ])

among_or_not : (ms : List NodeId) (n : NodeId) → Among ms n ⊎ (Among ms n → ⊥)
among_or_not [] n = inr (λ is. is)
among_or_not (m ∷ ms) n = among_or_not_by m n ms (same_node m n) refl (among_or_not ms n)

-- the list without a node
pub without : NodeId → List NodeId → List NodeId
without n [] = []
without n (m ∷ ms) = cond (same_node m n) (without n ms) (m ∷ without n ms)

fewer_by : (n m : NodeId) (ms : List NodeId) (b : Bool) → length (without n ms) ≤ length ms → length (cond b (without n ms) (m ∷ without n ms)) ≤ suc (length ms)
fewer_by n m ms true few = omega arith
fewer_by n m ms false few = omega arith

no_more : (n : NodeId) (ms : List NodeId) → length (without n ms) ≤ length ms
unfolding without
no_more n [] = omega arith
no_more n (m ∷ ms) = fewer_by n m ms (same_node m n) (no_more n ms)

less_by : (n m : NodeId) (ms : List NodeId) (b : Bool) → same_node m n ≡ b → Among (m ∷ ms) n → (Among ms n → length (without n ms) < length ms) → length (cond b (without n ms) (m ∷ without n ms)) < suc (length ms)
less_by n m ms true same is step = let few = no_more n ms in omega arith
less_by n m ms false same (inl at) step = absurd (differ m n same at)
less_by n m ms false same (inr is) step = let few = step is in omega arith

pub one_less : (n : NodeId) (ms : List NodeId) → Among ms n → length (without n ms) < length ms
unfolding without
one_less n [] is = absurd is
one_less n (m ∷ ms) is = less_by n m ms (same_node m n) refl is (one_less n ms)

kept_by : (n m x : NodeId) (ms : List NodeId) (b : Bool) → same_node m n ≡ b → Among (m ∷ ms) x → (Among ms x → (n ≡ x) ⊎ Among (without n ms) x) → (n ≡ x) ⊎ Among (cond b (without n ms) (m ∷ without n ms)) x
kept_by n m x ms true same (inl at) step = inl (sym (same_node_is m n same) ∙ at)
kept_by n m x ms true same (inr is) step = step is
kept_by n m x ms false same (inl at) step = inr (inl at)
kept_by n m x ms false same (inr is) step = elim (step is) [ inl at ↦ inl at | inr there ↦ inr (inr there) ]

pub kept : (n x : NodeId) (ms : List NodeId) → Among ms x → (n ≡ x) ⊎ Among (without n ms) x
unfolding without
kept n x [] is = absurd is
kept n x (m ∷ ms) is = kept_by n m x ms (same_node m n) refl is (kept n x ms)

pub all_left : (m count k : ℕ) → m ≤ k → k < m + count → Among (nodes_from m count) (numbered k)
all_left m zero k above below = absurd (omega arith)
all_left m (suc count) k above below =
    elim (cases_lt m k) [
      | inl later ↦ inr (all_left (m + 1) count k (omega arith) (omega arith))
      | inr here ↦ (let same : m ≡ k = omega arith in inl (ap numbered same))
    ]

module _ (g : Graph) (fine : IsWellFormed g) where
  -- each node has been visited, or is left
  abbrev Covers : List NodeId → List NodeId → Type 0
  Covers before left = (x : NodeId) → HasNode g x → Among before x ⊎ Among left x

  abbrev Visited : List NodeId → List NodeId → Type 0
  Visited ns before = (after : List NodeId) × Visits g ns before after

  covers_more : (before between left : List NodeId) (n : NodeId) → Covers before left → ((x : NodeId) → Among (before ++ n ∷ []) x → Among between x) → Covers between (without n left)
  covers_more before between left n covers grown x has =
      elim (covers x has) [
        | inl seen ↦ inl (grown x (among_left before (n ∷ []) x seen))
        | inr there ↦ elim (kept n x left there) [ inl at ↦ inl (grown x (among_right before (n ∷ []) x (inl at))) | inr still ↦ inr still ]
      ]

  visit : (fuel : ℕ) (ns before left : List NodeId) → length left ≤ fuel → AllByRecursion (HasNode g) ns → Covers before left → Visited ns before
  visit fuel [] before left few have covers = (before, ended)
  visit zero (n ∷ ns) before left few have covers =
      elim (covers n have.0) [
        | inl seen ↦ (let rest = visit zero ns before left few have.1 covers in (rest.0, passed (contains before n seen) rest.1))
        | inr there ↦ absurd (let some = one_less n left there in omega (arith, few, some))
      ]
  visit (suc fuel) (n ∷ ns) before left few have covers =
      elim (among_or_not before n) [
        | inl seen ↦ (let rest = visit (suc fuel) ns before left few have.1 covers in (rest.0, passed (contains before n seen) rest.1))
        | inr new ↦
            elim (covers n have.0) [
              | inl seen ↦ absurd (new seen)
              | inr there ↦
                  (let some = one_less n left there in
                  let below = visit fuel (targets g n) (before ++ n ∷ []) (without n left) (omega (arith, few, some)) (targets_each g fine n have.0) (covers_more before (before ++ n ∷ []) left n covers (λ x is. is)) in
                  let rest = visit fuel ns below.0 (without n left) (omega (arith, few, some)) have.1 (covers_more before below.0 left n covers (visits_keep below.1)) in
                  (rest.0, joined (λ c. new (among before n c)) below.1 rest.1))
            ]
      ]

  ordered : Visited (g.root ∷ []) []
  ordered = visit (length g.nodes) (g.root ∷ []) [] (nodes_from 0 (length g.nodes)) (omega (arith, length-nodes_from 0 (length g.nodes))) (fine.root, tt) (λ x has. inr (all_left 0 (length g.nodes) x.number (omega arith) (omega (arith, has))))

pub has_order : HasOrder
has_order g fine = ordered g fine
