-- The nodes that a step made active, in ascending order.
use Rattle.std.proofs.Common.{◌≡◌, ℕ, zero, suc, ◌+◌, ◌<◌, ◌≤◌, Bool, true, false, not, ◌&&◌, ◌||◌, eqb, List, [], ◌∷◌, length, get_or, refl, sym, ap, ◌∙◌, arith, subst, inl, inr}
use Rattle.std.specs.List.{slice_get, IsDistinct}
use Rattle.std.specs.List.Sorted.{IsPermutation, IsNonDecreasing, IsStrictlyIncreasing}
use Rattle.std.proofs.lemmas.Bool.{eqb-true, eqb-false, eq-eqb, ne_eqb, cases_Bool, both_ways, or_left}
use Rattle.std.proofs.lemmas.List.{length-map, get_or-map}
use Rattle.std.proofs.lemmas.List.Sorted.{IsPermutation-map, list_any-IsPermutation}
use Rattle.std.proofs.lemmas.Map.Keys.{IsStrictlyIncreasing-from_distinct, IsDistinct-IsPermutation}
use Rattle.dactl_active.specs.Ring.{has}
use Rattle.dactl_model.specs.declared.graph.NodeId.{NodeId}
use Rattle.dactl_model.specs.declared.graph.Node.{Node}
use Rattle.dactl_model.specs.declared.graph.Graph.{Graph}
use Rattle.dactl_model.specs.declared.graph.Event.{Event}
use Rattle.dactl_model.specs.Acts.{marks_active, active_in, node_of_event, acts_from, acts_of_step}
use Rattle.dactl_model.specs.Rooms.{IsAscending}
use Rattle.dactl_store.specs.Notifying.{numbers}

-- the numbers rise, and are not below k
IsRising : ℕ → List ℕ → Type 0
IsRising k [] = Unit {0}
IsRising k (x ∷ xs) = (k ≤ x) × IsRising (suc x) xs

rising_from : (k : ℕ) (xs : List ℕ) (m : ℕ) → IsRising k xs → has xs m ≡ true → k ≤ m
unfolding IsRising
rising_from k [] m rises there = absurd (both_ways false refl there)
rising_from k (x ∷ xs) m rises there = elim (cases_Bool (eqb m x)) [
  | inl same ↦ (let e : m ≡ x = eqb-true m x same in omega (arith, rises.0))
  | inr other ↦ (let rest : has xs m ≡ true = rw other at there in omega (arith, rises.0, rising_from (suc x) xs m rises.1 rest))
]

rising_absent : (x k : ℕ) (xs : List ℕ) → IsRising k xs → x < k → has xs x ≡ false
rising_absent x k xs rises below = elim (cases_Bool (has xs x)) [
  | inl there ↦ (let from = rising_from k xs x rises there in absurd (omega arith))
  | inr absent ↦ absent
]

here : (x : ℕ) (xs : List ℕ) → has (x ∷ xs) x ≡ true
here x xs = or_left (eqb x x) (has xs x) (eq-eqb x x refl)

rising_same : (j k : ℕ) (xs ys : List ℕ) → IsRising j xs → IsRising k ys → ((m : ℕ) → has xs m ≡ has ys m) → xs ≡ ys
unfolding IsRising
rising_same j k [] [] first second same = refl
rising_same j k [] (y ∷ ys) first second same = absurd (both_ways false refl (same y ∙ here y ys))
rising_same j k (x ∷ xs) [] first second same = absurd (both_ways false refl (sym (same x) ∙ here x xs))
rising_same j k (x ∷ xs) (y ∷ ys) first second same =
    let lower : y ≤ x = rising_from y (y ∷ ys) x (omega arith, second.1) (sym (same x) ∙ here x xs) in
    let upper : x ≤ y = rising_from x (x ∷ xs) y (omega arith, first.1) (same y ∙ here y ys) in
    let equal : x ≡ y = omega arith in
    let rest : xs ≡ ys = rising_same (suc x) (suc y) xs ys first.1 second.1 (λ m. elim (cases_Bool (eqb m x)) [
      | inl at ↦
          let e : m ≡ x = eqb-true m x at in
          rising_absent m (suc x) xs first.1 (omega arith) ∙ sym (rising_absent m (suc y) ys second.1 (omega arith))
      | inr other ↦
          let also : eqb m y ≡ false = ap (eqb m) (sym equal) ∙ other in
          sym (ap (λ b. b || has xs m) other) ∙ same m ∙ ap (λ b. b || has ys m) also
    ]) in
    cc

tail_increases : (x : ℕ) (xs : List ℕ) → IsStrictlyIncreasing (x ∷ xs) → IsStrictlyIncreasing xs
tail_increases x xs is k below = let next : suc k + 1 ≡ suc (k + 1) = omega arith in subst (λ n. get_or xs k 0 < get_or (x ∷ xs) n 0) next (is (suc k) (omega arith))

rising_increases : (x : ℕ) (xs : List ℕ) → IsStrictlyIncreasing (x ∷ xs) → IsRising (suc x) xs
unfolding IsRising
rising_increases x [] is = tt
rising_increases x (y ∷ ys) is = (let step : x < y = is 0 (omega arith) in omega arith, rising_increases y ys (tail_increases x (y ∷ ys) is))

rises : (xs : List ℕ) → IsStrictlyIncreasing xs → IsRising 0 xs
unfolding IsRising
rises [] is = tt
rises (x ∷ xs) is = (omega arith, rising_increases x xs is)

rising_at : (j k : ℕ) (xs : List ℕ) → k ≤ j → IsRising j xs → IsRising k xs
unfolding IsRising
rising_at j k [] lower is = tt
rising_at j k (x ∷ xs) lower is = (omega (arith, is.0), is.1)

eqb_flips : (x y : ℕ) → eqb x y ≡ eqb y x
eqb_flips x y = elim (cases_Bool (eqb x y)) [
  | inl same ↦ same ∙ sym (eq-eqb y x (sym (eqb-true x y same)))
  | inr other ↦ other ∙ sym (ne_eqb y x (λ e. eqb-false x y other (sym e)))
]

-- whether a step made the node of number k active, the node of the event being n
abbrev pub is_act : Graph → ℕ → ℕ → Bool → Bool
is_act before n k active = active && (not (active_in (slice_get before.nodes k)) || eqb k n)

acts_rise : (before : Graph) (n : NodeId) (k : ℕ) (nodes : List Node) → IsRising k (numbers (acts_from before n k nodes))
unfolding IsRising
acts_rise before n k [] = tt
acts_rise before n k (node ∷ nodes) = elim (cases_Bool (is_act before n.number k (marks_active node.mark))) [
  | inl act ↦ rw act (omega arith, rising_at (k + 1) (suc k) (numbers (acts_from before n (k + 1) nodes)) (omega arith) (acts_rise before n (k + 1) nodes))
  | inr none ↦ rw none (rising_at (k + 1) k (numbers (acts_from before n (k + 1) nodes)) (omega arith) (acts_rise before n (k + 1) nodes))
]

acts_below : (before : Graph) (n : NodeId) (k m : ℕ) (nodes : List Node) → m < k → has (numbers (acts_from before n k nodes)) m ≡ false
acts_below before n k m nodes below = rising_absent m k (numbers (acts_from before n k nodes)) (acts_rise before n k nodes) below

acts_have : (before : Graph) (n : NodeId) (k j m : ℕ) (nodes : List Node) → m ≡ k + j → has (numbers (acts_from before n k nodes)) m ≡ is_act before n.number m (active_in (slice_get nodes j))
acts_have before n k j m [] at = refl
acts_have before n k zero m (node ∷ nodes) at =
    let e : k ≡ m = omega arith in
    let later = acts_below before n (k + 1) m nodes (omega arith) in
    elim (cases_Bool (is_act before n.number k (marks_active node.mark))) [
      | inl act ↦ rw act (or_left (eqb m k) (has (numbers (acts_from before n (k + 1) nodes)) m) (eq-eqb m k (sym e)) ∙ sym (ap (λ i. is_act before n.number i (marks_active node.mark)) (sym e) ∙ act))
      | inr none ↦ rw none (later ∙ sym (ap (λ i. is_act before n.number i (marks_active node.mark)) (sym e) ∙ none))
    ]
acts_have before n k (suc j) m (node ∷ nodes) at =
    let rest = acts_have before n (k + 1) j m nodes (omega arith) in
    let differ : eqb m k ≡ false = ne_eqb m k (λ e. omega arith) in
    elim (cases_Bool (is_act before n.number k (marks_active node.mark))) [
      | inl act ↦ rw act (ap (λ b. b || has (numbers (acts_from before n (k + 1) nodes)) m) differ ∙ rest)
      | inr none ↦ rw none rest
    ]

by_numbers : (xs ys : List NodeId) → numbers xs ≡ numbers ys → xs ≡ ys
by_numbers [] [] same = refl
by_numbers [] (y ∷ ys) same = absurd (let long : 0 ≡ length (numbers (y ∷ ys)) = ap length same in omega arith)
by_numbers (x ∷ xs) [] same = absurd (let long : length (numbers (x ∷ xs)) ≡ 0 = ap length same in omega arith)
by_numbers (x ∷ xs) (y ∷ ys) same =
    let first : x.number ≡ y.number = cc in
    let node : x ≡ y = ap (λ k. record { number = k }) first in
    let tails : numbers xs ≡ numbers ys = cc in
    let rest = by_numbers xs ys tails in
    cc

ascends : (xs : List NodeId) → IsAscending xs → IsNonDecreasing (numbers xs)
ascends xs is i j d order below =
    let long = length-map xs (λ n. n.number) in
    let node : NodeId = record { number = d } in
    let within : j < length xs = omega (arith, long) in
    let at_i : get_or (numbers xs) i d ≡ (get_or xs i node).number = get_or-map (λ n. n.number) xs i node d (omega arith) in
    let at_j : get_or (numbers xs) j d ≡ (get_or xs j node).number = get_or-map (λ n. n.number) xs j node d (omega arith) in
    omega (arith, at_i, at_j, is i j node order within)

-- a sorted list with the nodes that a step made active, each once, is the list of them
pub acts_are : (before after : Graph) (event : Event) (list sorted : List NodeId) → IsDistinct eqb (numbers list) → IsPermutation list sorted → IsAscending sorted
    → ((m : ℕ) → has (numbers list) m ≡ is_act before (node_of_event event).number m (active_in (slice_get after.nodes m))) → sorted ≡ acts_of_step before event after
acts_are before after event list sorted distinct same ascending members =
    let moved : IsPermutation (numbers list) (numbers sorted) = IsPermutation-map (λ n. n.number) list sorted same in
    let apart : IsDistinct eqb (numbers sorted) = IsDistinct-IsPermutation eqb eqb_flips (numbers list) (numbers sorted) moved distinct in
    let increases = IsStrictlyIncreasing-from_distinct (numbers sorted) (ascends sorted ascending) apart in
    by_numbers sorted (acts_of_step before event after)
    (rising_same 0 0 (numbers sorted) (numbers (acts_of_step before event after)) (rises (numbers sorted) increases) (acts_rise before (node_of_event event) 0 after.nodes)
    (λ m. sym (list_any-IsPermutation (eqb m) (numbers list) (numbers sorted) moved) ∙ members m ∙ sym (acts_have before (node_of_event event) 0 m m after.nodes (omega arith))))
