-- The nodes before the redirections: one has given up its activity or waits again, and others are woken.
use Rattle.std.proofs.Common.{◌≡◌, ◌≢◌, ℕ, zero, suc, ◌+◌, ◌<◌, ◌≤◌, Bool, true, false, not, ◌&&◌, ◌||◌, cond, eqb, List, [], ◌∷◌, ◌++◌, length, map, refl, sym, ap, subst, ◌∙◌, arith, inl, inr}
use Rattle.std.specs.List.{slice_get, IsDistinct}
use Rattle.std.proofs.lemmas.Bool.{eqb-true, eqb-false, eq-eqb, ne_eqb, cases_Bool, both_ways, and_parts}
use Rattle.std.proofs.lemmas.Cmp.{nat_eq_equiv}
use Rattle.std.proofs.lemmas.List.{length-map, length_push, map-append}
use Rattle.std.proofs.lemmas.Map.Keys.{IsDistinct-push}
use Rattle.std.proofs.lemmas.Map.Steps.{length-le_from_distinct_below}
use Rattle.std.proofs.Math.Bool.{and-true, and-false, or-true, or-false}
use Rattle.dactl_active.specs.Ring.{has}
use Rattle.dactl_model.specs.declared.graph.NodeId.{NodeId}
use Rattle.dactl_model.specs.declared.graph.Arc.{Arc}
use Rattle.dactl_model.specs.declared.graph.Mark.{Mark}
use Rattle.dactl_model.specs.declared.graph.Mark.TheVariants.{Idle, Active, Waiting}
use Rattle.dactl_model.specs.declared.graph.Node.{Node}
use Rattle.dactl_model.specs.declared.graph.Graph.{Graph}
use Rattle.dactl_model.specs.Graphs.{HasNode, flags}
use Rattle.dactl_model.specs.Acts.{marks_active, active_in}
use Rattle.dactl_model.specs.Firing.{redirected_arc, is_woken, woken_mark, root_mark, old_nodes}
use Rattle.dactl_store.specs.Held.{changed_at}
use Rattle.dactl_store.specs.Notifying.{numbers}
use Rattle.dactl_store.proofs.Acting.{is_act}
use Rattle.dactl_store.proofs.Rings.{has_push}
use Rattle.dactl_firing.specs.Suspending.{arcs_in}
use Rattle.dactl_firing.specs.Waking.{active_at, woken_node, woken_nodes, IsWokenList}
use Rattle.dactl_firing.proofs.Woken.{active_within}

-- the node with the mark
abbrev pub marked : Mark → Node → Node
marked mark node = record node { mark = mark }

pub same_arcs : (arcs : List Arc) → map (redirected_arc (λ x. x)) arcs ≡ arcs
same_arcs [] = refl
same_arcs (a ∷ arcs) = ap (λ rest. a ∷ rest) (same_arcs arcs)

-- a wake changes the mark of a root that is idle, and of no other
root_woken : (woken : Bool) (suspend waits : ℕ) → woken_mark woken (root_mark suspend waits false) ≡ root_mark suspend waits woken
root_woken woken zero waits = refl
root_woken true (suc suspend) zero = refl
root_woken true (suc suspend) (suc waits) = refl
root_woken false (suc suspend) waits = refl

module _ (n : NodeId) (h : List NodeId) (wakes : List ℕ) (suspend : ℕ) (mark : Mark) where
  settled_later : (k : ℕ) (nodes : List Node) → n.number < k → woken_nodes h wakes k nodes ≡ old_nodes (λ x. x) n h wakes suspend k nodes
  settled_later k [] below = refl
  settled_later k (node ∷ nodes) below =
      let other : eqb k n.number ≡ false = ne_eqb k n.number (λ e. omega arith) in
      rw (other, same_arcs node.arcs) (ap (λ rest. woken_node (is_woken h wakes k) node ∷ rest) (settled_later (k + 1) nodes (omega arith)))

  pub settled : (j k : ℕ) (nodes : List Node) → n.number ≡ k + j → mark ≡ root_mark suspend (flags (arcs_in (slice_get nodes j))) false
      → woken_nodes h wakes k (changed_at j (marked mark) nodes) ≡ old_nodes (λ x. x) n h wakes suspend k nodes
  settled j k [] at is = refl
  settled zero k (node ∷ nodes) at is =
      let here : eqb k n.number ≡ true = eq-eqb k n.number (omega arith) in
      let after : woken_mark (is_woken h wakes k) mark ≡ root_mark suspend (flags node.arcs) (is_woken h wakes k) = ap (woken_mark (is_woken h wakes k)) is ∙ root_woken (is_woken h wakes k) suspend (flags node.arcs) in
      rw (here, same_arcs node.arcs) (
      ap (λ rest. woken_node (is_woken h wakes k) (marked mark node) ∷ rest) (settled_later (k + 1) nodes (omega arith))
      ∙ ap (λ m. marked m node ∷ old_nodes (λ x. x) n h wakes suspend (k + 1) nodes) after
      )
  settled (suc j) k (node ∷ nodes) at is =
      let other : eqb k n.number ≡ false = ne_eqb k n.number (λ e. omega arith) in
      rw (other, same_arcs node.arcs) (ap (λ rest. woken_node (is_woken h wakes k) node ∷ rest) (settled j (k + 1) nodes (omega arith) is))

active_there : (mark : Mark) (n : ℕ) (nodes : List Node) → n < length nodes → active_at (changed_at n (marked mark) nodes) n ≡ marks_active mark
active_there mark n [] below = absurd (omega arith)
active_there mark zero (node ∷ nodes) below = refl
active_there mark (suc n) (node ∷ nodes) below = active_there mark n nodes (omega arith)

same_elsewhere : (mark : Mark) (n m : ℕ) (nodes : List Node) → m ≢ n → active_at (changed_at n (marked mark) nodes) m ≡ active_at nodes m
same_elsewhere mark n m [] differ = refl
same_elsewhere mark zero zero (node ∷ nodes) differ = absurd (differ refl)
same_elsewhere mark zero (suc m) (node ∷ nodes) differ = refl
same_elsewhere mark (suc n) zero (node ∷ nodes) differ = refl
same_elsewhere mark (suc n) (suc m) (node ∷ nodes) differ = same_elsewhere mark n m nodes (λ e. differ (ap suc e))

mark_stays : (woken : Bool) (mark : Mark) → marks_active mark ≡ true → marks_active (woken_mark woken mark) ≡ true
mark_stays true Idle active = absurd (both_ways false refl active)
mark_stays true Active active = refl
mark_stays true (Waiting k) active = active
mark_stays false mark active = active

-- who is active stays so where others are woken
stays : (h : List NodeId) (wakes : List ℕ) (k m : ℕ) (nodes : List Node) → active_at nodes m ≡ true → active_at (woken_nodes h wakes k nodes) m ≡ true
stays h wakes k m [] active = active
stays h wakes k zero (node ∷ nodes) active = mark_stays (is_woken h wakes k) node.mark active
stays h wakes k (suc m) (node ∷ nodes) active = stays h wakes (k + 1) m nodes active

pub length-woken_nodes : (h : List NodeId) (wakes : List ℕ) (k : ℕ) (nodes : List Node) → length (woken_nodes h wakes k nodes) ≡ length nodes
length-woken_nodes h wakes k [] = refl
length-woken_nodes h wakes k (node ∷ nodes) = ap suc (length-woken_nodes h wakes (k + 1) nodes)

-- the list of those woken after the node got the mark
module _ (before : Graph) (n : NodeId) (mark : Mark) (h : List NodeId) (wakes : List ℕ) (now : List Node) (list : List NodeId) (there : HasNode before n)
    (is : now ≡ woken_nodes h wakes 0 (changed_at n.number (marked mark) before.nodes)) (woken : IsWokenList (changed_at n.number (marked mark) before.nodes) now list) where
  before_wakes : active_at (changed_at n.number (marked mark) before.nodes) n.number ≡ marks_active mark
  before_wakes = active_there mark n.number before.nodes there

  active_now : marks_active mark ≡ true → active_at now n.number ≡ true
  active_now active = ap (λ nodes. active_at nodes n.number) is ∙ stays h wakes 0 n.number (changed_at n.number (marked mark) before.nodes) (before_wakes ∙ active)

  lacks_active : marks_active mark ≡ true → has (numbers list) n.number ≡ false
  lacks_active active = woken.members n.number ∙ ap (λ b. active_at now n.number && not b) (before_wakes ∙ active) ∙ and-false (active_at now n.number)

  distinct_more : marks_active mark ≡ true → IsDistinct eqb (numbers list ++ n.number ∷ [])
  distinct_more active = IsDistinct-push nat_eq_equiv (numbers list) n.number woken.distinct (lacks_active active)

  -- there is room in the list for the node itself, where it is active
  pub root_room : length now ≡ length before.nodes → marks_active mark ≡ true → length list + 1 ≤ length before.nodes
  root_room long active =
      let within = length-le_from_distinct_below (numbers list ++ n.number ∷ []) (length before.nodes) (distinct_more active) (λ m member. elim (cases_Bool (eqb m n.number)) [
        | inl same ↦ (let e : m ≡ n.number = eqb-true m n.number same in omega arith)
        | inr other ↦
            let in_list : has (numbers list) m ≡ true = sym (has_push (numbers list) n.number m ∙ ap (λ b. cond b true (has (numbers list) m)) other) ∙ member in
            let below = active_within now m (and_parts (active_at now m) (not (active_at (changed_at n.number (marked mark) before.nodes) m)) (sym (woken.members m) ∙ in_list)).0 in
            omega (arith, below, long)
      ]) in
      omega (arith, within, length_push (numbers list) n.number, length-map list (λ x. x.number))

  elsewhere : (m : ℕ) → eqb m n.number ≡ false → has (numbers list) m ≡ is_act before n.number m (active_in (slice_get now m))
  elsewhere m other =
      woken.members m ∙ ap (λ b. active_at now m && not b) (same_elsewhere mark n.number m before.nodes (eqb-false m n.number other))
      ∙ sym (ap (λ b. active_at now m && b) (ap (λ b. not (active_at before.nodes m) || b) other ∙ or-false (not (active_at before.nodes m))))

  -- the node itself is made active where it is so
  itself : (m : ℕ) → eqb m n.number ≡ true → is_act before n.number m (active_in (slice_get now m)) ≡ active_at now m
  itself m same = ap (λ b. active_at now m && b) (ap (λ b. not (active_at before.nodes m) || b) same ∙ or-true (not (active_at before.nodes m))) ∙ and-true (active_at now m)

  module _ (list' : List NodeId) (listed : list' ≡ cond (marks_active mark) (list ++ n ∷ []) list) where
    longer : marks_active mark ≡ true → numbers list' ≡ numbers list ++ n.number ∷ []
    longer active = ap numbers (listed ∙ ap (λ b. cond b (list ++ n ∷ []) list) active) ∙ map-append (λ x. x.number) list (n ∷ [])

    same_list : marks_active mark ≡ false → list' ≡ list
    same_list passive = listed ∙ ap (λ b. cond b (list ++ n ∷ []) list) passive

    pub acts_distinct : IsDistinct eqb (numbers list')
    acts_distinct = elim (cases_Bool (marks_active mark)) [
      | inl active ↦ subst (IsDistinct eqb) (sym (longer active)) (distinct_more active)
      | inr passive ↦ subst (λ l. IsDistinct eqb (numbers l)) (sym (same_list passive)) woken.distinct
    ]

    -- it has what the step made active
    pub acts_listed : (m : ℕ) → has (numbers list') m ≡ is_act before n.number m (active_in (slice_get now m))
    acts_listed m = elim (cases_Bool (marks_active mark)) [
      | inl active ↦ ap (λ xs. has xs m) (longer active) ∙ has_push (numbers list) n.number m ∙ elim (cases_Bool (eqb m n.number)) [
        | inl same ↦ ap (λ b. cond b true (has (numbers list) m)) same ∙ sym (itself m same ∙ ap (active_at now) (eqb-true m n.number same) ∙ active_now active)
        | inr other ↦ ap (λ b. cond b true (has (numbers list) m)) other ∙ elsewhere m other
      ]
      | inr passive ↦ ap (λ l. has (numbers l) m) (same_list passive) ∙ elim (cases_Bool (eqb m n.number)) [
        | inl same ↦
            let none : active_at (changed_at n.number (marked mark) before.nodes) m ≡ false = ap (active_at (changed_at n.number (marked mark) before.nodes)) (eqb-true m n.number same) ∙ before_wakes ∙ passive in
            woken.members m ∙ ap (λ b. active_at now m && not b) none ∙ and-true (active_at now m) ∙ sym (itself m same)
        | inr other ↦ elsewhere m other
      ]
    ]
