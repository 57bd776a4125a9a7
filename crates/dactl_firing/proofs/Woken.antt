-- Nodes that are woken one after another.
use Rattle.std.proofs.Common.{◌≡◌, ℕ, zero, suc, ◌+◌, ◌<◌, ◌≤◌, Bool, true, false, not, ◌&&◌, cond, eqb, List, [], ◌∷◌, ◌++◌, length, refl, sym, ap, ◌∙◌, arith, subst, inl, inr}
use Rattle.std.specs.List.{slice_get}
use Rattle.std.proofs.lemmas.Bool.{eqb-true, eq-eqb, ne_eqb, cases_Bool, both_ways, and_parts}
use Rattle.std.proofs.lemmas.Bool.Decides.{nat_tests}
use Rattle.std.proofs.lemmas.List.{length-map, length_push, map-append}
use Rattle.std.proofs.lemmas.Map.Steps.{length-le_from_distinct_below}
use Rattle.dactl_active.specs.Ring.{has}
use Rattle.dactl_active.specs.Places.{AreApart}
use Rattle.dactl_active.proofs.Numbers.{AreApart-push, IsDistinct-from_apart, Lacks-from_has}
use Rattle.dactl_model.specs.declared.graph.NodeId.{NodeId}
use Rattle.dactl_model.specs.declared.graph.Mark.{Mark}
use Rattle.dactl_model.specs.declared.graph.Mark.TheVariants.{Idle, Active, Waiting}
use Rattle.dactl_model.specs.declared.graph.Node.{Node}
use Rattle.dactl_model.specs.Acts.{marks_active}
use Rattle.dactl_model.specs.Matching.{bound_node}
use Rattle.dactl_model.specs.Firing.{is_woken, woken_mark}
use Rattle.dactl_store.specs.Held.{changed_at}
use Rattle.dactl_store.specs.Notifying.{numbers}
use Rattle.dactl_store.proofs.Rings.{has_push}
use Rattle.dactl_store.proofs.Growing.{length-changed_at}
use Rattle.dactl_firing.specs.Waking.{marks_idle, idle_in, active_at, woken_node, woken_nodes, IsWokenList}

idle_wakes : (mark : Mark) → marks_idle mark ≡ true → Active ≡ woken_mark true mark
idle_wakes Idle is = refl
idle_wakes Active is = absurd (both_ways false refl is)
idle_wakes (Waiting k) is = absurd (both_ways false refl is)

other_stays : (mark : Mark) → marks_idle mark ≡ false → mark ≡ woken_mark true mark
other_stays Idle is = absurd (both_ways true is refl)
other_stays Active is = refl
other_stays (Waiting k) is = refl

-- an idle node is woken when it is marked active
pub wake_idle : (n : ℕ) (nodes : List Node) → idle_in (slice_get nodes n) ≡ true → changed_at n (λ node. record node { mark = Active }) nodes ≡ changed_at n (woken_node true) nodes
wake_idle n [] idle = refl
wake_idle zero (node ∷ nodes) idle = ap (λ mark. record node { mark = mark } ∷ nodes) (idle_wakes node.mark idle)
wake_idle (suc n) (node ∷ nodes) idle = ap (λ rest. node ∷ rest) (wake_idle n nodes idle)

-- another is as it was
pub wake_other : (n : ℕ) (nodes : List Node) → idle_in (slice_get nodes n) ≡ false → nodes ≡ changed_at n (woken_node true) nodes
wake_other n [] other = refl
wake_other zero (node ∷ nodes) other = ap (λ mark. record node { mark = mark } ∷ nodes) (other_stays node.mark other)
wake_other (suc n) (node ∷ nodes) other = ap (λ rest. node ∷ rest) (wake_other n nodes other)

pub woken_none : (h : List NodeId) (k : ℕ) (nodes : List Node) → woken_nodes h [] k nodes ≡ nodes
woken_none h k [] = refl
woken_none h k (node ∷ nodes) = ap (λ rest. node ∷ rest) (woken_none h (k + 1) nodes)

woken_twice : (b : Bool) (mark : Mark) → woken_mark true mark ≡ woken_mark b (woken_mark true mark)
woken_twice true Idle = refl
woken_twice true Active = refl
woken_twice true (Waiting k) = refl
woken_twice false mark = refl

module _ (h : List NodeId) (v : ℕ) (wakes : List ℕ) where
  -- the first wake is not of a node of these numbers
  later : (k : ℕ) (nodes : List Node) → (bound_node h v).number < k → woken_nodes h (v ∷ wakes) k nodes ≡ woken_nodes h wakes k nodes
  later k [] below = refl
  later k (node ∷ nodes) below =
      let other : eqb (bound_node h v).number k ≡ false = ne_eqb (bound_node h v).number k (λ e. omega arith) in
      let rest = later (k + 1) nodes (omega arith) in
      rw (other, rest) refl

  -- the first wake, and then the others
  pub woken_more : (j k : ℕ) (nodes : List Node) → (bound_node h v).number ≡ k + j → woken_nodes h (v ∷ wakes) k nodes ≡ woken_nodes h wakes k (changed_at j (woken_node true) nodes)
  woken_more j k [] at = refl
  woken_more zero k (node ∷ nodes) at =
      let here : eqb (bound_node h v).number k ≡ true = eq-eqb (bound_node h v).number k (omega arith) in
      let rest = later (k + 1) nodes (omega arith) in
      rw (here, rest) (ap (λ mark. record node { mark = mark } ∷ woken_nodes h wakes (k + 1) nodes) (woken_twice (is_woken h wakes k) node.mark))
  woken_more (suc j) k (node ∷ nodes) at =
      let other : eqb (bound_node h v).number k ≡ false = ne_eqb (bound_node h v).number k (λ e. omega arith) in
      let rest = woken_more j (k + 1) nodes (omega arith) in
      rw (other, rest) refl

idle_passive : (mark : Mark) → marks_idle mark ≡ true → marks_active mark ≡ false
idle_passive Idle is = refl
idle_passive Active is = absurd (both_ways false refl is)
idle_passive (Waiting k) is = refl

pub passive_at : (n : ℕ) (nodes : List Node) → idle_in (slice_get nodes n) ≡ true → active_at nodes n ≡ false
passive_at n [] idle = refl
passive_at zero (node ∷ nodes) idle = idle_passive node.mark idle
passive_at (suc n) (node ∷ nodes) idle = passive_at n nodes idle

eqb_next : (m n : ℕ) → eqb m n ≡ eqb (suc m) (suc n)
eqb_next m n = grind (arith, nat_tests)

-- who is woken is active, and nobody else's activity is changed
active_changed : (n m : ℕ) (nodes : List Node) → idle_in (slice_get nodes n) ≡ true → active_at (changed_at n (woken_node true) nodes) m ≡ cond (eqb m n) true (active_at nodes m)
active_changed n m [] idle = absurd (both_ways false refl idle)
active_changed zero zero (node ∷ nodes) idle = sym (ap marks_active (idle_wakes node.mark idle))
active_changed zero (suc m) (node ∷ nodes) idle = rw (ne_eqb (suc m) 0 (λ e. omega arith)) refl
active_changed (suc n) zero (node ∷ nodes) idle = rw (ne_eqb 0 (suc n) (λ e. omega arith)) refl
active_changed (suc n) (suc m) (node ∷ nodes) idle = active_changed n m nodes idle ∙ ap (λ b. cond b true (active_at nodes m)) (eqb_next m n)

pub active_within : (nodes : List Node) (m : ℕ) → active_at nodes m ≡ true → m < length nodes
active_within [] m active = absurd (both_ways false refl active)
active_within (node ∷ nodes) zero active = omega arith
active_within (node ∷ nodes) (suc m) active = let below = active_within nodes m active in omega arith

-- the list has each node once that is active now and was not so, and who was active is
pub record IsWakening (old now : List Node) (list : List NodeId) : Type 0 where
  pub long : length now ≡ length old
  pub stays : (m : ℕ) → active_at old m ≡ true → active_at now m ≡ true
  pub apart : AreApart (numbers list)
  pub members : (m : ℕ) → has (numbers list) m ≡ (active_at now m && not (active_at old m))

none_woken : (b : Bool) → false ≡ (b && not b)
none_woken true = refl
none_woken false = refl

pub wakening_begins : (old : List Node) (list : List NodeId) → list ≡ [] → IsWakening old old list
wakening_begins old list empty = record {
  long = refl;
  stays = λ m active. active;
  apart = subst (λ l. AreApart (numbers l)) (sym empty) tt;
  members = λ m. ap (λ l. has (numbers l) m) empty ∙ none_woken (active_at old m);
}

pub wakening_ends : (old now : List Node) (list : List NodeId) → IsWakening old now list → IsWokenList old now list
wakening_ends old now list is = record { distinct = IsDistinct-from_apart (numbers list) is.apart; members = is.members }

module _ (old now : List Node) (list : List NodeId) (n : NodeId) (is : IsWakening old now list) (idle : idle_in (slice_get now n.number) ≡ true) where
  passive : active_at now n.number ≡ false
  passive = passive_at n.number now idle

  absent : has (numbers list) n.number ≡ false
  absent = is.members n.number ∙ ap (λ b. b && not (active_at old n.number)) passive

  passive_at_first : active_at old n.number ≡ false
  passive_at_first = elim (cases_Bool (active_at old n.number)) [
    | inl active ↦ absurd (both_ways (active_at now n.number) passive (is.stays n.number active))
    | inr none ↦ none
  ]

  apart_more : AreApart (numbers list ++ n.number ∷ [])
  apart_more = AreApart-push (numbers list) n.number is.apart (Lacks-from_has (numbers list) n.number absent)

  -- there is room in the list for a further idle node
  pub wakening_room : n.number < length now → length list + 1 ≤ length now
  wakening_room there =
      let within = length-le_from_distinct_below (numbers list ++ n.number ∷ []) (length now) (IsDistinct-from_apart (numbers list ++ n.number ∷ []) apart_more) (λ m member.
      elim (cases_Bool (eqb m n.number)) [
        | inl same ↦ (let e : m ≡ n.number = eqb-true m n.number same in omega arith)
        | inr other ↦
            let in_list : has (numbers list) m ≡ true = sym (has_push (numbers list) n.number m ∙ ap (λ b. cond b true (has (numbers list) m)) other) ∙ member in
            active_within now m (and_parts (active_at now m) (not (active_at old m)) (sym (is.members m) ∙ in_list)).0
      ]) in
      omega (arith, within, length_push (numbers list) n.number, length-map list (λ x. x.number))

  pub wakening_more : IsWakening old (changed_at n.number (woken_node true) now) (list ++ n ∷ [])
  wakening_more = record {
    long = length-changed_at n.number (woken_node true) now ∙ is.long;
    stays = λ m active. active_changed n.number m now idle ∙ elim (cases_Bool (eqb m n.number)) [
      | inl same ↦ ap (λ b. cond b true (active_at now m)) same
      | inr other ↦ ap (λ b. cond b true (active_at now m)) other ∙ is.stays m active
    ];
    apart = subst AreApart (sym (map-append (λ x. x.number) list (n ∷ []))) apart_more;
    members = λ m. ap (λ xs. has xs m) (map-append (λ x. x.number) list (n ∷ [])) ∙ has_push (numbers list) n.number m ∙ elim (cases_Bool (eqb m n.number)) [
      | inl same ↦
          let e : m ≡ n.number = eqb-true m n.number same in
          let first : active_at old m ≡ false = ap (active_at old) e ∙ passive_at_first in
          let after : active_at (changed_at n.number (woken_node true) now) m ≡ true = active_changed n.number m now idle ∙ ap (λ b. cond b true (active_at now m)) same in
          ap (λ b. cond b true (has (numbers list) m)) same ∙ sym (ap (λ b. b && not (active_at old m)) after ∙ ap (λ b. true && not b) first)
      | inr other ↦
          let after : active_at (changed_at n.number (woken_node true) now) m ≡ active_at now m = active_changed n.number m now idle ∙ ap (λ b. cond b true (active_at now m)) other in
          ap (λ b. cond b true (has (numbers list) m)) other ∙ is.members m ∙ sym (ap (λ b. b && not (active_at old m)) after)
    ];
  }

-- one more node, idle or not
pub wakening_step : (old now new : List Node) (list list' : List NodeId) (n : NodeId) → IsWakening old now list → new ≡ changed_at n.number (woken_node true) now
    → list' ≡ cond (idle_in (slice_get now n.number)) (list ++ n ∷ []) list → IsWakening old new list'
wakening_step old now new list list' n is changed listed = elim (cases_Bool (idle_in (slice_get now n.number))) [
  | inl idle ↦
      let l : list' ≡ list ++ n ∷ [] = listed ∙ ap (λ b. cond b (list ++ n ∷ []) list) idle in
      subst (λ nodes. IsWakening old nodes list') (sym changed) (subst (IsWakening old (changed_at n.number (woken_node true) now)) (sym l) (wakening_more old now list n is idle))
  | inr other ↦
      let l : list' ≡ list = listed ∙ ap (λ b. cond b (list ++ n ∷ []) list) other in
      let same : now ≡ new = wake_other n.number now other ∙ sym changed in
      subst (λ nodes. IsWakening old nodes list') same (subst (IsWakening old now) (sym l) is)
]
