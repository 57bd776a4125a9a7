-- Owners that are notified along a walk.
use Rattle.std.proofs.Common.{◌≡◌, ℕ, zero, suc, ◌+◌, ◌-◌, ◌<◌, ◌≤◌, Bool, true, false, not, ◌&&◌, cond, eqb, leb, List, [], ◌∷◌, ◌++◌, length, count_by, IsTrue, Some, refl, sym, ap, ◌∙◌, arith, subst, inl, inr, length-set}
use Rattle.std.specs.List.{slice_get}
use Rattle.std.proofs.lemmas.Bool.{eqb-true, eqb-false, eq-eqb, ne_eqb, cases_Bool, both_ways, and_parts}
use Rattle.std.proofs.Math.Bool.{and_assoc}
use Rattle.std.proofs.lemmas.Bool.Decides.{nat_tests}
use Rattle.std.proofs.lemmas.Option.{slice_get_within, get_or_from_slice_get}
use Rattle.std.proofs.lemmas.List.{map-append, length-map, length_push}
use Rattle.std.proofs.lemmas.Map.Steps.{length-le_from_distinct_below}
use Rattle.dactl_active.specs.Ring.{has}
use Rattle.dactl_active.proofs.Numbers.{AreApart-push, IsDistinct-from_apart, Lacks-from_has}
use Rattle.dactl_active.specs.Places.{AreApart}
use Rattle.dactl_arcs.specs.declared.lists.ArcRecord.{ArcRecord}
use Rattle.dactl_arcs.specs.Pool.{IsWalk, arc_record}
use Rattle.dactl_arcs.specs.Moves.{record_at}
use Rattle.dactl_model.specs.declared.graph.NodeId.{NodeId}
use Rattle.dactl_model.specs.declared.graph.Mark.{Mark}
use Rattle.dactl_model.specs.declared.graph.Mark.TheVariants.{Idle, Active, Waiting}
use Rattle.dactl_model.specs.Acts.{marks_active}
use Rattle.dactl_model.specs.Noting.{noted_mark}
use Rattle.dactl_model.proofs.Counting.{count_by-cons}
use Rattle.dactl_store.specs.declared.table.NodeRecord.{NodeRecord}
use Rattle.dactl_store.specs.Table.{Table, record_of, is_active}
use Rattle.dactl_store.specs.Notifying.{HasOwners, notified, notified_at, wakes_owner, AreNotified, numbers, IsWokenList}
use Rattle.dactl_store.proofs.Rings.{record_of-set, has_push}
use Rattle.dactl_store.proofs.Counting.{count_same, count_walk}

not_true : (b : Bool) → not b ≡ true → b ≡ false
not_true true is = absurd (both_ways false refl is)
not_true false is = refl

noted_none : (mark : Mark) → noted_mark 0 mark ≡ mark
noted_none Idle = refl
noted_none Active = refl
noted_none (Waiting k) = refl

-- one notification, and then others
pub noted_more : (count : ℕ) (mark : Mark) → noted_mark (1 + count) mark ≡ noted_mark count (noted_mark 1 mark)
noted_more count Idle = refl
noted_more count Active = refl
noted_more count (Waiting k) = elim (cases_Bool (leb k 1)) [
  | inl last ↦ (let enough : leb k (1 + count) ≡ true = grind (arith, nat_tests) in rw (last, enough, ne_eqb (1 + count) 0 (λ e. omega arith)) refl)
  | inr more ↦ elim (cases_Bool (eqb count 0)) [
    | inl none ↦ (let e : count ≡ 0 = eqb-true count 0 none in let one : 1 + count ≡ 1 = omega arith in rw (one, more, e) refl)
    | inr some ↦ elim (cases_Bool (leb k (1 + count))) [
      | inl enough ↦ (let too : leb (k - 1) count ≡ true = grind (arith, nat_tests) in rw (more, some, enough, too, ne_eqb (1 + count) 0 (λ e. omega arith)) refl)
      | inr few ↦ (let too : leb (k - 1) count ≡ false = grind (arith, nat_tests) in let left : k - (1 + count) ≡ k - 1 - count = omega arith in rw (more, some, few, too, ne_eqb (1 + count) 0 (λ e. omega arith)) (ap Waiting left))
    ]
  ]
]

pub owner_below : (records : List NodeRecord) (arcs : List ArcRecord) (i : ℕ) (found : ArcRecord) → HasOwners records arcs → slice_get arcs i ≡ Some found → found.owner < length records
owner_below records arcs i found all at =
    subst (λ a. a.owner < length records) (get_or_from_slice_get arcs i found found at) (all i found (slice_get_within arcs i found at))

-- how many of the arcs of a walk are those of m
abbrev pub along : List ArcRecord → List ℕ → ℕ → ℕ
along arcs walk m = count_by (λ i. eqb (record_at arcs i).owner m) walk

-- with the notifications along the rest of the walk each node is notified as along the whole, and the list has those that became active
pub record IsNotifying (arcs : List ArcRecord) (walk : List ℕ) (old : Table) (rest : List ℕ) (now : Table) (list : List NodeId) : Type 0 where
  pub long : length now.records ≡ length old.records
  pub each : (m : ℕ) → notified (along arcs rest m) (record_of now.records m) ≡ notified (along arcs walk m) (record_of old.records m)
  pub stays : (m : ℕ) → is_active old.records m ≡ true → is_active now.records m ≡ true
  pub apart : AreApart (numbers list)
  pub members : (m : ℕ) → has (numbers list) m ≡ (is_active now.records m && not (is_active old.records m))
  pub room : now.room ≡ old.room

none_woken : (b : Bool) → false ≡ (b && not b)
none_woken true = refl
none_woken false = refl

pub notifying_begins : (arcs : List ArcRecord) (walk rest : List ℕ) (old : Table) (list : List NodeId) → rest ≡ walk → list ≡ [] → IsNotifying arcs walk old rest old list
notifying_begins arcs walk rest old list whole empty = record {
  long = refl;
  each = λ m. ap (λ w. notified (along arcs w m) (record_of old.records m)) whole;
  stays = λ m active. active;
  apart = subst (λ l. AreApart (numbers l)) (sym empty) tt;
  members = λ m. ap (λ l. has (numbers l) m) empty ∙ none_woken (is_active old.records m);
  room = refl;
}

pub active_below : (records : List NodeRecord) (m : ℕ) → is_active records m ≡ true → m < length records
active_below [] m active = absurd (both_ways false refl active)
active_below (r ∷ records) zero active = omega arith
active_below (r ∷ records) (suc m) active = let below = active_below records m active in omega arith

-- where a notification wakes the owner there is room for it in the list
pub woken_room : (arcs : List ArcRecord) (walk rest : List ℕ) (old now : Table) (list : List NodeId) (owner : ℕ) → IsNotifying arcs walk old rest now list → owner < length now.records → is_active now.records owner ≡ false
    → length list + 1 ≤ length now.records
woken_room arcs walk rest old now list owner is below passive =
    let absent : has (numbers list) owner ≡ false = is.members owner ∙ ap (λ b. b && not (is_active old.records owner)) passive in
    let apart = AreApart-push (numbers list) owner is.apart (Lacks-from_has (numbers list) owner absent) in
    let within = length-le_from_distinct_below (numbers list ++ owner ∷ []) (length now.records) (IsDistinct-from_apart (numbers list ++ owner ∷ []) apart) (λ m there.
    elim (cases_Bool (eqb m owner)) [
      | inl same ↦ (let e : m ≡ owner = eqb-true m owner same in omega arith)
      | inr other ↦
          let in_list : has (numbers list) m ≡ true = sym (has_push (numbers list) owner m ∙ ap (λ b. cond b true (has (numbers list) m)) other) ∙ there in
          active_below now.records m (and_parts (is_active now.records m) (not (is_active old.records m)) (sym (is.members m) ∙ in_list)).0
    ]) in
    omega (arith, within, length_push (numbers list) owner, length-map list (λ n. n.number))

marks_more : (mark : Mark) → marks_active mark ≡ true → marks_active (noted_mark 1 mark) ≡ true
marks_more Idle is = is
marks_more Active is = refl
marks_more (Waiting k) is = absurd (both_ways false refl is)

-- the records after the owner of an arc is notified
module _ (owner : ℕ) (records : List NodeRecord) (below : owner < length records) where
  pub notified_there : (m : ℕ) → record_of (notified_at owner records) m ≡ cond (eqb m owner) (notified 1 (record_of records owner)) (record_of records m)
  notified_there m = record_of-set records owner m (notified 1 (record_of records owner)) below

  -- who is active stays so
  active_stays : (m : ℕ) → is_active records m ≡ true → is_active (notified_at owner records) m ≡ true
  active_stays m active = elim (cases_Bool (eqb m owner)) [
    | inl same ↦
        let e : m ≡ owner = eqb-true m owner same in
        ap (λ r. marks_active r.mark) (notified_there m ∙ ap (λ b. cond b (notified 1 (record_of records owner)) (record_of records m)) same)
        ∙ marks_more (record_of records owner).mark (sym (ap (is_active records) e) ∙ active)
    | inr other ↦ ap (λ r. marks_active r.mark) (notified_there m ∙ ap (λ b. cond b (notified 1 (record_of records owner)) (record_of records m)) other) ∙ active
  ]

  -- the owner that is woken is active, and nobody else's activity is changed
  woken_there : wakes_owner owner records ≡ true → (m : ℕ) → is_active (notified_at owner records) m ≡ cond (eqb m owner) true (is_active records m)
  woken_there wakes m =
      let active = (and_parts (marks_active (noted_mark 1 (record_of records owner).mark)) (not (marks_active (record_of records owner).mark)) wakes).0 in
      elim (cases_Bool (eqb m owner)) [
        | inl same ↦ rw same (ap (λ r. marks_active r.mark) (notified_there m ∙ ap (λ b. cond b (notified 1 (record_of records owner)) (record_of records m)) same) ∙ active)
        | inr other ↦ rw other (ap (λ r. marks_active r.mark) (notified_there m ∙ ap (λ b. cond b (notified 1 (record_of records owner)) (record_of records m)) other))
      ]

  not_woken : (a b : Bool) → (b ≡ true → a ≡ true) → (a && not b) ≡ false → a ≡ b
  not_woken true true more is = refl
  not_woken true false more is = is
  not_woken false true more is = more refl
  not_woken false false more is = refl

  passive_there : wakes_owner owner records ≡ false → (m : ℕ) → is_active (notified_at owner records) m ≡ is_active records m
  passive_there sleeps m = elim (cases_Bool (eqb m owner)) [
    | inl same ↦
        let e : m ≡ owner = eqb-true m owner same in
        ap (λ r. marks_active r.mark) (notified_there m ∙ ap (λ b. cond b (notified 1 (record_of records owner)) (record_of records m)) same)
        ∙ not_woken (marks_active (noted_mark 1 (record_of records owner).mark)) (marks_active (record_of records owner).mark) (marks_more (record_of records owner).mark) sleeps
        ∙ ap (is_active records) (sym e)
    | inr other ↦ ap (λ r. marks_active r.mark) (notified_there m ∙ ap (λ b. cond b (notified 1 (record_of records owner)) (record_of records m)) other)
  ]

-- one more arc of the walk
each_step : (arcs : List ArcRecord) (i m : ℕ) (rest : List ℕ) (found : ArcRecord) (records : List NodeRecord) → record_at arcs i ≡ found → found.owner < length records
    → notified (along arcs rest m) (record_of (notified_at found.owner records) m) ≡ notified (along arcs (i ∷ rest) m) (record_of records m)
each_step arcs i m rest found records at below =
    let count : along arcs (i ∷ rest) m ≡ cond (eqb found.owner m) 1 0 + along arcs rest m =
    count_by-cons (λ j. eqb (record_at arcs j).owner m) i rest ∙ ap (λ a. cond (eqb a.owner m) 1 0 + along arcs rest m) at in
    elim (cases_Bool (eqb found.owner m)) [
      | inl same ↦
          let e : found.owner ≡ m = eqb-true found.owner m same in
          let one : along arcs (i ∷ rest) m ≡ 1 + along arcs rest m = count ∙ ap (λ b. cond b 1 0 + along arcs rest m) same in
          ap (notified (along arcs rest m)) (notified_there found.owner records below m ∙ ap (λ b. cond b (notified 1 (record_of records found.owner)) (record_of records m)) (eq-eqb m found.owner (sym e)) ∙ ap (λ k. notified 1 (record_of records k)) e)
          ∙ ap (λ mark. record (record_of records m) { mark = mark }) (sym (noted_more (along arcs rest m) (record_of records m).mark))
          ∙ ap (λ c. notified c (record_of records m)) (sym one)
      | inr other ↦
          let none : along arcs (i ∷ rest) m ≡ along arcs rest m = count ∙ ap (λ b. cond b 1 0 + along arcs rest m) other ∙ omega arith in
          ap (notified (along arcs rest m)) (notified_there found.owner records below m ∙ ap (λ b. cond b (notified 1 (record_of records found.owner)) (record_of records m)) (ne_eqb m found.owner (λ e. eqb-false found.owner m other (sym e))))
          ∙ ap (λ c. notified c (record_of records m)) (sym none)
    ]

module _ (arcs : List ArcRecord) (walk rest behind : List ℕ) (i : ℕ) (found : ArcRecord) (old now new : Table) (list list' : List NodeId) (is : IsNotifying arcs walk old rest now list) (at : rest ≡ i ∷ behind)
    (read : slice_get arcs i ≡ Some found) (below : found.owner < length now.records) (written : new.records ≡ notified_at found.owner now.records)
    (listed : list' ≡ (cond (wakes_owner found.owner now.records) (list ++ record { number = found.owner } ∷ []) list)) where
  passive_owner : wakes_owner found.owner now.records ≡ true → is_active now.records found.owner ≡ false
  passive_owner wakes =
      not_true (marks_active (record_of now.records found.owner).mark) (and_parts (marks_active (noted_mark 1 (record_of now.records found.owner).mark)) (not (marks_active (record_of now.records found.owner).mark)) wakes).1

  absent_owner : wakes_owner found.owner now.records ≡ true → has (numbers list) found.owner ≡ false
  absent_owner wakes = is.members found.owner ∙ ap (λ b. b && not (is_active old.records found.owner)) (passive_owner wakes)

  -- the owner was passive at first, too
  passive_at_first : wakes_owner found.owner now.records ≡ true → is_active old.records found.owner ≡ false
  passive_at_first wakes = elim (cases_Bool (is_active old.records found.owner)) [
    | inl active ↦ absurd (both_ways (is_active now.records found.owner) (passive_owner wakes) (is.stays found.owner active))
    | inr passive ↦ passive
  ]

  more_apart : AreApart (numbers list')
  more_apart = elim (cases_Bool (wakes_owner found.owner now.records)) [
    | inl wakes ↦
        let longer : numbers list' ≡ numbers list ++ found.owner ∷ [] = ap numbers (listed ∙ ap (λ b. cond b (list ++ record { number = found.owner } ∷ []) list) wakes) ∙ map-append (λ n. n.number) list (record { number = found.owner } ∷ []) in
        subst AreApart (sym longer) (AreApart-push (numbers list) found.owner is.apart (Lacks-from_has (numbers list) found.owner (absent_owner wakes)))
    | inr sleeps ↦ subst (λ l. AreApart (numbers l)) (sym (listed ∙ ap (λ b. cond b (list ++ record { number = found.owner } ∷ []) list) sleeps)) is.apart
  ]

  more_members : (m : ℕ) → has (numbers list') m ≡ (is_active new.records m && not (is_active old.records m))
  more_members m = elim (cases_Bool (wakes_owner found.owner now.records)) [
    | inl wakes ↦
        let longer : numbers list' ≡ numbers list ++ found.owner ∷ [] = ap numbers (listed ∙ ap (λ b. cond b (list ++ record { number = found.owner } ∷ []) list) wakes) ∙ map-append (λ n. n.number) list (record { number = found.owner } ∷ []) in
        let here = ap (λ xs. has xs m) longer ∙ has_push (numbers list) found.owner m in
        let active = ap (λ rs. is_active rs m) written ∙ woken_there found.owner now.records below wakes m in
        elim (cases_Bool (eqb m found.owner)) [
          | inl same ↦
              let e : m ≡ found.owner = eqb-true m found.owner same in
              let first : is_active old.records m ≡ false = ap (is_active old.records) e ∙ passive_at_first wakes in
              here ∙ ap (λ b. cond b true (has (numbers list) m)) same ∙ sym (ap (λ b. b && not (is_active old.records m)) (active ∙ ap (λ b. cond b true (is_active now.records m)) same) ∙ ap not first)
          | inr other ↦
              here ∙ ap (λ b. cond b true (has (numbers list) m)) other ∙ is.members m ∙ sym (ap (λ b. b && not (is_active old.records m)) (active ∙ ap (λ b. cond b true (is_active now.records m)) other))
        ]
    | inr sleeps ↦
        ap (λ l. has (numbers l) m) (listed ∙ ap (λ b. cond b (list ++ record { number = found.owner } ∷ []) list) sleeps) ∙ is.members m
        ∙ ap (λ b. b && not (is_active old.records m)) (sym (ap (λ rs. is_active rs m) written ∙ passive_there found.owner now.records below sleeps m))
  ]

  pub notifying_more : new.room ≡ now.room → IsNotifying arcs walk old behind new list'
  notifying_more room =
      let record_is : record_at arcs i ≡ found = get_or_from_slice_get arcs i found (arc_record 0 0 false) read in
      record {
        long = ap length written ∙ length-set now.records found.owner (notified 1 (record_of now.records found.owner)) ∙ is.long;
        each = λ m. ap (λ rs. notified (along arcs behind m) (record_of rs m)) written ∙ each_step arcs i m behind found now.records record_is below ∙ ap (λ w. notified (along arcs w m) (record_of now.records m)) (sym at) ∙ is.each m;
        stays = λ m active. ap (λ rs. is_active rs m) written ∙ active_stays found.owner now.records below m (is.stays m active);
        apart = more_apart;
        members = more_members;
        room = room ∙ is.room;
      }

pub notifying_ends : (arcs : List ArcRecord) (target : ℕ) (walk rest : List ℕ) (old now : Table) (list : List NodeId) → IsWalk arcs target walk → IsNotifying arcs walk old rest now list → rest ≡ [] → AreNotified arcs target old.records now.records
notifying_ends arcs target walk rest old now list walks is none = record {
  long = is.long;
  each = λ m.
      sym (ap (λ w. notified (along arcs w m) (record_of now.records m)) none ∙ ap (λ mark. record (record_of now.records m) { mark = mark }) (noted_none (record_of now.records m).mark))
      ∙ is.each m
      ∙ ap (λ c. notified c (record_of old.records m))
      (count_walk arcs target walk walks (λ a. eqb a.owner m)
      ∙ count_same (λ a. (eqb a.target target && a.waits) && eqb a.owner m) (λ a. eqb a.target target && (a.waits && eqb a.owner m)) (λ a. and_assoc (eqb a.target target) a.waits (eqb a.owner m)) arcs);
}

pub woken_ends : (arcs : List ArcRecord) (walk rest : List ℕ) (old now : Table) (list : List NodeId) → IsNotifying arcs walk old rest now list → IsWokenList old.records now.records list
woken_ends arcs walk rest old now list is = record { distinct = IsDistinct-from_apart (numbers list) is.apart; members = is.members }

pub wakes_passive : (owner : ℕ) (records : List NodeRecord) → IsTrue (wakes_owner owner records) → is_active records owner ≡ false
wakes_passive owner records wakes =
    not_true (marks_active (record_of records owner).mark) (and_parts (marks_active (noted_mark 1 (record_of records owner).mark)) (not (marks_active (record_of records owner).mark)) wakes).1
