-- The arcs that wait and the others, each in their own slot of a target.
use Rattle.std.proofs.Common.{◌≡◌, ◌≢◌, ℕ, zero, suc, ◌+◌, ◌<◌, ◌≤◌, Bool, true, false, not, ◌&&◌, eqb, ltb, List, [], ◌∷◌, length, map, drop, get_or, Option, Some, None, refl, sym, ap, subst, ◌∙◌, arith, inl, inr}
use Rattle.std.specs.List.{All, slice_get}
use Rattle.std.specs.Option.{IfSome}
use Rattle.std.proofs.lemmas.Bool.{eq-eqb, ne_eqb, cases_eq, cases_Bool, cond-true, cond-false, ltb-true}
use Rattle.std.proofs.lemmas.Bool.Decides.{nat_tests}
use Rattle.std.proofs.lemmas.List.{length-map, length-drop, get_or-map, get_or-drop}
use Rattle.std.proofs.lemmas.List.Elements.{All-head, All-map, All-tail, All-weaker}
use Rattle.std.proofs.lemmas.Option.{get_or_from_slice_get, slice_get_within}
use Rattle.dactl_arcs.specs.declared.lists.ArcRecord.{ArcRecord}
use Rattle.dactl_arcs.specs.declared.pool.TheConstants.{MOST_MOVES}
use Rattle.dactl_arcs.specs.Pool.{Pool, IsValid, IsWalk, LeadsTo, arc_record, arcs_into, target_of, targets, waits_along}
use Rattle.dactl_arcs.specs.Linked.{IsIn, linked}
use Rattle.dactl_arcs.specs.Stamps.{IsValidStamped}
use Rattle.dactl_arcs.specs.Kept.{AreBelow}
use Rattle.dactl_arcs.specs.Moves.{cleared, idle, moved_to, retargeted, sent_to}
use Rattle.dactl_arcs.specs.Slots.{AreSlotsBelow, IsHoused, IsOver, IsPlaced, in_slots, pool_seen, raised, seconds, seen, slot_of, target_in}
use Rattle.dactl_arcs.proofs.Moving.{AreAbove, moved_above, moved_below}
use Rattle.dactl_arcs.proofs.Naming.{no_arc}

pub slot_above : (target : ℕ) (waits : Bool) → MOST_MOVES ≤ slot_of target waits
slot_above target true = omega arith
slot_above target false = omega arith

pub target_of_slot : (target : ℕ) (waits : Bool) → target_in (slot_of target waits) ≡ target
target_of_slot target true = omega arith
target_of_slot target false = omega arith

-- the slots of two targets differ
same_slot : (one other : ℕ) (waits : Bool) → eqb (slot_of one waits) (slot_of other waits) ≡ eqb one other
same_slot one other true = grind (arith, nat_tests)
same_slot one other false = grind (arith, nat_tests)

other_slot : (one other : ℕ) (waits : Bool) → eqb (slot_of one waits) (slot_of other (not waits)) ≡ false
other_slot one other true = ne_eqb _ _ (λ same. omega arith)
other_slot one other false = ne_eqb _ _ (λ same. omega arith)

-- pairs of slots send a slot for their flag as the pairs send its target
moved_slots : (waits : Bool) (moves : List (ℕ × ℕ)) (target : ℕ) → moved_to (in_slots waits moves) (slot_of target waits) ≡ slot_of (moved_to moves target) waits
moved_slots waits [] target = refl
moved_slots waits (m ∷ moves) target = elim (cases_Bool (eqb m.0 target)) [
  | inl same ↦
      cond-true (eqb (slot_of m.0 waits) (slot_of target waits)) (slot_of m.1 waits) (moved_to (in_slots waits moves) (slot_of target waits)) (same_slot m.0 target waits ∙ same)
      ∙ ap (λ t. slot_of t waits) (sym (cond-true (eqb m.0 target) m.1 (moved_to moves target) same))
  | inr other ↦
      cond-false (eqb (slot_of m.0 waits) (slot_of target waits)) (slot_of m.1 waits) (moved_to (in_slots waits moves) (slot_of target waits)) (same_slot m.0 target waits ∙ other)
      ∙ moved_slots waits moves target
      ∙ ap (λ t. slot_of t waits) (sym (cond-false (eqb m.0 target) m.1 (moved_to moves target) other))
]

-- and leave the others
moved_others : (waits : Bool) (moves : List (ℕ × ℕ)) (target : ℕ) → moved_to (in_slots waits moves) (slot_of target (not waits)) ≡ slot_of target (not waits)
moved_others waits [] target = refl
moved_others waits (m ∷ moves) target =
    cond-false (eqb (slot_of m.0 waits) (slot_of target (not waits))) (slot_of m.1 waits) (moved_to (in_slots waits moves) (slot_of target (not waits))) (other_slot m.0 target waits)
    ∙ moved_others waits moves target

sent : (moves : List (ℕ × ℕ)) (target : ℕ) (waits : Bool) → moved_to (in_slots true moves) (moved_to (in_slots false moves) (slot_of target waits)) ≡ slot_of (moved_to moves target) waits
sent moves target false = ap (moved_to (in_slots true moves)) (moved_slots false moves target) ∙ moved_others true moves (moved_to moves target)
sent moves target true = ap (moved_to (in_slots true moves)) (moved_others false moves target) ∙ moved_slots true moves target

pub AreAbove-slots : (waits : Bool) (moves : List (ℕ × ℕ)) → AreAbove MOST_MOVES (in_slots waits moves)
AreAbove-slots waits moves =
    All-map (λ (p : ℕ × ℕ). (MOST_MOVES ≤ p.0) × (MOST_MOVES ≤ p.1)) (raised waits) moves (λ k d inside. (slot_above (get_or moves k d).0 waits, slot_above (get_or moves k d).1 waits))

-- the slots of targets that are there
pub AreSlotsBelow-from : (number slots : ℕ) (moves : List (ℕ × ℕ)) → slots ≡ number + number + MOST_MOVES → AreBelow number moves → AreSlotsBelow slots moves
AreSlotsBelow-from number slots moves many below = λ k d inside.
    let here = below k d inside in
    (omega arith, omega arith)

pub slot_below : (target : ℕ) (waits : Bool) (number : ℕ) → slot_of target true < number → slot_of target waits < number
slot_below target true number below = below
slot_below target false number below = omega arith

pub slot_at : (waits : Bool) (place : ℕ) (moves : List (ℕ × ℕ)) → place < length moves → get_or (in_slots waits moves) place (0, 0) ≡ raised waits (get_or moves place (0, 0))
slot_at waits place moves inside = get_or-map (raised waits) moves place (0, 0) (0, 0) inside

pub one_pair : (waits : Bool) (moves : List (ℕ × ℕ)) → length moves ≡ 1 → in_slots waits moves ≡ raised waits (get_or moves 0 (0, 0)) ∷ []
one_pair waits [] one = absurd (omega arith)
one_pair waits (m ∷ []) one = refl
one_pair waits (m ∷ n ∷ moves) one = absurd (omega arith)

pub IsHoused-placed : (number : ℕ) (arcs : List ArcRecord) → All (IsPlaced number) arcs → All IsHoused arcs
IsHoused-placed number arcs are =
    All-weaker (IsPlaced number) IsHoused (λ arc is. subst (λ s. MOST_MOVES ≤ s) (sym is.slot) (slot_above (target_in arc.target) arc.waits)) arcs are

pub IsHoused-moved : (waits : Bool) (moves : List (ℕ × ℕ)) (arcs : List ArcRecord) → All IsHoused arcs → All IsHoused (map (retargeted (in_slots waits moves)) arcs)
IsHoused-moved waits moves arcs are =
    All-map IsHoused (retargeted (in_slots waits moves)) arcs
    (All-weaker IsHoused (λ arc. IsHoused (retargeted (in_slots waits moves) arc)) (λ arc is. moved_above MOST_MOVES (in_slots waits moves) arc.target (AreAbove-slots waits moves) is) arcs are)

-- an arc in the slot for its flag
pub IsPlaced-slot : (number owner target : ℕ) (waits : Bool) → owner < number → target < number → IsPlaced number (arc_record owner (slot_of target waits) waits)
IsPlaced-slot number owner target waits owner_in target_in_range = record {
  owner = owner_in;
  target = subst (λ t. t < number) (sym (target_of_slot target waits)) target_in_range;
  slot = ap (λ t. slot_of t waits) (sym (target_of_slot target waits));
}

pub seen_slot : (owner target : ℕ) (waits : Bool) → seen (arc_record owner (slot_of target waits) waits) ≡ arc_record owner target waits
seen_slot owner target waits = ap (λ t. arc_record owner t waits) (target_of_slot target waits)

-- what the pairs do in both slots
module _ (number : ℕ) (moves : List (ℕ × ℕ)) (below : AreBelow number moves) where
  abbrev both : ArcRecord → ArcRecord
  both arc = retargeted (in_slots true moves) (retargeted (in_slots false moves) arc)

  both_target : (arc : ArcRecord) → IsPlaced number arc → (both arc).target ≡ slot_of (moved_to moves (target_in arc.target)) arc.waits
  both_target arc is =
      ap (λ t. moved_to (in_slots true moves) (moved_to (in_slots false moves) t)) is.slot ∙ sent moves (target_in arc.target) arc.waits

  both_in : (arc : ArcRecord) → IsPlaced number arc → target_in (both arc).target ≡ moved_to moves (target_in arc.target)
  both_in arc is = ap target_in (both_target arc is) ∙ target_of_slot (moved_to moves (target_in arc.target)) arc.waits

  both_seen : (arc : ArcRecord) → IsPlaced number arc → seen (both arc) ≡ retargeted moves (seen arc)
  both_seen arc is = ap (λ t. sent_to t arc) (both_in arc is)

  both_placed : (arc : ArcRecord) → IsPlaced number arc → IsPlaced number (both arc)
  both_placed arc is = record {
    owner = is.owner;
    target = subst (λ t. t < number) (sym (both_in arc is)) (moved_below number moves (target_in arc.target) below is.target);
    slot = both_target arc is ∙ ap (λ t. slot_of t arc.waits) (sym (both_in arc is));
  }

-- an arc that does not wait for a target
free : (slot target : ℕ) (waits : Bool) → slot ≡ slot_of target waits → slot ≢ slot_of target true → false ≡ waits
free slot target false is other = refl
free slot target true is other = absurd (other is)

-- the arcs that wait for a target join the others
module _ (number target : ℕ) (below : target < number) where
  abbrev freed : ArcRecord → ArcRecord
  freed arc = retargeted ((slot_of target true, slot_of target false) ∷ []) (cleared (slot_of target true) arc)

  freed_waiting : (arc : ArcRecord) → arc.target ≡ slot_of target true → freed arc ≡ sent_to (slot_of target false) (idle arc)
  freed_waiting arc waits =
      ap (retargeted ((slot_of target true, slot_of target false) ∷ [])) (cond-true (eqb arc.target (slot_of target true)) (idle arc) arc (eq-eqb _ _ waits))
      ∙ ap (λ t. sent_to t (idle arc)) (cond-true (eqb (slot_of target true) arc.target) (slot_of target false) arc.target (eq-eqb _ _ (sym waits)))

  freed_other : (arc : ArcRecord) → arc.target ≢ slot_of target true → freed arc ≡ arc
  freed_other arc other =
      ap (retargeted ((slot_of target true, slot_of target false) ∷ [])) (cond-false (eqb arc.target (slot_of target true)) (idle arc) arc (ne_eqb _ _ other))
      ∙ ap (λ t. sent_to t arc) (cond-false (eqb (slot_of target true) arc.target) (slot_of target false) arc.target (ne_eqb _ _ (λ same. other (sym same))))

  freed_seen : (arc : ArcRecord) → IsPlaced number arc → seen (freed arc) ≡ cleared target (seen arc)
  freed_seen arc is = elim (cases_eq arc.target (slot_of target true)) [
    | inl waits ↦
        let of : target_in arc.target ≡ target = ap target_in waits ∙ target_of_slot target true in
        ap seen (freed_waiting arc waits) ∙ ap (λ t. sent_to t (idle arc)) (target_of_slot target false ∙ sym of)
        ∙ sym (cond-true (eqb (target_in arc.target) target) (idle (seen arc)) (seen arc) (eq-eqb _ _ of))
    | inr other ↦
        ap seen (freed_other arc other)
        ∙ elim (cases_eq (target_in arc.target) target) [
          | inl here ↦
              let idle_already : false ≡ arc.waits = free arc.target target arc.waits (is.slot ∙ ap (λ t. slot_of t arc.waits) here) other in
              ap (λ w. record (seen arc) { waits = w }) (sym idle_already)
              ∙ sym (cond-true (eqb (target_in arc.target) target) (idle (seen arc)) (seen arc) (eq-eqb _ _ here))
          | inr there ↦ sym (cond-false (eqb (target_in arc.target) target) (idle (seen arc)) (seen arc) (ne_eqb _ _ there))
        ]
  ]

  freed_placed : (arc : ArcRecord) → IsPlaced number arc → IsPlaced number (freed arc)
  freed_placed arc is = elim (cases_eq arc.target (slot_of target true)) [
    | inl waits ↦ subst (IsPlaced number) (sym (freed_waiting arc waits)) (IsPlaced-slot number arc.owner target false is.owner below)
    | inr other ↦ subst (IsPlaced number) (sym (freed_other arc other)) is
  ]

-- a call on all records, as it is seen
module _ (number : ℕ) (f g : ArcRecord → ArcRecord) (same : (arc : ArcRecord) → IsPlaced number arc → seen (f arc) ≡ g (seen arc)) where
  all_seen : (arcs : List ArcRecord) → All (IsPlaced number) arcs → map seen (map f arcs) ≡ map g (map seen arcs)
  all_seen [] are = refl
  all_seen (arc ∷ arcs) are =
      ap (λ a. a ∷ map seen (map f arcs)) (same arc (All-head (IsPlaced number) arc arcs are))
      ∙ ap (λ rest. g (seen arc) ∷ rest) (all_seen arcs (All-tail (IsPlaced number) arc arcs are))

all_placed : (number : ℕ) (f : ArcRecord → ArcRecord) → ((arc : ArcRecord) → IsPlaced number arc → IsPlaced number (f arc)) → (arcs : List ArcRecord) → All (IsPlaced number) arcs → All (IsPlaced number) (map f arcs)
all_placed number f stays arcs are = All-map (IsPlaced number) f arcs (All-weaker (IsPlaced number) (λ arc. IsPlaced number (f arc)) stays arcs are)

map_twice : (f g : ArcRecord → ArcRecord) (arcs : List ArcRecord) → map g (map f arcs) ≡ map (λ arc. g (f arc)) arcs
map_twice f g [] = refl
map_twice f g (arc ∷ arcs) = ap (λ rest. g (f arc) ∷ rest) (map_twice f g arcs)

-- redirections in both slots of each target
module _ (number : ℕ) (moves : List (ℕ × ℕ)) (below : AreBelow number moves) (old mid new : List ArcRecord) (are : All (IsPlaced number) old) (first : mid ≡ map (retargeted (in_slots false moves)) old) (second : new ≡ map (retargeted (in_slots true moves)) mid) where
  moved_twice : new ≡ map (both number moves below) old
  moved_twice = second ∙ ap (map (retargeted (in_slots true moves))) first ∙ map_twice (retargeted (in_slots false moves)) (retargeted (in_slots true moves)) old

  pub moved_seen : map seen new ≡ map (retargeted moves) (map seen old)
  moved_seen = ap (map seen) moved_twice ∙ all_seen number (both number moves below) (retargeted moves) (both_seen number moves below) old are

  pub moved_placed : All (IsPlaced number) new
  moved_placed = subst (All (IsPlaced number)) (sym moved_twice) (all_placed number (both number moves below) (both_placed number moves below) old are)

-- the flags of the arcs into a target are cleared
module _ (number target : ℕ) (below : target < number) (old mid new : List ArcRecord) (are : All (IsPlaced number) old) (first : mid ≡ map (cleared (slot_of target true)) old) (second : new ≡ map (retargeted ((slot_of target true, slot_of target false) ∷ [])) mid) where
  freed_twice : new ≡ map (freed number target below) old
  freed_twice = second ∙ ap (map (retargeted ((slot_of target true, slot_of target false) ∷ []))) first ∙ map_twice (cleared (slot_of target true)) (retargeted ((slot_of target true, slot_of target false) ∷ [])) old

  pub cleared_seen : map seen new ≡ map (cleared target) (map seen old)
  cleared_seen = ap (map seen) freed_twice ∙ all_seen number (freed number target below) (cleared target) (freed_seen number target below) old are

  pub cleared_placed : All (IsPlaced number) new
  cleared_placed = subst (All (IsPlaced number)) (sym freed_twice) (all_placed number (freed number target below) (freed_placed number target below) old are)

and_true : (b : Bool) → (b && true) ≡ b
and_true true = refl
and_true false = refl

and_false : (b : Bool) → (b && false) ≡ false
and_false true = refl
and_false false = refl

get_or-seconds : (xs : List (List ℕ)) (k : ℕ) → get_or (seconds xs) k [] ≡ get_or xs (k + k + 1) []
get_or-seconds [] k = refl
get_or-seconds (one ∷ []) k =
    let past : k + k + 1 ≡ suc (k + k) = omega arith in
    sym (ap (λ n. get_or (one ∷ []) n []) past)
get_or-seconds (one ∷ other ∷ more) zero = refl
get_or-seconds (one ∷ other ∷ more) (suc k) =
    let past : suc k + suc k + 1 ≡ suc (suc (k + k + 1)) = omega arith in
    get_or-seconds more k ∙ sym (ap (λ n. get_or (one ∷ other ∷ more) n []) past)

length-seconds : (xs : List (List ℕ)) (n : ℕ) → length xs ≡ n + n → length (seconds xs) ≡ n
length-seconds [] n long = omega arith
length-seconds (one ∷ []) n long = absurd (omega arith)
length-seconds (one ∷ other ∷ more) zero long = absurd (omega arith)
length-seconds (one ∷ other ∷ more) (suc n) long = ap suc (length-seconds more n (omega arith))

slot_test : (one target : ℕ) (waits : Bool) → eqb (slot_of one waits) (slot_of target true) ≡ (eqb one target && waits)
slot_test one target true = same_slot one target true ∙ sym (and_true (eqb one target))
slot_test one target false = other_slot one target false ∙ sym (and_false (eqb one target))

pub placed_at : (number : ℕ) (arcs : List ArcRecord) (arc : ℕ) (r : ArcRecord) → All (IsPlaced number) arcs → slice_get arcs arc ≡ Some r → IsPlaced number r
placed_at number arcs arc r are at =
    subst (IsPlaced number) (get_or_from_slice_get arcs arc r no_arc at) (are arc no_arc (slice_get_within arcs arc r at))

pub housed : (number : ℕ) (arc : ArcRecord) → IsPlaced number arc → MOST_MOVES ≤ arc.target
housed number arc is = subst (λ s. MOST_MOVES ≤ s) (sym is.slot) (slot_above (target_in arc.target) arc.waits)

-- an arc that waits for a target
waiting : (slot target : ℕ) (waits : Bool) → slot ≡ slot_of target waits → slot ≡ slot_of target true → waits ≡ true
waiting slot target true is here = refl
waiting slot target false is here = absurd (omega arith)

pub some_leads : (P Q : ℕ → Type 0) → ((arc : ℕ) → P arc → Q arc) → (found : Option ℕ) → IfSome found P → IfSome found Q
some_leads P Q leads None is = tt
some_leads P Q leads (Some arc) is = leads arc is

pub targets_when : (number : ℕ) (lists : Pool) → targets lists ≡ number + number + MOST_MOVES → targets (pool_seen lists) ≡ number
targets_when number lists many = length-seconds (drop MOST_MOVES lists.into) number (omega (arith, length-drop MOST_MOVES lists.into, many))

pub over_self : (number : ℕ) (lists : Pool) → IsOver lists number → IsOver lists (targets (pool_seen lists))
over_self number lists over = subst (IsOver lists) (sym (targets_when number lists over.slots)) over

-- What a contract sees of the lists.
module _ (number : ℕ) (lists : Pool) (over : IsOver lists number) where
  pub targets_seen : targets (pool_seen lists) ≡ number
  targets_seen = targets_when number lists over.slots

  pub list_seen : (target : ℕ) → arcs_into (pool_seen lists) target ≡ arcs_into lists (slot_of target true)
  list_seen target =
      let place : MOST_MOVES + (target + target + 1) ≡ slot_of target true = omega arith in
      get_or-seconds (drop MOST_MOVES lists.into) target ∙ get_or-drop MOST_MOVES lists.into (target + target + 1) []
      ∙ ap (λ n. get_or lists.into n []) place

  -- an arc in the second slot of a target is one that waits for it
  waits_test : (target : ℕ) (arc : ArcRecord) → IsPlaced number arc → eqb arc.target (slot_of target true) ≡ (eqb (target_in arc.target) target && arc.waits)
  waits_test target arc is = ap (λ s. eqb s (slot_of target true)) is.slot ∙ slot_test (target_in arc.target) target arc.waits

  module _ (valid : IsValidStamped lists) where
    walk_seen : (target : ℕ) → target < number → IsWalk (map seen lists.arcs) target (arcs_into lists (slot_of target true))
    walk_seen target below =
        let listed = valid.lists.walks (slot_of target true) (omega (arith, over.slots)) in
        let long = length-map lists.arcs seen in
        record {
          distinct = listed.distinct;
          members = λ arc. listed.members arc ∙ elim (cases_Bool (ltb arc (length lists.arcs))) [
            | inl inside ↦
                let here : arc < length lists.arcs = ltb-true arc (length lists.arcs) inside in
                let at = get_or-map seen lists.arcs arc no_arc no_arc here in
                let placed = over.ends arc no_arc here in
                ap (λ b. ltb arc (length lists.arcs) && b) (waits_test target (get_or lists.arcs arc no_arc) placed)
                ∙ ap (λ n. ltb arc n && (eqb (target_in (target_of lists.arcs arc)) target && waits_along lists.arcs arc)) (sym long)
                ∙ ap (λ a. ltb arc (length (map seen lists.arcs)) && (eqb a.target target && a.waits)) (sym at)
            | inr outside ↦
                ap (λ b. b && eqb (target_of lists.arcs arc) (slot_of target true)) outside
                ∙ sym (ap (λ n. ltb arc n && (eqb (target_of (map seen lists.arcs) arc) target && waits_along (map seen lists.arcs) arc)) long
                ∙ ap (λ b. b && (eqb (target_of (map seen lists.arcs) arc) target && waits_along (map seen lists.arcs) arc)) outside)
          ];
        }

    pub valid_seen : (pool : Pool) → pool_seen lists ≡ pool → IsValid pool
    valid_seen pool view_is =
        let long = length-map lists.arcs seen in
        let many = targets_seen in
        subst IsValid view_is (record {
          few = omega (arith, long, valid.lists.few);
          ends = subst (λ n. All (λ arc. (arc.owner < n) × (arc.target < n)) (map seen lists.arcs)) (sym many)
              (All-map (λ arc. (arc.owner < number) × (arc.target < number)) seen lists.arcs
              (All-weaker (IsPlaced number) (λ arc. (arc.owner < number) × (target_in arc.target < number)) (λ arc is. (is.owner, is.target)) lists.arcs over.ends));
          walks = λ target inside.
              let below : target < number = omega (arith, inside, many) in
              subst (IsWalk (map seen lists.arcs) target) (sym (list_seen target)) (walk_seen target below);
          changed_long = valid.changed_long ∙ sym long;
          changed_old = valid.changed_old;
        })

  module _ (pool : Pool) (view_is : pool_seen lists ≡ pool) where
    pub number_is : targets pool ≡ number
    number_is = sym (ap targets view_is) ∙ targets_seen

    -- the list of a target, and that of its second slot
    pub list_on : (target : ℕ) → arcs_into lists (slot_of target true) ≡ arcs_into pool target
    list_on target = sym (list_seen target) ∙ ap (λ p. arcs_into p target) view_is

    -- an arc in the second slot
    pub leads_on : (target arc : ℕ) → IsIn (linked lists) (slot_of target true) arc → LeadsTo pool target arc
    leads_on target arc leads =
        let r = get_or lists.arcs arc no_arc in
        let at = get_or-map seen lists.arcs arc no_arc no_arc leads.0 in
        let placed = over.ends arc no_arc leads.0 in
        let of : target_in r.target ≡ target = ap target_in leads.1 ∙ target_of_slot target true in
        let waits : r.waits ≡ true = waiting r.target target r.waits (placed.slot ∙ ap (λ t. slot_of t r.waits) of) leads.1 in
        subst (λ p. LeadsTo p target arc) view_is (omega (arith, leads.0, length-map lists.arcs seen), ap (λ a. a.target) at ∙ of, ap (λ a. a.waits) at ∙ waits)

    -- the slot of an arc that waits
    pub slot_on : (target arc : ℕ) → LeadsTo pool target arc → (arc < length lists.arcs) × (target_of lists.arcs arc ≡ slot_of target true)
    slot_on target arc leads =
        let inside : arc < length lists.arcs = omega (arith, leads.0, ap (λ p. length p.arcs) view_is, length-map lists.arcs seen) in
        let r = get_or lists.arcs arc no_arc in
        let at : seen r ≡ get_or pool.arcs arc no_arc = sym (get_or-map seen lists.arcs arc no_arc no_arc inside) ∙ ap (λ p. get_or p.arcs arc no_arc) view_is in
        let placed = over.ends arc no_arc inside in
        (inside, placed.slot ∙ ap (λ t. slot_of t r.waits) (ap (λ a. a.target) at ∙ leads.1) ∙ ap (slot_of target) (ap (λ a. a.waits) at ∙ leads.2))

    pub kept_on : (new : Pool) → targets new ≡ targets lists → targets (pool_seen new) ≡ targets pool
    kept_on new same = targets_when number new (same ∙ over.slots) ∙ sym number_is
