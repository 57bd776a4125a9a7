-- Stamps for the slots that moves send elsewhere.
use Rattle.std.proofs.Common.{◌≡◌, ◌≢◌, ℕ, ◌+◌, ◌<◌, ◌≤◌, Bool, true, false, not, ◌&&◌, ◌||◌, cond, eqb, ltb, List, [], ◌∷◌, ◌++◌, length, take, get_or, set, refl, sym, ap, subst, ◌∙◌, arith, inl, inr, length-set}
use Rattle.std.specs.List.{All}
use Rattle.std.proofs.lemmas.Bool.{eq-eqb, ne_eqb, cases_eq, cases_Bool, cond-true, cond-false, cond_both, lt-ltb, le-ltb, ltb-true, ltb-false, or_from, or_left, or_right, both_ways}
use Rattle.std.proofs.lemmas.Bool.Decides.{nat_tests}
use Rattle.std.proofs.lemmas.List.{take_more, take_all, get_or_default}
use Rattle.dactl_arcs.specs.Moves.{moved_to}
use Rattle.dactl_arcs.specs.declared.pool.TheConstants.{MOST_MOVES}
use Rattle.dactl_arcs.specs.Slots.{slot_of, target_in}
use Rattle.dactl_arcs.specs.Stamps.{AreStamped, is_left}
use Rattle.dactl_arcs.proofs.Linking.{get_set}

-- whether a pair begins with the slot
abbrev pub begins : List (ℕ × ℕ) → ℕ → Bool
begins [] slot = false
begins (move ∷ moves) slot = eqb move.0 slot || begins moves slot

-- the stamp of a slot after some of the pairs
abbrev pub stamp_after : List (ℕ × ℕ) → List (ℕ × ℕ) → ℕ → List ℕ → ℕ → ℕ
stamp_after moves done stamp old slot =
    cond (begins done (target_in slot) && not (is_left moves slot)) stamp (get_or old slot 0)

pub record AreStampedSoFar (moves done : List (ℕ × ℕ)) (stamp : ℕ) (old now : List ℕ) : Type 0 where
  pub long : length now ≡ length old
  pub each : (slot : ℕ) → slot < length old → get_or now slot 0 ≡ stamp_after moves done stamp old slot

begins_push : (moves : List (ℕ × ℕ)) (move : ℕ × ℕ) (slot : ℕ) → begins (moves ++ move ∷ []) slot ≡ begins moves slot || eqb move.0 slot
begins_push [] move slot = grind (arith, nat_tests)
begins_push (m ∷ moves) move slot = grind (arith, nat_tests, begins_push moves move slot)

stays : (moves : List (ℕ × ℕ)) (slot : ℕ) → begins moves slot ≡ false → moved_to moves slot ≡ slot
stays [] slot none = refl
stays (m ∷ moves) slot none = elim (cases_Bool (eqb m.0 slot)) [
  | inl same ↦ grind (arith, nat_tests, none)
  | inr other ↦ grind (arith, nat_tests, none, stays moves slot)
]

either : (a b : Bool) (x y : ℕ) → cond a x (cond b x y) ≡ cond (b || a) x y
either true true x y = refl
either true false x y = refl
either false true x y = refl
either false false x y = refl

rest_fixed : (a b c : Bool) (x y : ℕ) → c ≡ true → cond (a && not c) x y ≡ cond (b && not c) x y
rest_fixed true true true x y is = refl
rest_fixed true false true x y is = refl
rest_fixed false true true x y is = refl
rest_fixed false false true x y is = refl
rest_fixed a b false x y is = absurd (both_ways false refl is)

stamped_now : (b c : Bool) (x y : ℕ) → b ≡ true → c ≡ false → x ≡ cond (b && not c) x y
stamped_now true false x y there goes = refl
stamped_now true true x y there goes = absurd (both_ways true goes refl)
stamped_now false c x y there goes = absurd (both_ways false refl there)

whole_there : (b c : Bool) (x y : ℕ) → b ≡ true → cond (b && not c) x y ≡ cond c y x
whole_there true true x y there = refl
whole_there true false x y there = refl
whole_there false c x y there = absurd (both_ways false refl there)

whole_none : (b c : Bool) (x y : ℕ) → b ≡ false → c ≡ true → cond (b && not c) x y ≡ cond c y x
whole_none false true x y none fixed = refl
whole_none false false x y none fixed = absurd (both_ways false refl fixed)
whole_none true c x y none fixed = absurd (both_ways true none refl)

or_none : (b : Bool) → b || false ≡ b
or_none true = refl
or_none false = refl

begins_here : (moves : List (ℕ × ℕ)) (move : ℕ × ℕ) (slot : ℕ) → slot ≡ move.0 → begins (moves ++ move ∷ []) slot ≡ true
begins_here moves move slot here = begins_push moves move slot ∙ or_right (begins moves slot) (eqb move.0 slot) (eq-eqb move.0 slot (sym here))

begins_other : (moves : List (ℕ × ℕ)) (move : ℕ × ℕ) (slot : ℕ) → slot ≢ move.0 → begins (moves ++ move ∷ []) slot ≡ begins moves slot
begins_other moves move slot there = begins_push moves move slot ∙ ap (λ b. begins moves slot || b) (ne_eqb move.0 slot (λ e. there (sym e))) ∙ or_none (begins moves slot)

pub none_stamped : (moves : List (ℕ × ℕ)) (stamp : ℕ) (old : List ℕ) → AreStampedSoFar moves [] stamp old old
none_stamped moves stamp old = record { long = refl; each = λ slot inside. refl }

-- the slots of a target
slots_of : (from slot : ℕ) → MOST_MOVES ≤ slot → eqb (target_in slot) from ≡ eqb slot (slot_of from false) || eqb slot (slot_of from true)
slots_of from slot above = elim (cases_eq (target_in slot) from) [
  | inl same ↦ eq-eqb _ _ same ∙ elim (cases_eq slot (slot_of from false)) [
    | inl plain ↦ sym (ap (λ b. b || eqb slot (slot_of from true)) (eq-eqb _ _ plain))
    | inr other ↦
        let waits : slot ≡ slot_of from true = omega arith in
        sym (or_right (eqb slot (slot_of from false)) (eqb slot (slot_of from true)) (eq-eqb _ _ waits))
  ]
  | inr apart ↦
      let plain : slot ≢ slot_of from false = λ same. apart (omega arith) in
      let waits : slot ≢ slot_of from true = λ same. apart (omega arith) in
      ne_eqb _ _ apart ∙ sym (or_from _ _ (ne_eqb _ _ plain) (ne_eqb _ _ waits))
]

-- no spare slot is one of a target
spare_of : (from slot : ℕ) → slot < MOST_MOVES → eqb slot (slot_of from false) || eqb slot (slot_of from true) ≡ false
spare_of from slot spare = or_from _ _ (ne_eqb slot (slot_of from false) (λ same. omega arith)) (ne_eqb slot (slot_of from true) (λ same. omega arith))

-- both slots are written
both_written : (from stamp slot : ℕ) (now : List ℕ) → slot_of from true < length now
    → get_or (set (set now (slot_of from false) stamp) (slot_of from true) stamp) slot 0 ≡ cond (eqb slot (slot_of from false) || eqb slot (slot_of from true)) stamp (get_or now slot 0)
both_written from stamp slot now inside =
    get_set (set now (slot_of from false) stamp) (slot_of from true) slot stamp 0 (omega (arith, length-set now (slot_of from false) stamp))
    ∙ ap (cond (eqb slot (slot_of from true)) stamp) (get_set now (slot_of from false) slot stamp 0 (omega arith))
    ∙ either (eqb slot (slot_of from true)) (eqb slot (slot_of from false)) stamp (get_or now slot 0)

-- a slot of which the target begins none of the pairs so far but this one
left_here : (moves : List (ℕ × ℕ)) (slot : ℕ) → moved_to moves (target_in slot) ≡ target_in slot → is_left moves slot ≡ true
left_here moves slot stays_there = or_right (ltb slot MOST_MOVES) (eqb (moved_to moves (target_in slot)) (target_in slot)) (eq-eqb _ _ stays_there)

left_spare : (moves : List (ℕ × ℕ)) (slot : ℕ) → slot < MOST_MOVES → is_left moves slot ≡ true
left_spare moves slot spare = or_left (ltb slot MOST_MOVES) (eqb (moved_to moves (target_in slot)) (target_in slot)) (lt-ltb slot MOST_MOVES spare)

goes_on : (moves : List (ℕ × ℕ)) (slot : ℕ) → MOST_MOVES ≤ slot → moved_to moves (target_in slot) ≢ target_in slot → is_left moves slot ≡ false
goes_on moves slot above goes = or_from (ltb slot MOST_MOVES) (eqb (moved_to moves (target_in slot)) (target_in slot)) (le-ltb slot MOST_MOVES above) (ne_eqb _ _ goes)

pub left_housed : (moves : List (ℕ × ℕ)) (slot : ℕ) → MOST_MOVES ≤ slot → is_left moves slot ≡ eqb (moved_to moves (target_in slot)) (target_in slot)
left_housed moves slot above = ap (λ b. b || eqb (moved_to moves (target_in slot)) (target_in slot)) (le-ltb slot MOST_MOVES above)

pub more_stamped : (moves : List (ℕ × ℕ)) (place : ℕ) (default : ℕ × ℕ) (stamp to : ℕ) (old now new : List ℕ) → place < length moves → slot_of (get_or moves place default).0 true < length old
    → to ≡ moved_to moves (get_or moves place default).0
    → new ≡ cond (eqb to (get_or moves place default).0) now (set (set now (slot_of (get_or moves place default).0 false) stamp) (slot_of (get_or moves place default).0 true) stamp)
    → AreStampedSoFar moves (take place moves) stamp old now → AreStampedSoFar moves (take (place + 1) moves) stamp old new
more_stamped moves place default stamp to old now new inside below sent written so_far =
    let move = get_or moves place default in
    let done = take place moves in
    let both = set (set now (slot_of move.0 false) stamp) (slot_of move.0 true) stamp in
    let front : take (place + 1) moves ≡ done ++ move ∷ [] = take_more moves place default inside in
    let all : AreStampedSoFar moves (done ++ move ∷ []) stamp old new = elim (cases_eq to move.0) [
      | inl same ↦
          let is : new ≡ now = written ∙ cond-true (eqb to move.0) now both (eq-eqb to move.0 same) in
          record {
            long = ap length is ∙ so_far.long;
            each = λ slot within. ap (λ xs. get_or xs slot 0) is ∙ so_far.each slot within ∙ elim (cases_eq (target_in slot) move.0) [
              | inl here ↦
                  let fixed : moved_to moves (target_in slot) ≡ target_in slot = ap (moved_to moves) here ∙ sym sent ∙ same ∙ sym here in
                  rest_fixed (begins done (target_in slot)) (begins (done ++ move ∷ []) (target_in slot)) (is_left moves slot) stamp (get_or old slot 0) (left_here moves slot fixed)
              | inr there ↦ ap (λ b. cond (b && not (is_left moves slot)) stamp (get_or old slot 0)) (sym (begins_other done move (target_in slot) there))
            ];
          }
      | inr other ↦
          let is : new ≡ both = written ∙ cond-false (eqb to move.0) now both (ne_eqb to move.0 other) in
          record {
            long = ap length is ∙ length-set (set now (slot_of move.0 false) stamp) (slot_of move.0 true) stamp ∙ length-set now (slot_of move.0 false) stamp ∙ so_far.long;
            each = λ slot within. ap (λ xs. get_or xs slot 0) is ∙ both_written move.0 stamp slot now (omega (arith, so_far.long)) ∙ elim (cases_Bool (ltb slot MOST_MOVES)) [
              | inl front_slot ↦
                  let spare : slot < MOST_MOVES = ltb-true slot MOST_MOVES front_slot in
                  ap (λ b. cond b stamp (get_or now slot 0)) (spare_of move.0 slot spare) ∙ so_far.each slot within
                  ∙ rest_fixed (begins done (target_in slot)) (begins (done ++ move ∷ []) (target_in slot)) (is_left moves slot) stamp (get_or old slot 0) (left_spare moves slot spare)
              | inr behind ↦
                  let above : MOST_MOVES ≤ slot = ltb-false slot MOST_MOVES behind in
                  ap (λ b. cond b stamp (get_or now slot 0)) (sym (slots_of move.0 slot above)) ∙ elim (cases_eq (target_in slot) move.0) [
                    | inl here ↦
                        let goes : moved_to moves (target_in slot) ≢ target_in slot = λ s. other (sent ∙ ap (moved_to moves) (sym here) ∙ s ∙ here) in
                        ap (λ b. cond b stamp (get_or now slot 0)) (eq-eqb _ _ here)
                        ∙ stamped_now (begins (done ++ move ∷ []) (target_in slot)) (is_left moves slot) stamp (get_or old slot 0) (begins_here done move (target_in slot) here) (goes_on moves slot above goes)
                    | inr there ↦
                        ap (λ b. cond b stamp (get_or now slot 0)) (ne_eqb _ _ there) ∙ so_far.each slot within
                        ∙ ap (λ b. cond (b && not (is_left moves slot)) stamp (get_or old slot 0)) (sym (begins_other done move (target_in slot) there))
                  ]
            ];
          }
    ] in
    subst (λ ms. AreStampedSoFar moves ms stamp old new) (sym front) all

pub all_stamped : (moves : List (ℕ × ℕ)) (place stamp : ℕ) (old new : List ℕ) → length moves ≤ place → AreStampedSoFar moves (take place moves) stamp old new → AreStamped moves stamp old new
all_stamped moves place stamp old new through so_far =
    let all = subst (λ ms. AreStampedSoFar moves ms stamp old new) (take_all place moves through) so_far in
    record {
      long = all.long;
      each = λ slot inside. all.each slot inside ∙ elim (cases_Bool (begins moves (target_in slot))) [
        | inl there ↦ whole_there (begins moves (target_in slot)) (is_left moves slot) stamp (get_or old slot 0) there
        | inr none ↦ whole_none (begins moves (target_in slot)) (is_left moves slot) stamp (get_or old slot 0) none (left_here moves slot (stays moves (target_in slot) none))
      ];
    }

-- no stamp is greater than the given one
pub stamps_old : (moves : List (ℕ × ℕ)) (stamp newest : ℕ) (old new : List ℕ) → AreStamped moves stamp old new → newest < stamp → All (λ s. s ≤ newest) old → All (λ s. s ≤ stamp) new
stamps_old moves stamp newest old new marked newer before = λ k d inside.
    let below : k < length old = omega (arith, marked.long) in
    let was : get_or old k 0 ≤ newest = before k 0 below in
    let is : get_or new k d ≡ get_or new k 0 = sym (get_or_default new k 0 d inside) in
    let e : get_or new k 0 ≡ cond (is_left moves k) (get_or old k 0) stamp = marked.each k below in
    subst (λ s. s ≤ stamp) (sym (is ∙ e)) (cond_both (is_left moves k) (get_or old k 0) stamp (λ s. s ≤ stamp) (λ _. omega arith) (λ _. omega arith))
