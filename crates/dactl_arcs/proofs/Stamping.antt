-- The last change of each arc, where arcs change their lists and lists their slots.
use Rattle.std.proofs.Common.{◌≡◌, ◌≢◌, ℕ, ◌<◌, ◌≤◌, cond, eqb, ltb, List, [], ◌∷◌, ◌++◌, length, map, get_or, set, Some, refl, sym, ap, subst, ◌∙◌, arith, inl, inr, length-set}
use Rattle.std.specs.List.{All, slice_get, zip}
use Rattle.std.proofs.lemmas.Bool.{eq-eqb, ne_eqb, le-ltb, cases_eq, cases_Bool, cond-false, cond-true, cond_both, lt-ltb}
use Rattle.std.proofs.lemmas.Bool.Decides.{nat_tests}
use Rattle.std.proofs.lemmas.List.{length-map, get_or-map, get_or_read, same_lists}
use Rattle.std.proofs.lemmas.Slice.Zip.{get_or-zip, length-zip}
use Rattle.std.proofs.lemmas.Option.{get_or_from_slice_get, slice_get-get_or, slice_get_within}
use Rattle.dactl_arcs.specs.declared.lists.ArcRecord.{ArcRecord}
use Rattle.dactl_arcs.specs.declared.stamped.ArcStamp.{ArcStamp}
use Rattle.dactl_arcs.specs.Pool.{Pool, target_of, targets}
use Rattle.dactl_arcs.specs.Linked.{Linked, IsIn, IsValidLists}
use Rattle.dactl_arcs.specs.Slots.{IsHoused, seen, target_in}
use Rattle.dactl_arcs.specs.Moves.{cleared, idle, moved_to, record_at, sent_to}
use Rattle.dactl_arcs.specs.Naming.{swapped_slot, swapped}
use Rattle.dactl_arcs.specs.Stamps.{AreStamped, IsStamped, IsValidStamped, changed_by, changes, change_of, is_left, last_change}
use Rattle.dactl_arcs.proofs.Linking.{get_set}
use Rattle.dactl_arcs.proofs.Naming.{no_arc}
use Rattle.dactl_arcs.proofs.StampedSlots.{left_housed}

abbrev pub no_stamp : ArcStamp
no_stamp = record { own = 0; joined = 0 }

pub length-changes : (arcs : List ArcRecord) (stamps : List ArcStamp) (slots : List ℕ) → length stamps ≡ length arcs → length (changes arcs stamps slots) ≡ length arcs
length-changes arcs stamps slots long = length-map (zip arcs stamps) (change_of slots) ∙ length-zip arcs stamps ∙ omega (arith, long)

-- the last change of one arc
pub change_at : (arcs : List ArcRecord) (stamps : List ArcStamp) (slots : List ℕ) (k d : ℕ) → length stamps ≡ length arcs → k < length arcs
    → get_or (changes arcs stamps slots) k d ≡ last_change (get_or slots (target_of arcs k) 0) (get_or stamps k no_stamp)
change_at arcs stamps slots k d long inside =
    get_or-map (change_of slots) (zip arcs stamps) k (no_arc, no_stamp) d (omega (arith, length-zip arcs stamps, long))
    ∙ ap (change_of slots) (get_or-zip arcs stamps k (no_arc, no_stamp) inside (omega (arith, long)))

-- changes that are the same arc by arc
same_changes : (arcs arcs' : List ArcRecord) (stamps stamps' : List ArcStamp) (slots slots' : List ℕ) → length stamps ≡ length arcs → length stamps' ≡ length arcs' → length arcs' ≡ length arcs
    → ((k : ℕ) → k < length arcs → last_change (get_or slots' (target_of arcs' k) 0) (get_or stamps' k no_stamp) ≡ last_change (get_or slots (target_of arcs k) 0) (get_or stamps k no_stamp))
    → changes arcs' stamps' slots' ≡ changes arcs stamps slots
same_changes arcs arcs' stamps stamps' slots slots' long long' same_long same =
    let one = length-changes arcs stamps slots long in
    let other = length-changes arcs' stamps' slots' long' in
    same_lists (changes arcs' stamps' slots') (changes arcs stamps slots) (other ∙ same_long ∙ sym one) (λ k d inside.
    let below : k < length arcs = omega (arith, other, same_long) in
    change_at arcs' stamps' slots' k d long' (omega (arith, same_long)) ∙ same k below ∙ sym (change_at arcs stamps slots k d long below))

-- a stamp that isn't greater than itself
pub just_joined : (stamp own : ℕ) → last_change stamp (record { own = own; joined = stamp }) ≡ own
just_joined stamp own = cond-false (ltb stamp stamp) stamp own (le-ltb stamp stamp (omega arith))

-- an arc that joins another list takes its last change along
pub changes-moved : (arcs : List ArcRecord) (stamps : List ArcStamp) (slots : List ℕ) (arc from to own joined : ℕ) → length stamps ≡ length arcs → arc < length arcs → target_of arcs arc ≡ from
    → own ≡ last_change (get_or slots from 0) (get_or stamps arc no_stamp) → joined ≡ get_or slots to 0
    → changes (set arcs arc (sent_to to (record_at arcs arc))) (set stamps arc (record { own = own; joined = joined })) slots ≡ changes arcs stamps slots
changes-moved arcs stamps slots arc from to own joined long inside leads took at_joining =
    let sent = sent_to to (record_at arcs arc) in
    let stamp : ArcStamp = record { own = own; joined = joined } in
    same_changes arcs (set arcs arc sent) stamps (set stamps arc stamp) slots slots long (length-set stamps arc stamp ∙ long ∙ sym (length-set arcs arc sent)) (length-set arcs arc sent) (λ k below.
    let r = get_set arcs arc k sent no_arc inside in
    let s = get_set stamps arc k stamp no_stamp (omega (arith, long)) in
    elim (cases_eq k arc) [
      | inl same ↦
          let t : target_of (set arcs arc sent) k ≡ to = ap (λ x. x.target) (r ∙ cond-true (eqb k arc) sent (get_or arcs k no_arc) (eq-eqb k arc same)) in
          let st : get_or (set stamps arc stamp) k no_stamp ≡ stamp = s ∙ cond-true (eqb k arc) stamp (get_or stamps k no_stamp) (eq-eqb k arc same) in
          ap (λ x. last_change (get_or slots x 0) (get_or (set stamps arc stamp) k no_stamp)) t
          ∙ ap (last_change (get_or slots to 0)) (st ∙ ap (λ j. record { own = own; joined = j }) at_joining)
          ∙ just_joined (get_or slots to 0) own ∙ took
          ∙ ap (λ x. last_change (get_or slots x 0) (get_or stamps arc no_stamp)) (sym leads)
          ∙ ap (λ x. last_change (get_or slots (target_of arcs x) 0) (get_or stamps x no_stamp)) (sym same)
      | inr other ↦
          let t : target_of (set arcs arc sent) k ≡ target_of arcs k = ap (λ x. x.target) (r ∙ cond-false (eqb k arc) sent (get_or arcs k no_arc) (ne_eqb k arc other)) in
          let st : get_or (set stamps arc stamp) k no_stamp ≡ get_or stamps k no_stamp = s ∙ cond-false (eqb k arc) stamp (get_or stamps k no_stamp) (ne_eqb k arc other) in
          ap (λ x. last_change (get_or slots x 0) (get_or (set stamps arc stamp) k no_stamp)) t ∙ ap (last_change (get_or slots (target_of arcs k) 0)) st
    ])

-- two slots change their lists, and the stamps go with the lists
pub changes-swapped : (arcs : List ArcRecord) (stamps : List ArcStamp) (slots : List ℕ) (from to : ℕ) → length stamps ≡ length arcs → from ≢ to → from < length slots → to < length slots
    → changes (map (swapped from to) arcs) stamps (set (set slots from (get_or slots to 0)) to (get_or slots from 0)) ≡ changes arcs stamps slots
changes-swapped arcs stamps slots from to long different from_in to_in =
    let after = set (set slots from (get_or slots to 0)) to (get_or slots from 0) in
    same_changes arcs (map (swapped from to) arcs) stamps stamps slots after long (long ∙ sym (length-map arcs (swapped from to))) (length-map arcs (swapped from to)) (λ k below.
    let t : target_of (map (swapped from to) arcs) k ≡ swapped_slot from to (target_of arcs k) = ap (λ x. x.target) (get_or-map (swapped from to) arcs k no_arc no_arc below) in
    let at = λ (n : ℕ). let e : get_or after n 0 ≡ cond (eqb n to) (get_or slots from 0) (cond (eqb n from) (get_or slots to 0) (get_or slots n 0)) =
    get_set (set slots from (get_or slots to 0)) to n (get_or slots from 0) 0 (omega (arith, length-set slots from (get_or slots to 0)))
    ∙ ap (cond (eqb n to) (get_or slots from 0)) (get_set slots from n (get_or slots to 0) 0 from_in) in e in
    let same : get_or after (swapped_slot from to (target_of arcs k)) 0 ≡ get_or slots (target_of arcs k) 0 = at (swapped_slot from to (target_of arcs k)) ∙ grind (arith, nat_tests) in
    ap (λ x. last_change x (get_or stamps k no_stamp)) (ap (λ x. get_or after x 0) t ∙ same))

-- the stamp of a list is greater than all that its arcs had at joining
pub changes-stamped : (arcs : List ArcRecord) (stamps : List ArcStamp) (slots after : List ℕ) (moves : List (ℕ × ℕ)) (stamp newest : ℕ) → length stamps ≡ length arcs
    → ((k : ℕ) → k < length arcs → target_of arcs k < length slots) → All IsHoused arcs → All (λ s. (s.own ≤ newest) × (s.joined ≤ newest)) stamps → newest < stamp
    → ((slot : ℕ) → slot < length slots → get_or after slot 0 ≡ cond (is_left moves slot) (get_or slots slot 0) stamp)
    → changes arcs stamps after ≡ changed_by moves stamp (map seen arcs) (changes arcs stamps slots)
changes-stamped arcs stamps slots after moves stamp newest long within housed joined newer each =
    let old = changes arcs stamps slots in
    let old_long = length-changes arcs stamps slots long in
    let f = λ (p : ArcRecord × ℕ). cond (eqb (moved_to moves p.0.target) p.0.target) p.1 stamp in
    let one = length-changes arcs stamps after long in
    let by_target = map seen arcs in
    let targets_long = length-map arcs (seen) in
    let other : length (changed_by moves stamp by_target old) ≡ length arcs = length-map (zip by_target old) f ∙ length-zip by_target old ∙ omega (arith, old_long, targets_long) in
    same_lists (changes arcs stamps after) (changed_by moves stamp by_target old) (one ∙ sym other) (λ k d inside.
    let below : k < length arcs = omega (arith, one) in
    let t = target_of arcs k in
    let s = get_or stamps k no_stamp in
    let before : s.joined ≤ newest = (joined k no_stamp (omega (arith, long))).1 in
    let n = target_in t in
    let right : get_or (changed_by moves stamp by_target old) k d ≡ cond (eqb (moved_to moves n) n) (last_change (get_or slots t 0) s) stamp =
    get_or-map f (zip by_target old) k (no_arc, 0) d (omega (arith, length-zip by_target old, old_long, targets_long))
    ∙ ap f (get_or-zip by_target old k (no_arc, 0) (omega (arith, targets_long)) (omega (arith, old_long)))
    ∙ ap (λ a. f (a, get_or old k 0)) (get_or-map seen arcs k no_arc no_arc below)
    ∙ ap (λ x. cond (eqb (moved_to moves n) n) x stamp) (change_at arcs stamps slots k 0 long below) in
    change_at arcs stamps after k d long below ∙ ap (λ x. last_change x s) (each t (within k below) ∙ ap (λ b. cond b (get_or slots t 0) stamp) (left_housed moves t (housed k no_arc below)))
    ∙ elim (cases_Bool (eqb (moved_to moves n) n)) [
      | inl stays ↦ ap (λ x. last_change x s) (cond-true (eqb (moved_to moves n) n) (get_or slots t 0) stamp stays) ∙ sym (cond-true (eqb (moved_to moves n) n) (last_change (get_or slots t 0) s) stamp stays)
      | inr goes ↦
          ap (λ x. last_change x s) (cond-false (eqb (moved_to moves n) n) (get_or slots t 0) stamp goes)
          ∙ cond-true (ltb s.joined stamp) stamp s.own (lt-ltb s.joined stamp (omega arith))
          ∙ sym (cond-false (eqb (moved_to moves n) n) (last_change (get_or slots t 0) s) stamp goes)
    ]
    ∙ sym right)

-- a map that leaves the targets
changes-same : (arcs : List ArcRecord) (stamps : List ArcStamp) (slots : List ℕ) (f : ArcRecord → ArcRecord) → length stamps ≡ length arcs → ((arc : ArcRecord) → (f arc).target ≡ arc.target) → changes (map f arcs) stamps slots ≡ changes arcs stamps slots
changes-same arcs stamps slots f long same =
    same_changes arcs (map f arcs) stamps stamps slots slots long (long ∙ sym (length-map arcs f)) (length-map arcs f) (λ k below.
    ap (λ t. last_change (get_or slots t 0) (get_or stamps k no_stamp)) (ap (λ x. x.target) (get_or-map f arcs k no_arc no_arc below) ∙ same (record_at arcs k)))

cleared_target : (slot : ℕ) (arc : ArcRecord) → (cleared slot arc).target ≡ arc.target
cleared_target slot arc = cond_both (eqb arc.target slot) (idle arc) arc (λ r. r.target ≡ arc.target) (λ _. refl) (λ _. refl)

-- a new arc
changes-push : (arcs : List ArcRecord) (stamps : List ArcStamp) (slots : List ℕ) (arc : ArcRecord) (stamp : ArcStamp) → length stamps ≡ length arcs → changes (arcs ++ arc ∷ []) (stamps ++ stamp ∷ []) slots ≡ changes arcs stamps slots ++ change_of slots (arc, stamp) ∷ []
changes-push [] [] slots arc stamp long = refl
changes-push [] (s ∷ stamps) slots arc stamp long = absurd (omega arith)
changes-push (a ∷ arcs) [] slots arc stamp long = absurd (omega arith)
changes-push (a ∷ arcs) (s ∷ stamps) slots arc stamp long = ap (λ xs. change_of slots (a, s) ∷ xs) (changes-push arcs stamps slots arc stamp (omega arith))

-- no arc changed after the greatest stamp
last_change_old : (list newest : ℕ) (arc : ArcStamp) → list ≤ newest → arc.own ≤ newest → last_change list arc ≤ newest
last_change_old list newest arc list_old arc_old = cond_both (ltb arc.joined list) list arc.own (λ c. c ≤ newest) (λ _. list_old) (λ _. arc_old)

pub changes_old : (lists : Linked) (stamps : List ArcStamp) (slots : List ℕ) (newest capacity : ℕ) → IsStamped lists stamps slots newest capacity → IsValidLists lists → All (λ c. c ≤ newest) (changes lists.arcs stamps slots)
changes_old lists stamps slots newest capacity is valid = λ k d inside.
    let below : k < length lists.arcs = omega (arith, length-changes lists.arcs stamps slots is.arcs_long) in
    let list : get_or slots (target_of lists.arcs k) 0 ≤ newest = is.slots_old (target_of lists.arcs k) 0 (omega (arith, valid.within k below, is.slots_long)) in
    let own = (is.arcs_old k no_stamp (omega (arith, is.arcs_long))).0 in
    subst (λ c. c ≤ newest) (sym (change_at lists.arcs stamps slots k d is.arcs_long below)) (last_change_old (get_or slots (target_of lists.arcs k) 0) newest (get_or stamps k no_stamp) list own)

-- The fields, and what a contract sees of them.
module _ (lists : Linked) (stamps : List ArcStamp) (slots : List ℕ) (newest capacity : ℕ) (is : IsStamped lists stamps slots newest capacity) where
  module _ (pool : Pool) (view_is : record { arcs = lists.arcs; into = lists.into; room = lists.room; changed = changes lists.arcs stamps slots; newest = newest } ≡ pool) where
    pub stamped_valid : IsValidLists lists → IsValidStamped pool
    stamped_valid valid = subst IsValidStamped view_is (record { lists = valid; changed_long = length-changes lists.arcs stamps slots is.arcs_long; changed_old = changes_old lists stamps slots newest capacity is valid })

    pub slot_inside : (slot : ℕ) → slot < targets pool → slot < length slots
    slot_inside slot inside = omega (arith, ap (λ m. targets m) view_is, is.slots_long)

    pub stamp_inside : (arc : ℕ) → arc < length pool.arcs → arc < length stamps
    stamp_inside arc inside = omega (arith, ap (λ m. length m.arcs) view_is, is.arcs_long)

    module _ (arc : ℕ) (r : ArcRecord) (at : slice_get lists.arcs arc ≡ Some r) (valid : IsValidLists lists) where
      below : arc < length lists.arcs
      below = slice_get_within lists.arcs arc r at

      target : target_of lists.arcs arc ≡ r.target
      target = ap (λ x. x.target) (get_or_from_slice_get lists.arcs arc r no_arc at)

      pub target_inside : r.target < length slots
      target_inside = omega (arith, target, valid.within arc below, is.slots_long)

      pub changed_seen : (list own : ℕ) (stamp : ArcStamp) → list ≡ get_or slots r.target 0 → stamp ≡ get_or stamps arc stamp → own ≡ last_change list stamp → slice_get pool.changed arc ≡ Some own
      changed_seen list own stamp list_read stamp_read made =
          ap (λ m. slice_get m.changed arc) (sym view_is)
          ∙ slice_get-get_or (changes lists.arcs stamps slots) arc 0 (omega (arith, below, length-changes lists.arcs stamps slots is.arcs_long))
          ∙ ap Some (change_at lists.arcs stamps slots arc 0 is.arcs_long below
          ∙ ap (λ t. last_change (get_or slots t 0) (get_or stamps arc no_stamp)) target
          ∙ ap (λ l. last_change l (get_or stamps arc no_stamp)) (sym list_read)
          ∙ ap (last_change list) (sym (get_or_read stamps arc stamp (omega (arith, below, is.arcs_long)) stamp_read no_stamp))
          ∙ sym made)

    -- an arc joins another list
    module _ (arc from to of_list own joined : ℕ) (stamp : ArcStamp) (leads : IsIn lists from arc) (from_in : from < targets pool) (to_in : to < targets pool) (list_read : of_list ≡ get_or slots from 0) (stamp_read : stamp ≡ get_or stamps arc stamp) (made : own ≡ last_change of_list stamp) (joined_read : joined ≡ get_or slots to 0) where
      pub moved_changes : (arcs : List ArcRecord) → arcs ≡ set lists.arcs arc (sent_to to (record_at lists.arcs arc)) → changes arcs (set stamps arc (record { own = own; joined = joined })) slots ≡ pool.changed
      moved_changes arcs moved =
          let s = get_or_read stamps arc stamp (omega (arith, leads.0, is.arcs_long)) stamp_read no_stamp in
          ap (λ xs. changes xs (set stamps arc (record { own = own; joined = joined })) slots) moved
          ∙ changes-moved lists.arcs stamps slots arc from to own joined is.arcs_long leads.0 leads.1 (made ∙ ap (λ x. last_change x stamp) list_read ∙ ap (last_change (get_or slots from 0)) s) joined_read
          ∙ ap (λ m. m.changed) view_is

    -- two slots change their lists
    pub swapped_changes : (from to one other : ℕ) (arcs : List ArcRecord) (left after : List ℕ) → from ≢ to → from < targets pool → to < targets pool → one ≡ get_or slots from 0 → other ≡ get_or slots to 0
        → arcs ≡ map (swapped from to) lists.arcs → left ≡ set slots from other → after ≡ set left to one → changes arcs stamps after ≡ pool.changed
    swapped_changes from to one other arcs left after different from_in to_in one_read other_read moved first second =
        let slots_are : after ≡ set (set slots from (get_or slots to 0)) to (get_or slots from 0) = second ∙ ap (λ s. set s to one) (first ∙ ap (set slots from) other_read) ∙ ap (set (set slots from (get_or slots to 0)) to) one_read in
        ap (λ xs. changes xs stamps after) moved
        ∙ ap (changes (map (swapped from to) lists.arcs) stamps) slots_are
        ∙ changes-swapped lists.arcs stamps slots from to is.arcs_long different (slot_inside from from_in) (slot_inside to to_in)
        ∙ ap (λ m. m.changed) view_is

    pub cleared_changes : (slot : ℕ) (arcs : List ArcRecord) → arcs ≡ map (cleared slot) lists.arcs → changes arcs stamps slots ≡ pool.changed
    cleared_changes slot arcs written =
        ap (λ xs. changes xs stamps slots) written ∙ changes-same lists.arcs stamps slots (cleared slot) is.arcs_long (cleared_target slot) ∙ ap (λ m. m.changed) view_is

    pub pushed_changes : (arc : ArcRecord) (joined : ℕ) (arcs : List ArcRecord) (items : List ArcStamp) → arc.target < targets pool → joined ≡ get_or slots arc.target 0
        → arcs ≡ lists.arcs ++ arc ∷ [] → items ≡ stamps ++ record { own = 0; joined = joined } ∷ [] → changes arcs items slots ≡ pool.changed ++ 0 ∷ []
    pushed_changes arc joined arcs items inside read grown pushed =
        let fresh : change_of slots (arc, record { own = 0; joined = joined }) ≡ 0 = ap (λ x. last_change (get_or slots arc.target 0) (record { own = 0; joined = x })) read ∙ just_joined (get_or slots arc.target 0) 0 in
        ap (λ xs. changes xs items slots) grown ∙ ap (λ xs. changes (lists.arcs ++ arc ∷ []) xs slots) pushed
        ∙ changes-push lists.arcs stamps slots arc (record { own = 0; joined = joined }) is.arcs_long
        ∙ ap (λ x. changes lists.arcs stamps slots ++ x ∷ []) fresh ∙ ap (λ m. m.changed ++ 0 ∷ []) view_is

    -- the moves' slots are stamped
    pub stamped_changes : (moves : List (ℕ × ℕ)) (stamp : ℕ) (after : List ℕ) → pool.newest < stamp → All IsHoused pool.arcs → AreStamped moves stamp slots after → IsValidLists lists
        → changes lists.arcs stamps after ≡ changed_by moves stamp (map seen pool.arcs) pool.changed
    stamped_changes moves stamp after newer housed are valid =
        changes-stamped lists.arcs stamps slots after moves stamp newest is.arcs_long (λ k below. omega (arith, valid.within k below, is.slots_long)) (subst (λ p. All IsHoused p.arcs) (sym view_is) housed) is.arcs_old (omega (arith, ap (λ m. m.newest) view_is)) are.each
        ∙ ap (λ m. changed_by moves stamp (map seen m.arcs) m.changed) view_is
