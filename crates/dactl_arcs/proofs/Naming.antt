-- Lists seen by the slots that they stand for.
use Rattle.std.proofs.Common.{◌≡◌, ◌≢◌, ℕ, ◌<◌, false, ◌&&◌, cond, eqb, ltb, List, [], ◌∷◌, ◌++◌, length, map, set, Some, refl, sym, ap, subst, ◌∙◌, arith, inl, inr, length-set}
use Rattle.std.specs.List.{slice_get}
use Rattle.std.proofs.lemmas.Bool.{eq-eqb, ne_eqb, ltb-true, cases_eq, cases_Bool, and_left, cond-true, cond-false}
use Rattle.std.proofs.lemmas.Bool.Decides.{nat_tests}
use Rattle.std.proofs.lemmas.List.{length-map, get_or-map, map-append, map-set, same_lists}
use Rattle.std.specs.Option.{option_map}
use Rattle.std.proofs.lemmas.Option.{get_or_from_slice_get, slice_get-map, slice_get_within}
use Rattle.dactl_arcs.specs.declared.lists.ArcRecord.{ArcRecord}
use Rattle.dactl_arcs.specs.Pool.{arc_record, target_of}
use Rattle.dactl_arcs.specs.Linked.{Linked, IsIn, list_of, slot_count, IsValidLists, IsListed}
use Rattle.dactl_arcs.specs.Moves.{cleared, idle, record_at, sent_to}
use Rattle.dactl_arcs.specs.Naming.{number_at, named, named_pool, IsNaming, swapped_slot, swapped}
use Rattle.dactl_arcs.proofs.Linking.{get_set}

abbrev pub no_arc : ArcRecord
no_arc = arc_record 0 0 false

-- two slots with the same home are the same, and two lists with the same name
module _ (count : ℕ) (names homes : List ℕ) (is : IsNaming count names homes) where
  pub home_apart : (one other : ℕ) → one < count → other < count → number_at homes one ≡ number_at homes other → one ≡ other
  home_apart one other one_in other_in same = sym (is.home one one_in).1 ∙ ap (number_at names) same ∙ (is.home other other_in).1

  -- the test of a name is the test of the list
  pub test_named : (list slot : ℕ) → list < count → slot < count → eqb (number_at names list) slot ≡ eqb list (number_at homes slot)
  test_named list slot list_in slot_in = elim (cases_eq list (number_at homes slot)) [
    | inl same ↦ eq-eqb (number_at names list) slot (ap (number_at names) same ∙ (is.home slot slot_in).1) ∙ sym (eq-eqb list (number_at homes slot) same)
    | inr other ↦ ne_eqb (number_at names list) slot (λ same. other (sym (is.name list list_in).1 ∙ ap (number_at homes) same)) ∙ sym (ne_eqb list (number_at homes slot) other)
  ]

  -- two slots change their homes
  module _ (from to : ℕ) (different : from ≢ to) (from_in : from < count) (to_in : to < count) where
    abbrev pub new_homes : List ℕ
    new_homes = set (set homes from (number_at homes to)) to (number_at homes from)

    abbrev pub new_names : List ℕ
    new_names = set (set names (number_at homes from) to) (number_at homes to) from

    homes_differ : number_at homes from ≢ number_at homes to
    homes_differ same = different (home_apart from to from_in to_in same)

    home_after : (slot : ℕ) → number_at new_homes slot ≡ cond (eqb slot to) (number_at homes from) (cond (eqb slot from) (number_at homes to) (number_at homes slot))
    home_after slot =
        get_set (set homes from (number_at homes to)) to slot (number_at homes from) 0 (omega (arith, is.homes_long, length-set homes from (number_at homes to)))
        ∙ ap (cond (eqb slot to) (number_at homes from)) (get_set homes from slot (number_at homes to) 0 (omega (arith, is.homes_long)))

    name_after : (list : ℕ) → number_at new_names list ≡ cond (eqb list (number_at homes to)) from (cond (eqb list (number_at homes from)) to (number_at names list))
    name_after list =
        get_set (set names (number_at homes from) to) (number_at homes to) list from 0 (omega (arith, is.names_long, length-set names (number_at homes from) to, (is.home to to_in).0))
        ∙ ap (cond (eqb list (number_at homes to)) from) (get_set names (number_at homes from) list to 0 (omega (arith, is.names_long, (is.home from from_in).0)))

    pub IsNaming-swapped : IsNaming count new_names new_homes
    IsNaming-swapped = record {
      names_long = length-set (set names (number_at homes from) to) (number_at homes to) from ∙ length-set names (number_at homes from) to ∙ is.names_long;
      homes_long = length-set (set homes from (number_at homes to)) to (number_at homes from) ∙ length-set homes from (number_at homes to) ∙ is.homes_long;
      home = λ slot inside.
          let old = is.home slot inside in
          let one = is.home from from_in in
          let other = is.home to to_in in
          let apart_from = home_apart slot from inside from_in in
          let apart_to = home_apart slot to inside to_in in (
            grind (arith, nat_tests, home_after slot, old.0, one.0, other.0),
            elim (cases_eq slot to) [
              | inl same ↦
                  let h : number_at new_homes slot ≡ number_at homes from = home_after slot ∙ grind (arith, nat_tests) in
                  ap (number_at new_names) h ∙ name_after (number_at homes from) ∙ grind (arith, nat_tests, homes_differ)
              | inr not_to ↦ elim (cases_eq slot from) [
                | inl same ↦
                    let h : number_at new_homes slot ≡ number_at homes to = home_after slot ∙ grind (arith, nat_tests) in
                    ap (number_at new_names) h ∙ name_after (number_at homes to) ∙ grind (arith, nat_tests)
                | inr not_from ↦
                    let h : number_at new_homes slot ≡ number_at homes slot = home_after slot ∙ grind (arith, nat_tests) in
                    let a : number_at homes slot ≢ number_at homes to = λ s. not_to (apart_to s) in
                    let b : number_at homes slot ≢ number_at homes from = λ s. not_from (apart_from s) in
                    ap (number_at new_names) h ∙ name_after (number_at homes slot) ∙ grind (arith, nat_tests, a, b, old.1)
              ]
            ],
          );
      name = λ list inside.
          let old = is.name list inside in
          let one = is.home from from_in in
          let other = is.home to to_in in (
            grind (arith, nat_tests, name_after list, old.0),
            elim (cases_eq list (number_at homes to)) [
              | inl same ↦
                  let h : number_at new_names list ≡ from = name_after list ∙ grind (arith, nat_tests) in
                  ap (number_at new_homes) h ∙ home_after from ∙ grind (arith, nat_tests)
              | inr not_to ↦ elim (cases_eq list (number_at homes from)) [
                | inl same ↦
                    let h : number_at new_names list ≡ to = name_after list ∙ grind (arith, nat_tests) in
                    ap (number_at new_homes) h ∙ home_after to ∙ grind (arith, nat_tests)
                | inr not_from ↦
                    let h : number_at new_names list ≡ number_at names list = name_after list ∙ grind (arith, nat_tests) in
                    let a : number_at names list ≢ to = λ s. not_to (sym old.1 ∙ ap (number_at homes) s) in
                    let b : number_at names list ≢ from = λ s. not_from (sym old.1 ∙ ap (number_at homes) s) in
                    ap (number_at new_homes) h ∙ home_after (number_at names list) ∙ grind (arith, nat_tests, a, b, old.1)
              ]
            ],
          );
    }

    -- what each name becomes
    pub name_swapped : (list : ℕ) → list < count → number_at new_names list ≡ swapped_slot from to (number_at names list)
    name_swapped list inside =
        let one = test_named list from inside from_in in
        let other = test_named list to inside to_in in
        name_after list ∙ grind (arith, nat_tests, one, other, homes_differ)

module _ (lists : Linked) (names homes : List ℕ) (is : IsNaming (slot_count lists) names homes) where
  abbrev seen : Linked
  seen = named_pool lists names homes

  pub targets_seen : slot_count seen ≡ slot_count lists
  targets_seen = length-map homes (list_of lists) ∙ is.homes_long

  pub long_seen : length seen.arcs ≡ length lists.arcs
  long_seen = length-map lists.arcs (named names)

  pub into_seen : (slot : ℕ) → slot < slot_count lists → list_of seen slot ≡ list_of lists (number_at homes slot)
  into_seen slot inside = get_or-map (list_of lists) homes slot 0 [] (omega (arith, is.homes_long))

  pub record_seen : (arc : ℕ) → arc < length lists.arcs → record_at seen.arcs arc ≡ named names (record_at lists.arcs arc)
  record_seen arc inside = get_or-map (named names) lists.arcs arc no_arc no_arc inside

  pub target_seen : (arc : ℕ) → arc < length lists.arcs → target_of seen.arcs arc ≡ number_at names (target_of lists.arcs arc)
  target_seen arc inside = ap (λ r. r.target) (record_seen arc inside)

  pub leads_seen : (slot arc : ℕ) → slot < slot_count lists → IsIn lists (number_at homes slot) arc → IsIn seen slot arc
  leads_seen slot arc inside leads =
      (omega (arith, leads.0, long_seen), target_seen arc leads.0 ∙ ap (number_at names) leads.1 ∙ (is.home slot inside).1)

  module _ (valid : IsValidLists lists) where
    walk_seen : (slot : ℕ) → slot < slot_count lists → IsListed seen.arcs slot (list_of lists (number_at homes slot))
    walk_seen slot inside =
        let home = number_at homes slot in
        let walk = valid.walks home (is.home slot inside).0 in
        record {
          distinct = walk.distinct;
          members = λ arc. elim (cases_Bool (ltb arc (length lists.arcs))) [
            | inl here ↦
                let below = ltb-true arc (length lists.arcs) here in
                let same : eqb (target_of seen.arcs arc) slot ≡ eqb (target_of lists.arcs arc) home = ap (λ t. eqb t slot) (target_seen arc below) ∙ test_named (slot_count lists) names homes is (target_of lists.arcs arc) slot (valid.within arc below) inside in
                walk.members arc ∙ ap (λ n. ltb arc n && eqb (target_of lists.arcs arc) home) (sym long_seen) ∙ ap (λ b. ltb arc (length seen.arcs) && b) (sym same)
            | inr beyond ↦
                walk.members arc ∙ and_left (ltb arc (length lists.arcs)) (eqb (target_of lists.arcs arc) home) beyond
                ∙ sym (and_left (ltb arc (length seen.arcs)) (eqb (target_of seen.arcs arc) slot) (ap (ltb arc) long_seen ∙ beyond))
          ];
        }

    pub valid_seen : IsValidLists seen
    valid_seen = record {
      few = omega (arith, long_seen, valid.few);
      within = λ arc inside.
          let below : arc < length lists.arcs = omega (arith, long_seen) in
          omega (arith, target_seen arc below, targets_seen, (is.name (target_of lists.arcs arc) (valid.within arc below)).0);
      walks = λ slot inside.
          let below : slot < slot_count lists = omega (arith, targets_seen) in
          subst (IsListed seen.arcs slot) (sym (into_seen slot below)) (walk_seen slot below);
    }

  -- an arc goes to another list
  pub moved_seen : (arc list slot : ℕ) → arc < length lists.arcs → number_at names list ≡ slot → map (named names) (set lists.arcs arc (sent_to list (record_at lists.arcs arc))) ≡ set seen.arcs arc (sent_to slot (record_at seen.arcs arc))
  moved_seen arc list slot inside same =
      map-set (named names) lists.arcs arc (sent_to list (record_at lists.arcs arc))
      ∙ ap (set seen.arcs arc) (ap (λ t. sent_to t (record_at lists.arcs arc)) same ∙ ap (sent_to slot) (sym (record_seen arc inside)))

  -- an arc is added
  pub added_seen : (arc : ArcRecord) (slot : ℕ) → slot < slot_count lists → slot ≡ arc.target → map (named names) (lists.arcs ++ sent_to (number_at homes slot) arc ∷ []) ≡ seen.arcs ++ arc ∷ []
  added_seen arc slot inside same =
      map-append (named names) lists.arcs (sent_to (number_at homes slot) arc ∷ [])
      ∙ ap (λ t. seen.arcs ++ sent_to t arc ∷ []) ((is.home slot inside).1 ∙ same)

  -- two slots change their homes
  pub swapped_seen : (from to : ℕ) → from ≢ to → from < slot_count lists → to < slot_count lists → IsValidLists lists
      → map (named (set (set names (number_at homes from) to) (number_at homes to) from)) lists.arcs ≡ map (swapped from to) seen.arcs
  swapped_seen from to different from_in to_in valid =
      let after = set (set names (number_at homes from) to) (number_at homes to) from in
      same_lists (map (named after) lists.arcs) (map (swapped from to) seen.arcs) (length-map lists.arcs (named after) ∙ sym (long_seen) ∙ sym (length-map seen.arcs (swapped from to))) (λ k d inside.
      let below : k < length lists.arcs = omega (arith, length-map lists.arcs (named after)) in
      let within : target_of lists.arcs k < slot_count lists = valid.within k below in
      get_or-map (named after) lists.arcs k no_arc d below
      ∙ ap (λ t. sent_to t (record_at lists.arcs k)) (name_swapped (slot_count lists) names homes is from to different from_in to_in (target_of lists.arcs k) within)
      ∙ sym (get_or-map (swapped from to) seen.arcs k no_arc d (omega (arith, long_seen)) ∙ ap (swapped from to) (record_seen k below)))

  pub got_seen : (arc : ℕ) (r : ArcRecord) → slice_get lists.arcs arc ≡ Some r → slice_get seen.arcs arc ≡ Some (named names r)
  got_seen arc r at = slice_get-map (named names) lists.arcs arc ∙ ap (option_map (named names)) at

  -- flags are cleared
  cleared_seen : (slot : ℕ) → slot < slot_count lists → IsValidLists lists → map (named names) (map (cleared (number_at homes slot)) lists.arcs) ≡ map (cleared slot) seen.arcs
  cleared_seen slot inside valid =
      let home = number_at homes slot in
      let left = map (cleared home) lists.arcs in
      let left_long : length left ≡ length lists.arcs = length-map lists.arcs (cleared home) in
      same_lists (map (named names) left) (map (cleared slot) seen.arcs) (length-map left (named names) ∙ left_long ∙ sym (long_seen) ∙ sym (length-map seen.arcs (cleared slot))) (λ k d within.
      let below : k < length lists.arcs = omega (arith, length-map left (named names), left_long) in
      let r = record_at lists.arcs k in
      let test : eqb (number_at names r.target) slot ≡ eqb r.target home = test_named (slot_count lists) names homes is r.target slot (valid.within k below) inside in
      let one : named names (cleared home r) ≡ cleared slot (named names r) = elim (cases_Bool (eqb r.target home)) [
        | inl same ↦ ap (named names) (cond-true (eqb r.target home) (idle r) r same) ∙ sym (cond-true (eqb (number_at names r.target) slot) (idle (named names r)) (named names r) (test ∙ same))
        | inr other ↦ ap (named names) (cond-false (eqb r.target home) (idle r) r other) ∙ sym (cond-false (eqb (number_at names r.target) slot) (idle (named names r)) (named names r) (test ∙ other))
      ] in
      get_or-map (named names) left k no_arc d (omega (arith, left_long)) ∙ ap (named names) (get_or-map (cleared home) lists.arcs k no_arc no_arc below) ∙ one
      ∙ sym (get_or-map (cleared slot) seen.arcs k no_arc d (omega (arith, long_seen)) ∙ ap (cleared slot) (record_seen k below)))

  module _ (pool : Linked) (view_is : named_pool lists names homes ≡ pool) where
    pub in_lists : (slot : ℕ) → slot < slot_count pool → slot < slot_count lists
    in_lists slot inside = omega (arith, ap slot_count view_is, targets_seen)

    pub arc_in_lists : (arc : ℕ) → arc < length pool.arcs → arc < length lists.arcs
    arc_in_lists arc inside = omega (arith, ap (λ p. length p.arcs) view_is, long_seen)

    pub target_on : (arc : ℕ) (r : ArcRecord) → slice_get lists.arcs arc ≡ Some r → IsValidLists lists → r.target < length names
    target_on arc r at valid =
        let below = slice_get_within lists.arcs arc r at in
        let within : r.target < slot_count lists = subst (λ x. x.target < slot_count lists) (get_or_from_slice_get lists.arcs arc r no_arc at) (valid.within arc below) in
        omega (arith, is.names_long)

    -- the arc as it is seen
    pub arc_on : (arc name : ℕ) (r : ArcRecord) → slice_get lists.arcs arc ≡ Some r → name ≡ number_at names r.target → slice_get pool.arcs arc ≡ Some (sent_to name r)
    arc_on arc name r at read =
        ap (λ p. slice_get p.arcs arc) (sym view_is) ∙ got_seen arc r at ∙ ap (λ n. Some (sent_to n r)) (sym read)

    -- an arc goes to another slot's list
    module _ (arc from to one other : ℕ) (from_in : from < slot_count pool) (to_in : to < slot_count pool) (one_read : one ≡ number_at homes from) (other_read : other ≡ number_at homes to) (leads : IsIn lists one arc) where
      pub move_seen : (arcs : List ArcRecord) → arcs ≡ set lists.arcs arc (sent_to other (record_at lists.arcs arc)) → map (named names) arcs ≡ set pool.arcs arc (sent_to to (record_at pool.arcs arc))
      move_seen arcs moved =
          let name = ap (number_at names) other_read ∙ (is.home to (in_lists to to_in)).1 in
          ap (map (named names)) moved ∙ moved_seen arc other to leads.0 name ∙ ap (λ p. set p.arcs arc (sent_to to (record_at p.arcs arc))) view_is

      pub leads_on : IsIn pool from arc
      leads_on = subst (λ p. IsIn p from arc) view_is (leads_seen from arc (in_lists from from_in) (subst (λ l. IsIn lists l arc) one_read leads))

    pub clear_on : (slot home : ℕ) (arcs : List ArcRecord) → slot < slot_count pool → home ≡ number_at homes slot → IsValidLists lists → arcs ≡ map (cleared home) lists.arcs → map (named names) arcs ≡ map (cleared slot) pool.arcs
    clear_on slot home arcs inside read valid written =
        ap (map (named names)) (written ∙ ap (λ h. map (cleared h) lists.arcs) read) ∙ cleared_seen slot (in_lists slot inside) valid ∙ ap (λ p. map (cleared slot) p.arcs) view_is

    -- an arc is added
    pub add_on : (arc : ArcRecord) (home : ℕ) (arcs : List ArcRecord) → arc.target < slot_count pool → home ≡ number_at homes arc.target → arcs ≡ lists.arcs ++ sent_to home arc ∷ [] → map (named names) arcs ≡ pool.arcs ++ arc ∷ []
    add_on arc home arcs inside read grown =
        ap (map (named names)) (grown ∙ ap (λ h. lists.arcs ++ sent_to h arc ∷ []) read) ∙ added_seen arc arc.target (in_lists arc.target inside) refl ∙ ap (λ p. p.arcs ++ arc ∷ []) view_is

    module _ (from to one other : ℕ) (different : from ≢ to) (from_in : from < slot_count pool) (to_in : to < slot_count pool) (one_read : one ≡ number_at homes from) (other_read : other ≡ number_at homes to) where
      module _ (left moved first named_lists : List ℕ) (one_home : left ≡ set homes from other) (other_home : moved ≡ set left to one) (one_name : first ≡ set names one to) (other_name : named_lists ≡ set first other from) where
        names_are : named_lists ≡ set (set names (number_at homes from) to) (number_at homes to) from
        names_are = other_name ∙ ap (λ ns. set ns other from) (one_name ∙ ap (λ l. set names l to) one_read) ∙ ap (λ l. set (set names (number_at homes from) to) l from) other_read

        homes_are : moved ≡ set (set homes from (number_at homes to)) to (number_at homes from)
        homes_are = other_home ∙ ap (λ hs. set hs to one) (one_home ∙ ap (set homes from) other_read) ∙ ap (set (set homes from (number_at homes to)) to) one_read

        pub swap_names : IsNaming (slot_count lists) named_lists moved
        swap_names =
            subst (λ ns. IsNaming (slot_count lists) ns moved) (sym names_are)
            (subst (IsNaming (slot_count lists) (set (set names (number_at homes from) to) (number_at homes to) from)) (sym homes_are)
            (IsNaming-swapped (slot_count lists) names homes is from to different (in_lists from from_in) (in_lists to to_in)))

        pub swap_seen : IsValidLists lists → map (named named_lists) lists.arcs ≡ map (swapped from to) pool.arcs
        swap_seen valid =
            ap (λ ns. map (named ns) lists.arcs) names_are
            ∙ swapped_seen from to different (in_lists from from_in) (in_lists to to_in) valid ∙ ap (λ p. map (swapped from to) p.arcs) view_is
