-- What a call on the fields gives, as a contract sees it.
use Rattle.std.proofs.Common.{◌≡◌, ◌≢◌, ℕ, ◌+◌, ◌<◌, ◌≤◌, ◌^◌, true, ◌&&◌, eqb, ltb, List, [], ◌∷◌, ◌++◌, length, get_or, set, drop, replicate, Option, Some, None, refl, sym, ap, subst, ◌∙◌, arith, length-set}
use Rattle.std.proofs.lemmas.Bool.Decides.{nat_tests}
use Rattle.std.specs.List.{slice_get}
use Rattle.std.specs.Option.{IfSome}
use Rattle.std.proofs.lemmas.Bool.{eq-eqb, eqb-true, lt-ltb, ltb-true, and_from, and_parts}
use Rattle.std.proofs.lemmas.List.{length-map, length_push, get_or-map, get_or_read, get_or-set_same, get_or-set_other, map-set}
use Rattle.std.proofs.lemmas.Option.{none-some, same_Some}
use Rattle.dactl_arcs.specs.declared.lists.ArcRecord.{ArcRecord}
use Rattle.dactl_arcs.specs.declared.lists.LinkedArc.{LinkedArc}
use Rattle.dactl_arcs.specs.Pool.{has, from_arc, rest_of_walk, target_of}
use Rattle.dactl_arcs.specs.Linked.{Linked, IsIn, list_of, slot_count, IsValidLists, IsListed}
use Rattle.dactl_arcs.specs.Moves.{record_at}
use Rattle.dactl_arcs.specs.Links.{unlinked, next_of, records_of, lists_of, IsList, AreLists, IsSound}
use Rattle.dactl_arcs.proofs.Walks.{IsDistinct-from_apart, has-at, has-from_arc, has_front, next_step, whole_walk}
use Rattle.dactl_arcs.proofs.Linking.{AreLists-added, AreLists-moved, AreLists-none, AreLists-same, first_is, get_set, lists_are, below_length, next_is, read_lists, target_is}

-- a list that is not empty is its front and the rest
front_and_rest : (walk : List ℕ) (arc : ℕ) → slice_get walk 0 ≡ Some arc → walk ≡ arc ∷ drop 1 walk
front_and_rest [] arc at_front = absurd (none-some arc at_front)
front_and_rest (x ∷ xs) arc at_front = ap (λ y. y ∷ xs) (same_Some x arc at_front)

pub IsSound-none : (slots room capacity : ℕ) (firsts : List (Option ℕ)) (arcs : List LinkedArc) → room < 2 ^ 32 → room ≤ capacity → firsts ≡ replicate slots None → arcs ≡ [] → IsSound firsts arcs room capacity
IsSound-none slots room capacity firsts arcs fits taken no_first no_arc =
    let none : IsSound (replicate slots None) [] room capacity = record { fits = fits; few = omega arith; taken = taken; lists = read_lists (replicate slots None) [] (replicate slots []) (AreLists-none slots) } in
    subst (λ fs. IsSound fs arcs room capacity) (sym no_first) (subst (λ xs. IsSound (replicate slots None) xs room capacity) (sym no_arc) none)

-- The fields, and what a contract sees of them.
module _ (firsts : List (Option ℕ)) (arcs : List LinkedArc) (room capacity : ℕ) (sound : IsSound firsts arcs room capacity) where
  walk_of : (slot : ℕ) → slot < length firsts → IsListed (records_of arcs) slot (get_or (lists_of firsts arcs) slot [])
  walk_of slot inside =
      let list = sound.lists.each slot inside in
      record {
        distinct = IsDistinct-from_apart (get_or (lists_of firsts arcs) slot []) list.apart;
        members = λ arc. list.members arc ∙ ap (λ n. ltb arc n && eqb (target_of (records_of arcs) arc) slot) (sym (length-map arcs (λ l. l.arc)));
      }

  valid_seen : IsValidLists (record { arcs = records_of arcs; into = lists_of firsts arcs; room = room })
  valid_seen = record {
    few = omega (arith, length-map arcs (λ l. l.arc), sound.few);
    within = λ arc inside. omega (arith, length-map arcs (λ l. l.arc), sound.lists.within arc, sound.lists.long);
    walks = λ slot inside. walk_of slot (omega (arith, sound.lists.long));
  }

  module _ (pool : Linked) (view_is : record { arcs = records_of arcs; into = lists_of firsts arcs; room = room } ≡ pool) where
    pub valid : IsValidLists pool
    valid = subst IsValidLists view_is valid_seen

    in_slots : (slot : ℕ) → slot < slot_count pool → slot < length firsts
    in_slots slot inside = omega (arith, ap slot_count view_is, sound.lists.long)

    in_arcs : (arc : ℕ) → arc < length pool.arcs → arc < length arcs
    in_arcs arc inside = omega (arith, ap (λ p. length p.arcs) view_is, length-map arcs (λ l. l.arc))

    pub first_read : (slot : ℕ) (first : Option ℕ) → slot < slot_count pool → first ≡ get_or firsts slot None → first ≡ slice_get (list_of pool slot) 0
    first_read slot first inside read =
        let below = in_slots slot inside in
        read
        ∙ first_is arcs (get_or firsts slot None) (get_or (lists_of firsts arcs) slot []) (sound.lists.each slot below).follows
        ∙ ap (λ p. slice_get (list_of p slot) 0) view_is

    pub whole_read : (slot : ℕ) (first : Option ℕ) → slot < slot_count pool → first ≡ get_or firsts slot None → rest_of_walk first (list_of pool slot) ≡ list_of pool slot
    whole_read slot first inside read =
        ap (λ o. rest_of_walk o (list_of pool slot)) (first_read slot first inside read) ∙ whole_walk (list_of pool slot)

    -- what is on a walk leads to its target
    on_walk : (slot arc : ℕ) → slot < length firsts → has (get_or (lists_of firsts arcs) slot []) arc ≡ true → IsIn pool slot arc
    on_walk slot arc inside present =
        let list = sound.lists.each slot inside in
        let parts = and_parts (ltb arc (length arcs)) (eqb (target_of (records_of arcs) arc) slot) (sym (list.members arc) ∙ present) in
        let below : arc < length (records_of arcs) = omega (arith, ltb-true arc (length arcs) parts.0, length-map arcs (λ l. l.arc)) in
        subst (λ p. IsIn p slot arc) view_is (below, eqb-true (target_of (records_of arcs) arc) slot parts.1)

    pub first_leads : (slot : ℕ) (first : Option ℕ) → slot < slot_count pool → first ≡ get_or firsts slot None → IfSome first (IsIn pool slot)
    first_leads slot None inside read = tt
    first_leads slot (Some arc) inside read =
        let at_front = first_read slot (Some arc) inside read in
        let walk = ap (λ p. slice_get (list_of p slot) 0) view_is in
        on_walk slot arc (in_slots slot inside) (has-at (get_or (lists_of firsts arcs) slot []) 0 arc (walk ∙ sym at_front))

    module _ (arc : ℕ) (linked : LinkedArc) (inside : arc < length pool.arcs) (read : linked ≡ get_or arcs arc linked) where
      below : arc < length arcs
      below = in_arcs arc inside

      list : IsList arcs (target_of (records_of arcs) arc) (get_or firsts (target_of (records_of arcs) arc) None) (get_or (lists_of firsts arcs) (target_of (records_of arcs) arc) [])
      list = sound.lists.each (target_of (records_of arcs) arc) (sound.lists.within arc below)

      present : has (get_or (lists_of firsts arcs) (target_of (records_of arcs) arc) []) arc ≡ true
      present = list.members arc ∙ and_from _ _ (lt-ltb arc (length arcs) below) (eq-eqb (target_of (records_of arcs) arc) (target_of (records_of arcs) arc) refl)

      next_seen : linked.next ≡ slice_get (from_arc arc (get_or (lists_of firsts arcs) (target_of (records_of arcs) arc) [])) 1
      next_seen =
          ap (λ l. l.next) (get_or_read arcs arc linked below read unlinked)
          ∙ next_is arcs (get_or firsts (target_of (records_of arcs) arc) None) (get_or (lists_of firsts arcs) (target_of (records_of arcs) arc) []) arc list.follows present

      pub next_read : linked.next ≡ slice_get (from_arc arc (list_of pool (target_of pool.arcs arc))) 1
      next_read = next_seen ∙ ap (λ p. slice_get (from_arc arc (list_of p (target_of p.arcs arc))) 1) view_is

      pub rest_read : from_arc arc (list_of pool (target_of pool.arcs arc)) ≡ arc ∷ rest_of_walk linked.next (list_of pool (target_of pool.arcs arc))
      rest_read =
          let walk = get_or (lists_of firsts arcs) (target_of (records_of arcs) arc) [] in
          let step : from_arc arc walk ≡ arc ∷ rest_of_walk linked.next walk = next_step arc walk list.apart present ∙ ap (λ o. arc ∷ rest_of_walk o walk) (sym next_seen) in
          subst (λ p. from_arc arc (list_of p (target_of p.arcs arc)) ≡ arc ∷ rest_of_walk linked.next (list_of p (target_of p.arcs arc))) view_is step

      next_leads : (next : Option ℕ) → next ≡ slice_get (from_arc arc (get_or (lists_of firsts arcs) (target_of (records_of arcs) arc) [])) 1 → IfSome next (IsIn pool (target_of (records_of arcs) arc))
      next_leads None at = tt
      next_leads (Some next) at =
          let walk = get_or (lists_of firsts arcs) (target_of (records_of arcs) arc) [] in
          on_walk (target_of (records_of arcs) arc) next (sound.lists.within arc below) (has-from_arc arc walk next (has-at (from_arc arc walk) 1 next (sym at)))

      pub next_leads_on : IfSome linked.next (IsIn pool (target_of pool.arcs arc))
      next_leads_on = subst (λ t. IfSome linked.next (IsIn pool t)) (ap (λ p. target_of p.arcs arc) view_is) (next_leads linked.next next_seen)

      record_is : linked.arc ≡ record_at pool.arcs arc
      record_is =
          ap (λ l. l.arc) (get_or_read arcs arc linked below read unlinked) ∙ sym (get_or-map (λ l. l.arc) arcs arc unlinked _ below) ∙ ap (λ p. record_at p.arcs arc) view_is

      -- a record is written in its place
      pub written : (changed : LinkedArc) (after : ArcRecord → ArcRecord) → changed.arc ≡ after linked.arc → records_of (set arcs arc changed) ≡ set pool.arcs arc (after (record_at pool.arcs arc))
      written changed after is =
          map-set (λ l. l.arc) arcs arc changed ∙ ap (λ p. set p.arcs arc changed.arc) view_is ∙ ap (set pool.arcs arc) (is ∙ ap after record_is)

      -- a flag is cleared
      pub IsSound-cleared : (changed : LinkedArc) → changed.next ≡ linked.next → changed.arc.target ≡ linked.arc.target → IsSound firsts (set arcs arc changed) room capacity
      IsSound-cleared changed same_next same_target =
          let known : linked ≡ get_or arcs arc unlinked = get_or_read arcs arc linked below read unlinked in
          let next = λ (k : ℕ). let e : next_of (set arcs arc changed) k ≡ next_of arcs k = grind (arith, nat_tests, get_set arcs arc k changed unlinked below, known, same_next) in e in
          let target = λ (k : ℕ). let e : target_of (records_of (set arcs arc changed)) k ≡ target_of (records_of arcs) k = grind (arith, nat_tests, get_set arcs arc k changed unlinked below, known, same_target, target_is (set arcs arc changed) k, target_is arcs k) in e in
          record {
            fits = sound.fits;
            few = omega (arith, length-set arcs arc changed, sound.few);
            taken = sound.taken;
            lists = read_lists _ _ _ (AreLists-same firsts arcs (set arcs arc changed) (lists_of firsts arcs) (length-set arcs arc changed) next target sound.lists);
          }

    -- a new arc
    pub IsSound-added : (arc : LinkedArc) (number : ℕ) (link : Option ℕ) (begun : List (Option ℕ)) (items : List LinkedArc) → number ≡ length arcs → length pool.arcs < pool.room → arc.arc.target < slot_count pool → arc.next ≡ get_or firsts arc.arc.target None → items ≡ arcs ++ arc ∷ [] → link ≡ Some number → begun ≡ set firsts arc.arc.target link → IsSound begun items room capacity
    IsSound-added arc number link begun items counted has_room inside read pushed leads written =
        let below = in_slots arc.arc.target inside in
        let added = read_lists _ _ _ (AreLists-added firsts arcs (lists_of firsts arcs) sound.lists arc below read) in
        let all : IsSound (set firsts arc.arc.target (Some (length arcs))) (arcs ++ arc ∷ []) room capacity =
        record {
          fits = sound.fits;
          few = omega (arith, length_push arcs arc, ap (λ p. length p.arcs) view_is, length-map arcs (λ l. l.arc), ap (λ p. p.room) view_is);
          taken = sound.taken;
          lists = added;
        } in
        let is = written ∙ ap (set firsts arc.arc.target) (leads ∙ ap Some counted) in
        subst (λ fs. IsSound fs items room capacity) (sym is) (subst (λ xs. IsSound (set firsts arc.arc.target (Some (length arcs))) xs room capacity) (sym pushed) all)

    -- the first arc of a list goes in front of another
    module _ (arc from to : ℕ) (different : from ≢ to) (from_in : from < slot_count pool) (to_in : to < slot_count pool) (at_front : slice_get (list_of pool from) 0 ≡ Some arc) where
      split : get_or (lists_of firsts arcs) from [] ≡ arc ∷ drop 1 (get_or (lists_of firsts arcs) from [])
      split = front_and_rest (get_or (lists_of firsts arcs) from []) arc (ap (λ p. slice_get (list_of p from) 0) view_is ∙ at_front)

      pub front_inside : arc < length arcs
      front_inside =
          let list = subst (λ w. IsList arcs from (get_or firsts from None) w) split (sound.lists.each from (in_slots from from_in)) in
          below_length arcs from (get_or firsts from None) (arc ∷ drop 1 (get_or (lists_of firsts arcs) from [])) list arc (has_front arc _)

      pub front_seen : arc < length pool.arcs
      front_seen = omega (arith, front_inside, ap (λ p. length p.arcs) view_is, length-map arcs (λ l. l.arc))

      pub front_leads : IsIn pool from arc
      front_leads = on_walk from arc (in_slots from from_in) (has-at (get_or (lists_of firsts arcs) from []) 0 arc (ap (λ p. slice_get (list_of p from) 0) view_is ∙ at_front))

      module _ (linked moved : LinkedArc) (behind : Option ℕ) (read : linked ≡ get_or arcs arc linked) (read_behind : behind ≡ get_or firsts to None) (sent : moved.arc.target ≡ to) (joined : moved.next ≡ behind) where
        next_known : linked.next ≡ next_of arcs arc
        next_known = ap (λ l. l.next) (get_or_read arcs arc linked front_inside read unlinked)

        lists_moved : AreLists (set (set firsts from linked.next) to (Some arc)) (set arcs arc moved) (set (set (lists_of firsts arcs) from (drop 1 (get_or (lists_of firsts arcs) from []))) to (arc ∷ get_or (lists_of firsts arcs) to []))
        lists_moved =
            let rest = drop 1 (get_or (lists_of firsts arcs) from []) in
            let link = joined ∙ read_behind in
            let known = AreLists-moved firsts arcs (lists_of firsts arcs) sound.lists from to arc rest different (in_slots from from_in) (in_slots to to_in) split moved sent link in
            subst (λ o. AreLists (set (set firsts from o) to (Some arc)) (set arcs arc moved) (set (set (lists_of firsts arcs) from rest) to (arc ∷ get_or (lists_of firsts arcs) to []))) (sym next_known) known

        module _ (mid now : List (Option ℕ)) (link : Option ℕ) (left : mid ≡ set firsts from linked.next) (begun : now ≡ set mid to link) (leads : link ≡ Some arc) where
          firsts_are : now ≡ set (set firsts from linked.next) to (Some arc)
          firsts_are = begun ∙ ap (set mid to) leads ∙ ap (λ fs. set fs to (Some arc)) left

          pub IsSound-moved : IsSound now (set arcs arc moved) room capacity
          IsSound-moved =
              subst (λ fs. IsSound fs (set arcs arc moved) room capacity) (sym firsts_are) (record {
                fits = sound.fits;
                few = omega (arith, length-set arcs arc moved, sound.few);
                taken = sound.taken;
                lists = read_lists _ _ _ lists_moved;
              })

          pub length-moved : length (get_or (lists_of now (set arcs arc moved)) from []) + 1 ≡ length (list_of pool from)
          length-moved =
              let rest = drop 1 (get_or (lists_of firsts arcs) from []) in
              let old_lists = lists_of firsts arcs in
              let new_lists = set (set old_lists from rest) to (arc ∷ get_or old_lists to []) in
              let read_new = ap (λ fs. lists_of fs (set arcs arc moved)) firsts_are ∙ lists_are _ _ _ lists_moved in
              let in_lists : from < length old_lists = omega (arith, sound.lists.long, in_slots from from_in) in
              let left : get_or new_lists from [] ≡ rest = get_or-set_other (set old_lists from rest) to from (arc ∷ get_or old_lists to []) [] different ∙ get_or-set_same old_lists from rest [] in_lists in
              let new_length = ap (λ ls. length (get_or ls from [])) read_new ∙ ap length left in
              let old_length = ap (λ p. length (list_of p from)) view_is in
              omega (arith, new_length, old_length, ap length split)
