-- What a number that goes in at the back, or comes out, leaves of the links.
use Rattle.std.proofs.Common.{◌≡◌, ◌≢◌, ℕ, ◌+◌, ◌-◌, ◌<◌, ◌≤◌, Bool, true, false, ◌||◌, eqb, cond, List, [], ◌∷◌, ◌++◌, length, get_or, set, refl, sym, ap, subst, ◌∙◌, arith, inl, inr, length-set}
use Rattle.std.proofs.lemmas.Bool.{eqb-true, eqb-false, eq-eqb, ne_eqb, or_left, or_right, both_ways, cases_Bool, cases_eq, cond-true, cond-false}
use Rattle.std.proofs.lemmas.Bool.Decides.{nat_tests}
use Rattle.std.proofs.lemmas.List.{get_or-set_other, get_or-set_same, length_push}
use Rattle.std.proofs.lemmas.List.Folds.{list_any-append}
use Rattle.dactl_active.specs.declared.places.Place.{Place}
use Rattle.dactl_active.specs.Ring.{has, without, IsValid}
use Rattle.dactl_active.specs.Round.{blank}
use Rattle.dactl_active.specs.Places.{next_of, previous_of, Joins, Links, following, Lacks, AreApart, IsRing, Rejoins, Marks}
use Rattle.dactl_active.proofs.Numbers.{IsDistinct-from_apart, Lacks-from_has, differs, Lacks-push, AreApart-push, length-apart, without-lacking, has-without, AreApart-without, length-without}

place_set : (places : List Place) (a n : ℕ) (place : Place) → a < length places → get_or (set places a place) n blank ≡ cond (eqb n a) place (get_or places n blank)
place_set places a n place inside = elim (cases_eq n a) [
  | inl same ↦
      ap (λ k. get_or (set places a place) k blank) same ∙ get_or-set_same places a place blank inside
      ∙ sym (cond-true (eqb n a) place (get_or places n blank) (eq-eqb n a same))
  | inr other ↦ get_or-set_other places a n place blank other ∙ sym (cond-false (eqb n a) place (get_or places n blank) (ne_eqb n a other))
]

-- one field of a place is written
kept_field : {X : Type 0} (field : Place → X) (old new : List Place) (a : ℕ) (from place : Place) → a < length old → from ≡ get_or old a blank → new ≡ set old a place → field place ≡ field from → (n : ℕ) → field (get_or new n blank) ≡ field (get_or old n blank)
kept_field field old new a from place inside read written same n = elim (cases_eq n a) [
  | inl here ↦
      ap (λ ps. field (get_or ps n blank)) written ∙ ap field (place_set old a n place inside ∙ cond-true (eqb n a) place (get_or old n blank) (eq-eqb n a here))
      ∙ same ∙ ap field (read ∙ ap (λ k. get_or old k blank) (sym here))
  | inr there ↦ ap (λ ps. field (get_or ps n blank)) written ∙ ap field (place_set old a n place inside ∙ cond-false (eqb n a) place (get_or old n blank) (ne_eqb n a there))
]

new_field : {X : Type 0} (field : Place → X) (old new : List Place) (a : ℕ) (place : Place) (x : X) → a < length old → new ≡ set old a place → field place ≡ x → (n : ℕ) → field (get_or new n blank) ≡ cond (eqb n a) x (field (get_or old n blank))
new_field field old new a place x inside written is n = elim (cases_eq n a) [
  | inl here ↦
      ap (λ ps. field (get_or ps n blank)) written ∙ ap field (place_set old a n place inside ∙ cond-true (eqb n a) place (get_or old n blank) (eq-eqb n a here))
      ∙ is ∙ sym (cond-true (eqb n a) x (field (get_or old n blank)) (eq-eqb n a here))
  | inr there ↦
      ap (λ ps. field (get_or ps n blank)) written ∙ ap field (place_set old a n place inside ∙ cond-false (eqb n a) place (get_or old n blank) (ne_eqb n a there))
      ∙ sym (cond-false (eqb n a) x (field (get_or old n blank)) (ne_eqb n a there))
]

pub rejoined : (old mid new : List Place) (before after : ℕ) → before < length old → after < length old
    → mid ≡ set old before (record (get_or old before blank) { next = after })
    → new ≡ set mid after (record (get_or mid after blank) { previous = before }) → Rejoins old new before after
rejoined old mid new before after before_in after_in first second =
    let from = get_or old before blank in
    let to = get_or mid after blank in
    let one : Place = record from { next = after } in
    let other : Place = record to { previous = before } in
    let first_long : length mid ≡ length old = ap length first ∙ length-set old before one in
    let inside : after < length mid = omega arith in
    record {
      long = ap length second ∙ length-set mid after other ∙ first_long;
      next = λ n. kept_field (λ p. p.next) mid new after to other inside refl second refl n ∙ new_field (λ p. p.next) old mid before one after before_in first refl n;
      previous = λ n.
          new_field (λ p. p.previous) mid new after other before inside second refl n
          ∙ ap (cond (eqb n after) before) (kept_field (λ p. p.previous) old mid before from one before_in refl first refl n);
      present = λ n.
          kept_field (λ p. p.present) mid new after to other inside refl second refl n
          ∙ kept_field (λ p. p.present) old mid before from one before_in refl first refl n;
    }

pub remarked : (old new : List Place) (n : ℕ) (present : Bool) → n < length old → new ≡ set old n (record (get_or old n blank) { present = present }) → Marks old new n present
remarked old new n present inside written =
    let at = get_or old n blank in
    let place : Place = record at { present = present } in
    record {
      long = ap length written ∙ length-set old n place;
      next = kept_field (λ p. p.next) old new n at place inside refl written refl;
      previous = kept_field (λ p. p.previous) old new n at place inside refl written refl;
      marked = new_field (λ p. p.present) old new n place present inside written refl;
    }

-- n goes in between the back and the anchor, as by a link to it, a link behind it and its mark
pub record GoesIn (old new : List Place) (back n anchor : ℕ) : Type 0 where
  pub behind : List Place
  pub linked : List Place
  pub first : Rejoins old behind back n
  pub second : Rejoins behind linked n anchor
  pub marks : Marks linked new n true

-- the same where the place of n is written whole
pub goes_in : (old mid placed new : List Place) (back n anchor : ℕ) → back < length old → n < length old → anchor < length old
    → mid ≡ set old back (record (get_or old back blank) { next = n })
    → placed ≡ set mid n (record { next = anchor; previous = back; present = true })
    → new ≡ set placed anchor (record (get_or placed anchor blank) { previous = n }) → GoesIn old new back n anchor
goes_in old mid placed new back n anchor back_in n_in anchor_in one two three =
    let at_back : Place = record (get_or old back blank) { next = n } in
    let at_n : Place = record { next = anchor; previous = back; present = true } in
    let from = get_or placed anchor blank in
    let at_anchor : Place = record from { previous = n } in
    let mid_long : length mid ≡ length old = ap length one ∙ length-set old back at_back in
    let placed_long : length placed ≡ length old = ap length two ∙ length-set mid n at_n ∙ mid_long in
    let n_mid : n < length mid = omega arith in
    let anchor_placed : anchor < length placed = omega arith in
    let behind = set mid n (record (get_or mid n blank) { previous = back }) in
    let first = rejoined old mid behind back n back_in n_in one refl in
    let half = set behind n (record (get_or behind n blank) { next = anchor }) in
    let linked = set half anchor (record (get_or half anchor blank) { previous = n }) in
    let n_behind : n < length behind = omega (arith, first.long) in
    let anchor_behind : anchor < length behind = omega (arith, first.long) in
    let second = rejoined behind half linked n anchor n_behind anchor_behind refl refl in
    record {
      behind = behind;
      linked = linked;
      first = first;
      second = second;
      marks = record {
        long = ap length three ∙ length-set placed anchor at_anchor ∙ placed_long ∙ sym (second.long ∙ first.long);
        next = λ m.
            kept_field (λ p. p.next) placed new anchor from at_anchor anchor_placed refl three refl m
            ∙ new_field (λ p. p.next) mid placed n at_n anchor n_mid two refl m
            ∙ ap (cond (eqb m n) anchor) (new_field (λ p. p.next) old mid back at_back n back_in one refl m)
            ∙ sym (second.next m ∙ ap (cond (eqb m n) anchor) (first.next m));
        previous = λ m.
            new_field (λ p. p.previous) placed new anchor at_anchor n anchor_placed three refl m
            ∙ ap (cond (eqb m anchor) n) (new_field (λ p. p.previous) mid placed n at_n back n_mid two refl m
            ∙ ap (cond (eqb m n) back) (kept_field (λ p. p.previous) old mid back (get_or old back blank) at_back back_in refl one refl m))
            ∙ sym (second.previous m ∙ ap (cond (eqb m anchor) n) (first.previous m));
        marked = λ m.
            kept_field (λ p. p.present) placed new anchor from at_anchor anchor_placed refl three refl m
            ∙ new_field (λ p. p.present) mid placed n at_n true n_mid two refl m
            ∙ ap (cond (eqb m n) true) (kept_field (λ p. p.present) old mid back (get_or old back blank) at_back back_in refl one refl m
            ∙ sym (second.present m ∙ first.present m));
      };
    }

-- the numbers linked after a are those that following reads
pub following_is : (places : List Place) (a : ℕ) (xs : List ℕ) (z : ℕ) → Links places a xs z → following places a (length xs) ≡ xs
following_is places a [] z links = refl
following_is places a (x ∷ xs) z links =
    rw (links.0.next) (ap (λ t. x ∷ t) (following_is places x xs z links.1))

module _ (old new : List Place) (c d : ℕ) (rejoins : Rejoins old new c d) where
  new_join : Joins new c d
  new_join = record {
    next = rejoins.next c ∙ cond-true (eqb c c) d (next_of old c) (eq-eqb c c refl);
    previous = rejoins.previous d ∙ cond-true (eqb d d) c (previous_of old d) (eq-eqb d d refl);
  }

  kept_join : (a b : ℕ) → a ≢ c → b ≢ d → Joins old a b → Joins new a b
  kept_join a b from to join = record {
    next = rejoins.next a ∙ cond-false (eqb a c) d (next_of old a) (ne_eqb a c from) ∙ join.next;
    previous = rejoins.previous b ∙ cond-false (eqb b d) c (previous_of old b) (ne_eqb b d to) ∙ join.previous;
  }

  kept_links : (a : ℕ) (xs : List ℕ) (z : ℕ) → Lacks (a ∷ xs) c → Lacks (xs ++ z ∷ []) d → Links old a xs z → Links new a xs z
  kept_links a [] z from to links = kept_join a z from.0 to.0 links
  kept_links a (x ∷ xs) z from to links = (kept_join a x from.0 to.0 links.0, kept_links x xs z from.1 to.1 links.1)

Links-marked : (old new : List Place) (n : ℕ) (b : Bool) → Marks old new n b → (a : ℕ) (xs : List ℕ) (z : ℕ) → Links old a xs z → Links new a xs z
Links-marked old new n b marks a [] z links = record { next = marks.next a ∙ links.next; previous = marks.previous z ∙ links.previous }
Links-marked old new n b marks a (x ∷ xs) z links =
    (record { next = marks.next a ∙ links.0.next; previous = marks.previous x ∙ links.0.previous }, Links-marked old new n b marks x xs z links.1)

has_front : (n : ℕ) (xs : List ℕ) → has (n ∷ xs) n ≡ true
has_front n xs = or_left (eqb n n) (has xs n) (eq-eqb n n refl)

module _ (places : List Place) where
  -- what comes before the end is one of the numbers, or the start
  pub last_within : (a : ℕ) (xs : List ℕ) (z : ℕ) → Links places a xs z → has (a ∷ xs) (previous_of places z) ≡ true
  last_within a [] z links = rw (links.previous) (has_front a [])
  last_within a (x ∷ xs) z links = or_right (eqb (previous_of places z) a) (has (x ∷ xs) (previous_of places z)) (last_within x xs z links.1)

  first_within : (a : ℕ) (xs : List ℕ) (z : ℕ) → Links places a xs z → has (xs ++ z ∷ []) (next_of places a) ≡ true
  first_within a [] z links = rw (links.next) (has_front z [])
  first_within a (x ∷ xs) z links = subst (λ k. has (x ∷ (xs ++ z ∷ [])) k ≡ true) (sym links.0.next) (has_front x (xs ++ z ∷ []))

  pub previous_within : (a : ℕ) (xs : List ℕ) (z n : ℕ) → Links places a xs z → has xs n ≡ true → has (a ∷ xs) (previous_of places n) ≡ true
  previous_within a [] z n links present = absurd (both_ways false refl present)
  previous_within a (x ∷ xs) z n links present = elim (cases_Bool (eqb n x)) [
    | inl same ↦
        let before : previous_of places n ≡ a = ap (previous_of places) (eqb-true n x same) ∙ links.0.previous in
        subst (λ k. has (a ∷ x ∷ xs) k ≡ true) (sym before) (has_front a (x ∷ xs))
    | inr other ↦
        let rest : has xs n ≡ true = rw other at present in
        or_right (eqb (previous_of places n) a) (has (x ∷ xs) (previous_of places n)) (previous_within x xs z n links.1 rest)
  ]

  pub next_within : (a : ℕ) (xs : List ℕ) (z n : ℕ) → Links places a xs z → has xs n ≡ true → has (xs ++ z ∷ []) (next_of places n) ≡ true
  next_within a [] z n links present = absurd (both_ways false refl present)
  next_within a (x ∷ xs) z n links present = elim (cases_Bool (eqb n x)) [
    | inl same ↦
        let after = or_right (eqb (next_of places x) x) (has (xs ++ z ∷ []) (next_of places x)) (first_within x xs z links.1) in
        subst (λ k. has (x ∷ (xs ++ z ∷ [])) (next_of places k) ≡ true) (sym (eqb-true n x same)) after
    | inr other ↦
        let rest : has xs n ≡ true = rw other at present in
        or_right (eqb (next_of places n) x) (has (xs ++ z ∷ []) (next_of places n)) (next_within x xs z n links.1 rest)
  ]

-- a number that goes in between the last and the end
pub Links-inserted : (old mid new : List Place) (a : ℕ) (xs : List ℕ) (z n : ℕ) → Rejoins old mid (previous_of old z) n → Rejoins mid new n z → AreApart (a ∷ xs) → Lacks (a ∷ xs) n → Lacks xs z → z ≢ n → Links old a xs z → Links new a (xs ++ n ∷ []) z
Links-inserted old mid new a [] z n first second apart absent end differ links =
    let from_a : Rejoins old mid a n = subst (λ c. Rejoins old mid c n) links.previous first in
    (kept_join mid new n z second a n absent.0 (λ same. differ (sym same)) (new_join old mid a n from_a), new_join mid new n z second)
Links-inserted old mid new a (x ∷ xs) z n first second apart absent end differ links =
    let last = last_within old x xs z links.1 in
    let kept = kept_join old mid (previous_of old z) n first a x (differs (x ∷ xs) a (previous_of old z) apart.0 last) absent.1.0 links.0 in
    (kept_join mid new n z second a x absent.0 end.0 kept, Links-inserted old mid new x xs z n first second apart.1 absent.1 end.1 differ links.1)

-- the first number comes out
front_removed : (old new : List Place) (a x : ℕ) (xs : List ℕ) (z : ℕ) → Rejoins old new (previous_of old x) (next_of old x) → AreApart (a ∷ x ∷ xs) → Lacks (x ∷ xs) z → Joins old a x → Links old x xs z → Links new a xs z
front_removed old new a x [] z rejoins apart end join links =
    let at_a : Rejoins old new a (next_of old x) = subst (λ c. Rejoins old new c (next_of old x)) join.previous rejoins in
    new_join old new a z (subst (λ d. Rejoins old new a d) links.next at_a)
front_removed old new a x (y ∷ ys) z rejoins apart end join links =
    let at_a : Rejoins old new a (next_of old x) = subst (λ c. Rejoins old new c (next_of old x)) join.previous rejoins in
    let at_y : Rejoins old new a y = subst (λ d. Rejoins old new a d) links.0.next at_a in
    (new_join old new a y at_y, kept_links old new a y at_y y ys z apart.0.1 (Lacks-push ys z y apart.1.1.0 (λ same. end.1.0 (sym same))) links.1)

-- a number comes out from where it stands
pub Links-removed : (old new : List Place) (a : ℕ) (xs : List ℕ) (z n : ℕ) → Rejoins old new (previous_of old n) (next_of old n) → AreApart (a ∷ xs) → Lacks xs z → has xs n ≡ true → Links old a xs z → Links new a (without xs n) z
Links-removed old new a [] z n rejoins apart end present links = absurd (both_ways false refl present)
Links-removed old new a (x ∷ xs) z n rejoins apart end present links = elim (cases_Bool (eqb n x)) [
  | inl same ↦
      let equal = eqb-true n x same in
      let at_x : Rejoins old new (previous_of old x) (next_of old x) = subst (λ k. Rejoins old new (previous_of old k) (next_of old k)) equal rejoins in
      rw (eq-eqb x n (sym equal), without-lacking xs n (subst (λ k. Lacks xs k) (sym equal) apart.1.0)) (front_removed old new a x xs z at_x apart end links.0 links.1)
  | inr other ↦
      let rest : has xs n ≡ true = rw other at present in
      let before = differs (x ∷ xs) a (previous_of old n) apart.0 (previous_within old x xs z n links.1 rest) in
      let after = differs (xs ++ z ∷ []) x (next_of old n) (Lacks-push xs z x apart.1.0 (λ same. end.0 (sym same))) (next_within old x xs z n links.1 rest) in
      rw (ne_eqb x n (λ same. eqb-false n x other (sym same))) (kept_join old new (previous_of old n) (next_of old n) rejoins a x before after links.0, Links-removed old new x xs z n rejoins apart.1 end.1 rest links.1)
]

-- the anchor is none of the numbers
Lacks-anchor : (xs : List ℕ) (room : ℕ) → ((n : ℕ) → has xs n ≡ true → n < room) → Lacks xs room
Lacks-anchor [] room below = tt
Lacks-anchor (x ∷ xs) room below =
    let front : x < room = below x (has_front x xs) in
    (λ same. omega arith, Lacks-anchor xs room (λ n present. below n (or_right (eqb n x) (has xs n) present)))

module _ (places : List Place) (room count : ℕ) (xs : List ℕ) (ring : IsRing places room count xs) where
  -- what the fields say is what the ring reads from them
  pub numbers_are : following places room count ≡ xs
  numbers_are = subst (λ k. following places room k ≡ xs) ring.counted (following_is places room xs room ring.linked)

  pub read_ring : IsRing places room count (following places room count)
  read_ring = subst (λ ys. IsRing places room count ys) (sym numbers_are) ring

  pub few : count ≤ room
  few = omega (arith, length-apart xs room ring.apart ring.below, ring.counted)

  lacks_anchor : Lacks xs room
  lacks_anchor = Lacks-anchor xs room ring.below

  apart_from_anchor : AreApart (room ∷ xs)
  apart_from_anchor = (lacks_anchor, ring.apart)

module _ (places : List Place) (room count : ℕ) (xs : List ℕ) (n : ℕ) (ring : IsRing places room count xs) (in_room : n < room) where
  pub IsRing-inserted : (new : List Place) → GoesIn places new (previous_of places room) n room → has xs n ≡ false → IsRing new room (count + 1) (xs ++ n ∷ [])
  IsRing-inserted new goes absent =
      let lacks = Lacks-from_has xs n absent in
      let anchored : Lacks (room ∷ xs) n = (λ same. omega arith, lacks) in
      let links = Links-inserted places goes.behind goes.linked room xs room n goes.first goes.second (apart_from_anchor places room count xs ring) anchored (lacks_anchor places room count xs ring) (λ same. omega arith) ring.linked in
      let member : (m : ℕ) → has (xs ++ n ∷ []) m ≡ (has xs m || (eqb m n || false)) = λ m. list_any-append (eqb m) xs (n ∷ []) in
      record {
        places_fit = ring.places_fit;
        long = goes.marks.long ∙ goes.second.long ∙ goes.first.long ∙ ring.long;
        counted = omega (arith, length_push xs n, ring.counted);
        below = λ m present. grind (arith, nat_tests, member m, ring.below m);
        apart = AreApart-push xs n ring.apart lacks;
        linked = Links-marked goes.linked new n true goes.marks room (xs ++ n ∷ []) room links;
        marked = λ m inside. grind (arith, nat_tests, member m, ring.marked m, goes.marks.marked m, goes.second.present m, goes.first.present m);
      }

  pub IsRing-removed : (joined new : List Place) → Rejoins places joined (previous_of places n) (next_of places n) → Marks joined new n false → has xs n ≡ true → IsRing new room (count - 1) (without xs n)
  IsRing-removed joined new rejoins marks present =
      let links = Links-removed places joined room xs room n rejoins (apart_from_anchor places room count xs ring) (lacks_anchor places room count xs ring) present ring.linked in
      record {
        places_fit = ring.places_fit;
        long = marks.long ∙ rejoins.long ∙ ring.long;
        counted = omega (arith, length-without xs n ring.apart present, ring.counted);
        below = λ m there. grind (arith, nat_tests, has-without xs n m, ring.below m);
        apart = AreApart-without xs n ring.apart;
        linked = Links-marked joined new n false marks room (without xs n) room links;
        marked = λ m inside. grind (arith, nat_tests, has-without xs n m, ring.marked m, marks.marked m, rejoins.present m);
      }

-- what holds of every ring
pub valid : (places : List Place) (room count : ℕ) → IsRing places room count (following places room count) → IsValid (record { numbers = following places room count; room = room })
valid places room count ring = record {
  distinct = IsDistinct-from_apart (following places room count) ring.apart;
  below = ring.below;
}

-- The fields of a ring.
module _ (places : List Place) (room count : ℕ) (ring : IsRing places room count (following places room count)) where
  in_range : (k : ℕ) → has (room ∷ following places room count) k ≡ true → k < length places
  in_range k within = grind (arith, nat_tests, ring.below k, ring.long)

  pub back_in_range : (anchor : Place) → anchor ≡ get_or places room blank → anchor.previous < length places
  back_in_range anchor read =
      subst (λ p. p.previous < length places) (sym read) (in_range (previous_of places room) (last_within places room (following places room count) room ring.linked))

  module _ (n : ℕ) (inside : n < room) where
    pub inserted_fields : (mid placed new : List Place) (anchor : Place) → anchor ≡ get_or places room blank
        → mid ≡ set places anchor.previous (record (get_or places anchor.previous blank) { next = n })
        → placed ≡ set mid n (record { next = room; previous = anchor.previous; present = true })
        → new ≡ set placed room (record (get_or placed room blank) { previous = n })
        → has (following places room count) n ≡ false → IsRing new room (count + 1) (following places room count ++ n ∷ [])
    inserted_fields mid placed new anchor read one two three absent =
        let n_in : n < length places = omega (arith, ring.long) in
        let anchor_in : room < length places = omega (arith, ring.long) in
        let goes = goes_in places mid placed new anchor.previous n room (back_in_range anchor read) n_in anchor_in one two three in
        IsRing-inserted places room count (following places room count) n ring inside new (subst (λ (p : Place). GoesIn places new p.previous n room) read goes) absent

    module _ (at : Place) (read : at ≡ get_or places n blank) (present : has (following places room count) n ≡ true) where
      pub removed_fields : (joined new : List Place) → Rejoins places joined at.previous at.next → Marks joined new n false → IsRing new room (count - 1) (without (following places room count) n)
      removed_fields joined new rejoins marks =
          IsRing-removed places room count (following places room count) n ring inside joined new (subst (λ p. Rejoins places joined p.previous p.next) read rejoins) marks present

      pub previous_in_range : at.previous < length places
      previous_in_range =
          subst (λ p. p.previous < length places) (sym read) (in_range (previous_of places n) (previous_within places room (following places room count) room n ring.linked present))

      pub next_in_range : at.next < length places
      next_in_range =
          let after = next_within places room (following places room count) room n ring.linked present in
          let split = list_any-append (eqb (next_of places n)) (following places room count) (room ∷ []) in
          let within : has (room ∷ following places room count) (next_of places n) ≡ true = grind (arith, nat_tests, split, after) in
          subst (λ p. p.next < length places) (sym read) (in_range (next_of places n) within)
