-- The places of a ring of which those in front are stored.
use Rattle.std.proofs.Common.{◌≡◌, ◌≢◌, ℕ, ◌+◌, ◌-◌, ◌<◌, ◌≤◌, List, [], ◌∷◌, ◌++◌, length, get_or, set, replicate, refl, sym, ap, ◌∙◌, arith, append_assoc, length-append, length-set}
use Rattle.std.proofs.lemmas.List.{get_or_append_left, get_or-append_right, get_or_at, get_or_default, get_or-replicate, length-replicate, length_push, replicate-append-replicate, set-append_left, set_at}
use Rattle.dactl_active.specs.declared.places.Place.{Place}
use Rattle.dactl_active.specs.Round.{blank, round, IsStored}

pub none_stored : (room : ℕ) (stored : List Place) (anchor : Place) → stored ≡ [] → round room stored anchor ≡ replicate room blank ++ anchor ∷ []
none_stored room stored anchor none =
    let all : room - 0 ≡ room = omega arith in
    ap (λ s. round room s anchor) none ∙ ap (λ n. replicate n blank ++ anchor ∷ []) all

module _ (room : ℕ) (stored : List Place) (anchor : Place) (capacity : ℕ) (is : IsStored room stored capacity) where
  numbers_long : length (stored ++ replicate (room - length stored) blank) ≡ room
  numbers_long =
      length-append stored (replicate (room - length stored) blank)
      ∙ omega (arith, length-replicate (room - length stored) blank, is.few)

  pub length-round : length (round room stored anchor) ≡ room + 1
  length-round = length_push (stored ++ replicate (room - length stored) blank) anchor ∙ ap (λ n. n + 1) numbers_long

  pub get_stored : (n : ℕ) → n < length stored → get_or (round room stored anchor) n blank ≡ get_or stored n blank
  get_stored n inside =
      get_or_append_left (stored ++ replicate (room - length stored) blank) (anchor ∷ []) blank n (omega (arith, numbers_long, is.few))
      ∙ get_or_append_left stored (replicate (room - length stored) blank) blank n inside

  pub get_anchor : get_or (round room stored anchor) room blank ≡ anchor
  get_anchor = get_or_at (stored ++ replicate (room - length stored) blank) anchor [] blank room numbers_long

  pub get_blank : (n : ℕ) → length stored ≤ n → n < room → get_or (round room stored anchor) n blank ≡ blank
  get_blank n behind inside =
      get_or_append_left (stored ++ replicate (room - length stored) blank) (anchor ∷ []) blank n (omega (arith, numbers_long))
      ∙ get_or-append_right stored (replicate (room - length stored) blank) (length stored) n blank refl behind
      ∙ get_or-replicate (room - length stored) (n - length stored) blank blank (omega arith)

  pub set_stored : (n : ℕ) (place : Place) → n < length stored → round room (set stored n place) anchor ≡ set (round room stored anchor) n place
  set_stored n place inside =
      ap (λ k. (set stored n place ++ replicate (room - k) blank) ++ anchor ∷ []) (length-set stored n place)
      ∙ ap (λ ps. ps ++ anchor ∷ []) (sym (set-append_left stored (replicate (room - length stored) blank) n place inside))
      ∙ sym (set-append_left (stored ++ replicate (room - length stored) blank) (anchor ∷ []) n place (omega (arith, numbers_long, is.few)))

  pub set_anchor : (place : Place) → round room stored place ≡ set (round room stored anchor) room place
  set_anchor place = sym (set_at (stored ++ replicate (room - length stored) blank) anchor [] place room numbers_long)

  -- more places are stored
  pub grown : (more : ℕ) → length stored + more ≤ room → round room (stored ++ replicate more blank) anchor ≡ round room stored anchor
  grown more few =
      let now : length (stored ++ replicate more blank) ≡ length stored + more = length-append stored (replicate more blank) ∙ ap (λ k. length stored + k) (length-replicate more blank) in
      let left : more + (room - (length stored + more)) ≡ room - length stored = omega arith in
      ap (λ k. ((stored ++ replicate more blank) ++ replicate (room - k) blank) ++ anchor ∷ []) now
      ∙ ap (λ ps. ps ++ anchor ∷ []) (append_assoc stored (replicate more blank) (replicate (room - (length stored + more)) blank)
      ∙ ap (λ ps. stored ++ ps) (replicate-append-replicate more (room - (length stored + more)) blank ∙ ap (λ k. replicate k blank) left))

-- the place of n is stored, and the places are as they were
pub record IsReady (places : List Place) (n room : ℕ) (stored : List Place) (anchor : Place) (capacity : ℕ) : Type 0 where
  pub inside : n < length stored
  pub is : IsStored room stored capacity
  pub same : round room stored anchor ≡ places

module _ (places : List Place) (n room : ℕ) (stored : List Place) (anchor : Place) (capacity : ℕ) (is : IsStored room stored capacity) (view_is : round room stored anchor ≡ places) where
  pub at_most : n < length places → n ≤ room
  at_most inside = omega (arith, ap length view_is, length-round room stored anchor capacity is)

  pub ready_reached : (items : List Place) (taken : ℕ) → n < length places → n ≢ room → items ≡ stored ++ replicate (n + 1 - length stored) blank → taken ≡ capacity → IsReady places n room items anchor taken
  ready_reached items taken in_range other written same_room =
      let most = at_most in_range in
      let more = n + 1 - length stored in
      let few : length stored + more ≤ room = omega (arith, is.few) in
      let count : length items ≡ length stored + more = ap length written ∙ length-append stored (replicate more blank) ∙ ap (λ k. length stored + k) (length-replicate more blank) in
      record {
        inside = omega arith;
        is = record { few = omega arith; taken = omega (arith, is.taken) };
        same = ap (λ ps. round room ps anchor) written ∙ grown room stored anchor capacity is more few ∙ view_is;
      }

  pub written_anchor : (place : Place) → room ≡ n → round room stored place ≡ set places n place
  written_anchor place same =
      set_anchor room stored anchor capacity is place
      ∙ ap (λ k. set (round room stored anchor) k place) same ∙ ap (λ ps. set ps n place) view_is

  pub read_anchor : room ≡ n → anchor ≡ get_or places n blank
  read_anchor same =
      sym (get_anchor room stored anchor capacity is)
      ∙ ap (λ k. get_or (round room stored anchor) k blank) same ∙ ap (λ ps. get_or ps n blank) view_is

module _ (places : List Place) (n room : ℕ) (stored : List Place) (anchor : Place) (capacity : ℕ) (ready : IsReady places n room stored anchor capacity) where
  pub IsStored-set : (place : Place) → IsStored room (set stored n place) capacity
  IsStored-set place = record { few = omega (arith, length-set stored n place, ready.is.few); taken = ready.is.taken }

  pub set_ready : (place : Place) → round room (set stored n place) anchor ≡ set places n place
  set_ready place = set_stored room stored anchor capacity ready.is n place ready.inside ∙ ap (λ ps. set ps n place) ready.same

  pub read_ready : (place : Place) → place ≡ get_or stored n place → place ≡ get_or places n blank
  read_ready place read =
      read ∙ get_or_default stored n place blank ready.inside
      ∙ sym (get_stored room stored anchor capacity ready.is n ready.inside) ∙ ap (λ ps. get_or ps n blank) ready.same
