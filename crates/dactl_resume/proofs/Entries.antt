-- What a map from names finds after one name more.
use Rattle.std.proofs.Common.{◌≡◌, ℕ, zero, suc, ◌+◌, Bool, true, false, List, [], ◌∷◌, ◌++◌, length, Option, Some, None, slice_get, refl, sym, ap, ◌∙◌, subst, arith}
use Rattle.std.specs.Prelude.{Vec}
use Rattle.std.specs.BTreeMap.{BTreeMap, is_at, Updates}
use Rattle.std.specs.Cmp.{eq_by_cmp_equiv}
use Rattle.std.specs.Cmp.Lexicographic.{slice_cmp, nat_list_cmp_total}
use Rattle.std.specs.Map.{KeepsOthers}
use Rattle.std.specs.Ordering.{nat_cmp}
use Rattle.std.specs.Str.{bytes_eq}
use Rattle.std.proofs.lemmas.Map.Text.{is_eq-slice_cmp}
use Rattle.std.proofs.lemmas.Slice.Eq.{bytes_eq-Decides}
use Rattle.dactl_within.proofs.After.{get_append_left, get_append_right}
use Rattle.dactl_resume.specs.Found.{found_in, IsPlace, ArePlaces}

-- a key that is this word is no other word
apart : (key word ks : List ℕ) → bytes_eq word key ≡ false → is_at (slice_cmp nat_cmp key) ks ≡ true → is_at (slice_cmp nat_cmp word) ks ≡ false
apart key word ks differs same =
    let e : key ≡ ks = (bytes_eq-Decides key ks).0 (sym (is_eq-slice_cmp key ks) ∙ same) in
    is_eq-slice_cmp word ks ∙ ap (bytes_eq word) (sym e) ∙ differs

-- of a list with one word more at its end, a place is an old one or the last
place_cases : (names : List (List ℕ)) (last word : List ℕ) (i : ℕ) → slice_get (names ++ last ∷ []) i ≡ Some word → (last ≡ word → ⊥) → slice_get names i ≡ Some word
place_cases [] last word i at other = absurd (go i at)
  where
    go : (i : ℕ) → slice_get (last ∷ []) i ≡ Some word → ⊥
    go zero at = let same : last ≡ word = cc in other same
    go (suc i) at = absurd (cc at)
place_cases (name ∷ names) last word zero at other = at
place_cases (name ∷ names) last word (suc i) at other = place_cases names last word i at other

place_kept : (names : List (List ℕ)) (last word : List ℕ) (o : Option ℕ) → (last ≡ word → ⊥) → IsPlace names word o → IsPlace (names ++ last ∷ []) word o
place_kept names last word None other none = λ i at. none i (place_cases names last word i at other)
place_kept names last word (Some i) other at = get_append_left names (last ∷ []) i word at

no_place : (word : List ℕ) (found : List ℕ → Option ℕ) → found word ≡ None → IsPlace [] word (found word)
no_place word found none = subst (IsPlace [] word) (sym none) (λ i at. absurd (cc at))

module _ {A : Type 0} (m n : BTreeMap (Vec ℕ A) ℕ) (k : Vec ℕ A) (v : ℕ) (updates : Updates (λ x y. slice_cmp nat_cmp x.items y.items) m n k (Some v)) where
  found-other : (word : List ℕ) → bytes_eq word k.items ≡ false → found_in n word ≡ found_in m word
  unfolding KeepsOthers
  found-other word differs =
      updates.3 (λ y. is_at (slice_cmp nat_cmp word) y.items) (λ x y. (eq_by_cmp_equiv nat_list_cmp_total).congr word x.items y.items) (λ y. apart k.items word y.items differs)

  -- one name more has the next place
  pub places_more : (names : List (List ℕ)) (name : List ℕ) → k.items ≡ name → v ≡ length names → ArePlaces names (found_in m) → ArePlaces (names ++ name ∷ []) (found_in n)
  places_more names name key long places word = by (bytes_eq word name) refl
    where
      by : (b : Bool) → bytes_eq word name ≡ b → IsPlace (names ++ name ∷ []) word (found_in n word)
      by true same =
          let e : word ≡ name = (bytes_eq-Decides word name).0 same in
          let found : found_in n word ≡ Some v = ap (found_in n) (e ∙ sym key) ∙ updates.1 in
          let zero_more : length names ≡ length names + 0 = omega arith in
          let at : slice_get (names ++ name ∷ []) v ≡ Some word = ap (slice_get (names ++ name ∷ [])) (long ∙ zero_more) ∙ get_append_right names (name ∷ []) (length names) 0 refl ∙ ap Some (sym e) in
          subst (IsPlace (names ++ name ∷ []) word) (sym found) at
      by false differs =
          let other : name ≡ word → ⊥ = λ e. let same : bytes_eq word name ≡ true = (bytes_eq-Decides word name).1 (sym e) in cc in
          subst (IsPlace (names ++ name ∷ []) word) (sym (found-other word (ap (bytes_eq word) key ∙ differs))) (place_kept names name word (found_in m word) other (places word))
