-- Lists in which no two items have one key.
use Rattle.std.proofs.Common.{◌≡◌, ◌≢◌, ℕ, ◌+◌, ◌<◌, ◌≤◌, List, length, take, get_or, All, AllPairs, subst, sym, ◌∙◌, ap, arith, length-take}
use Rattle.std.proofs.lemmas.List.{take_more, take_all, get_or-take, get_or_default}
use Rattle.std.proofs.lemmas.List.Quantifiers.{all_pairs_push}

module _ {X K : Type 0} (key : X → K) where
  -- no two of the items have one key
  abbrev pub Distinct : List X → Type 0
  Distinct xs = AllPairs (λ a b. key a ≢ key b) xs

  -- no item has the key
  abbrev pub IsNew : K → List X → Type 0
  IsNew k xs = All (λ y. key y ≢ k) xs

  pub distinct_more : (xs : List X) (i : ℕ) (d : X) (k : K) → i < length xs → k ≡ key (get_or xs i d) → Distinct (take i xs) → IsNew k (take i xs) → Distinct (take (i + 1) xs)
  distinct_more xs i d k below is distinct new =
      rw (take_more xs i d below) (all_pairs_push (λ a b. key a ≢ key b) (take i xs) (get_or xs i d) distinct (λ j e within same. new j e within (same ∙ sym is)))

  -- an item differs from those before it
  pub new_of_distinct : (xs : List X) (i : ℕ) (d : X) (k : K) → i < length xs → k ≡ key (get_or xs i d) → Distinct xs → IsNew k (take i xs)
  new_of_distinct xs i d k below is distinct j e within =
      let before : j < i = omega (arith, length-take i xs) in
      let at : get_or (take i xs) j e ≡ get_or xs j e = get_or-take i xs j e before in
      let this : get_or xs i e ≡ get_or xs i d = get_or_default xs i e d below in
      λ same. distinct j i e before below (ap key (sym at) ∙ (same ∙ (is ∙ ap key (sym this))))

  pub distinct_end : (xs : List X) (i : ℕ) → length xs ≤ i → Distinct (take i xs) → Distinct xs
  distinct_end xs i past distinct = subst (λ ys. Distinct ys) (take_all i xs past) distinct
