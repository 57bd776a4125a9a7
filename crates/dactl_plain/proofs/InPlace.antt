-- Lists that are changed item by item, where they lie.
use Rattle.std.proofs.Common.{◌≡◌, ℕ, ◌+◌, ◌<◌, ◌≤◌, List, [], ◌∷◌, ◌++◌, length, take, drop, set, get_or, refl, arith, append_assoc}
use Rattle.std.proofs.lemmas.List.{take_more, take_more_set, drop_more, drop-set-lt, drop_all, take_all, append-nil}

-- g says what becomes of the items from a number on, and f of one
module _ {X : Type 0} (f : ℕ → X → X) (g : ℕ → List X → List X) (opens : (k : ℕ) (x : X) (xs : List X) → g k (x ∷ xs) ≡ f k x ∷ g (k + 1) xs) (ends : (k : ℕ) → g k [] ≡ []) where
  -- one more item is changed
  pub changed_more : (xs : List X) (i : ℕ) (x y : X) → i < length xs → x ≡ get_or xs i x → y ≡ f i x
      → take (i + 1) (set xs i y) ++ g (i + 1) (drop (i + 1) (set xs i y)) ≡ take i xs ++ g i (drop i xs)
  changed_more xs i x y below is after =
      rw (take_more_set xs i y below, drop-set-lt (i + 1) xs i y (omega arith), drop_more xs i x below, ← is, opens i x, append_assoc, after) refl

  -- or stays as it is
  pub kept_more : (xs : List X) (i : ℕ) (x : X) → i < length xs → x ≡ get_or xs i x → f i x ≡ x
      → take (i + 1) xs ++ g (i + 1) (drop (i + 1) xs) ≡ take i xs ++ g i (drop i xs)
  kept_more xs i x below is same =
      rw (take_more xs i x below, drop_more xs i x below, ← is, opens i x, append_assoc, same) refl

  -- and at the end all are
  pub changed_all : (xs : List X) (i : ℕ) → length xs ≤ i → take i xs ++ g i (drop i xs) ≡ xs
  changed_all xs i past = rw (take_all i xs past, drop_all i xs past, ends i) (append-nil xs)
