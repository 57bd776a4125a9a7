-- Two lists, place by place.
use Rattle.std.proofs.Common.{◌≡◌, ℕ, suc, ◌<◌, List, [], ◌∷◌, length, All, arith}
use Rattle.std.specs.List.{AllZip}
use Rattle.std.specs.Prelude.{slice_index_or}
use Rattle.std.proofs.lemmas.Slice.Zip.{AllZip-long}
use Rattle.std.proofs.lemmas.List.Elements.{AllZip-get_or}

module _ {A : Type 0} where
  pub all_zip : (R : A → A → Type 0) (xs ys : List A) → length ys ≡ length xs → ((i : ℕ) (d : A) → i < length xs → R (slice_index_or xs i d) (slice_index_or ys i d)) → AllZip R xs ys
  all_zip R [] [] long each = tt
  all_zip R [] (y ∷ ys) long each = absurd (omega arith)
  all_zip R (x ∷ xs) [] long each = absurd (omega arith)
  all_zip R (x ∷ xs) (y ∷ ys) long each = (each 0 x (omega arith), all_zip R xs ys (omega arith) (λ i d lt. each (suc i) d (omega arith)))

  -- what holds of each item before, and pairs it with one after
  pub all_after : (P Q : A → Type 0) (R : A → A → Type 0) (xs ys : List A) → ((x y : A) → P x → R x y → Q y) → All P xs → AllZip R xs ys → All Q ys
  all_after P Q R xs ys step all pairs = all_get_or Q ys (λ i d lt. step (slice_index_or xs i d) (slice_index_or ys i d) (all i d (let e = AllZip-long R xs ys pairs in omega arith)) (AllZip-get_or R xs ys i d d pairs (let e = AllZip-long R xs ys pairs in omega arith)))
    where
      all_get_or : (Q : A → Type 0) (ys : List A) → ((i : ℕ) (d : A) → i < length ys → Q (slice_index_or ys i d)) → All Q ys
      all_get_or Q ys each = each
