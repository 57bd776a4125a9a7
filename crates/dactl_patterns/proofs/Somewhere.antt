-- Some item of a list.
use Rattle.std.proofs.Common.{◌≡◌, ℕ, ◌⊎◌, inl, inr, List, [], ◌∷◌, ◌++◌, map, Some, sym}
use Rattle.std.specs.Prelude.{Any, slice_get}
use Rattle.std.specs.List.{flat_map, enumerate_from}
use Rattle.std.proofs.lemmas.Option.{slice_get_within, get_or_from_slice_get}
use Rattle.dactl_symbols.proofs.Sooner.{Any-nil, Any-cons, Any-uncons}
use Rattle.dactl_symbols.proofs.Walks.{numbered-at, numbered-within}

module _ {X : Type 0} (P : X → Type 0) where
  pub any_split : (xs ys : List X) → Any P (xs ++ ys) → Any P xs ⊎ Any P ys
  any_split [] ys any = inr any
  any_split (x ∷ xs) ys any = elim (Any-uncons P x (xs ++ ys) any) [
    | inl here ↦ inl (Any-cons P x xs (inl here))
    | inr later ↦ (elim (any_split xs ys later) [ inl left ↦ inl (Any-cons P x xs (inr left)) | inr right ↦ inr right ])
  ]

  pub any_join : (xs ys : List X) → Any P xs ⊎ Any P ys → Any P (xs ++ ys)
  any_join [] ys (inl any) = absurd (Any-nil P any)
  any_join [] ys (inr any) = any
  any_join (x ∷ xs) ys (inl any) = Any-cons P x (xs ++ ys) (elim (Any-uncons P x xs any) [ inl here ↦ inl here | inr later ↦ inr (any_join xs ys (inl later)) ])
  any_join (x ∷ xs) ys (inr any) = Any-cons P x (xs ++ ys) (inr (any_join xs ys (inr any)))

  pub any_one : (x : X) → Any P (x ∷ []) → P x
  any_one x any = elim (Any-uncons P x [] any) [ inl here ↦ here | inr none ↦ absurd (Any-nil P none) ]

  pub one_any : (x : X) → P x → Any P (x ∷ [])
  one_any x p = Any-cons P x [] (inl p)

  -- of what the items of another list give
  pub any_given : {W : Type 0} (f : W → List X) (ws : List W) → Any P (flat_map f ws) → Any (λ w. Any P (f w)) ws
  any_given f [] any = absurd (Any-nil P any)
  any_given f (w ∷ ws) any = Any-cons (λ w. Any P (f w)) w ws (elim (any_split (f w) (flat_map f ws) any) [ inl here ↦ inl here | inr later ↦ inr (any_given f ws later) ])

  pub given_any : {W : Type 0} (f : W → List X) (ws : List W) → Any (λ w. Any P (f w)) ws → Any P (flat_map f ws)
  given_any f [] any = absurd (Any-nil (λ w. Any P (f w)) any)
  given_any f (w ∷ ws) any = any_join (f w) (flat_map f ws) (elim (Any-uncons (λ w. Any P (f w)) w ws any) [ inl here ↦ inl here | inr later ↦ inr (given_any f ws later) ])

  pub mapped_any : {W : Type 0} (f : W → X) (ws : List W) → Any (λ w. P (f w)) ws → Any P (map f ws)
  mapped_any f [] any = absurd (Any-nil (λ w. P (f w)) any)
  mapped_any f (w ∷ ws) any = Any-cons P (f w) (map f ws) (elim (Any-uncons (λ w. P (f w)) w ws any) [ inl here ↦ inl here | inr later ↦ inr (mapped_any f ws later) ])

-- the item that stands at a place, by its number
pub numbered_any : {X : Type 0} (P : ℕ × X → Type 0) (xs : List X) (k : ℕ) (x : X) → slice_get xs k ≡ Some x → P (k, x) → Any P (enumerate_from 0 xs)
numbered_any P xs k x found p =
    let below = slice_get_within xs k x found in
    (k, (k, x), numbered-within xs k below, sym (numbered-at xs k x below (sym (get_or_from_slice_get xs k x x found))), p)
