-- Names each once, and their numbers.
use Rattle.std.proofs.Common.{◌≡◌, ◌≢◌, ℕ, zero, suc, ◌+◌, ◌<◌, true, false, not, ◌||◌, List, [], ◌∷◌, length, refl, sym, ap, subst, ◌∙◌, arith, inl, inr, bytes_eq}
use Rattle.std.proofs.lemmas.Slice.Eq.{bytes_eq-Decides}
use Rattle.dactl_meaning.specs.Expansion.{is_among, each_once, number_in}
use Rattle.dactl_validity.proofs.ValidTests.{is_false}
use Rattle.dactl_validity.proofs.ValidLists.{In, Pairs, in_filter, filter_in, pairs_filter}

pub same_name : (a b : List ℕ) → bytes_eq a b ≡ true → a ≡ b
same_name a b e = (bytes_eq-Decides a b).0 e

pub name_itself : (a : List ℕ) → bytes_eq a a ≡ true
name_itself a = (bytes_eq-Decides a a).1 refl

pub name_differs : (a b : List ℕ) → a ≢ b → bytes_eq a b ≡ false
name_differs a b n = (elim (bytes_eq a b) as (λ t. bytes_eq a b ≡ t → t ≡ false) [ true ↦ λ e. absurd (n (same_name a b e)) | false ↦ λ e. refl ]) refl

pub name_unequal : (a b : List ℕ) → bytes_eq a b ≡ false → a ≢ b
name_unequal a b e same = let f : true ≡ false = sym (name_itself b) ∙ ap (λ z. bytes_eq z b) (sym same) ∙ e in cc

pub among_of : (names : List (List ℕ)) (w : List ℕ) → In names w → is_among names w ≡ true
among_of [] w h = absurd h
among_of (v ∷ names) w (inl e) = let t : bytes_eq v w ≡ true = subst (λ z. bytes_eq v z ≡ true) e (name_itself v) in rw t refl
among_of (v ∷ names) w (inr h) = (elim (bytes_eq v w) as (λ b. (b || is_among names w) ≡ true) [ true ↦ refl | false ↦ among_of names w h ])

pub among_in : (names : List (List ℕ)) (w : List ℕ) → is_among names w ≡ true → In names w
among_in [] w e = absurd cc
among_in (v ∷ names) w e = (elim (bytes_eq v w) as (λ b. bytes_eq v w ≡ b → (b || is_among names w) ≡ true → In (v ∷ names) w) [
  | true ↦ λ t k. inl (same_name v w t)
  | false ↦ λ t k. inr (among_in names w k)
]) refl e

-- ---- each once

pub once_in : (names : List (List ℕ)) (w : List ℕ) → In (each_once names) w → In names w
once_in [] w h = h
once_in (v ∷ names) w (inl e) = inl e
once_in (v ∷ names) w (inr h) = inr (once_in names w (filter_in (λ u. not (bytes_eq v u)) (each_once names) w h).0)

pub in_once : (names : List (List ℕ)) (w : List ℕ) → In names w → In (each_once names) w
in_once [] w h = h
in_once (v ∷ names) w (inl e) = inl e
in_once (v ∷ names) w (inr h) = (elim (bytes_eq v w) as (λ b. bytes_eq v w ≡ b → In (each_once (v ∷ names)) w) [
  | true ↦ λ t. inl (same_name v w t)
  | false ↦ λ t. inr (in_filter (λ u. not (bytes_eq v u)) (each_once names) w (in_once names w h) (ap not t))
]) refl

pub once_distinct : (names : List (List ℕ)) → Pairs (λ a b. a ≢ b) (each_once names)
once_distinct [] = tt
once_distinct (v ∷ names) =
    (λ w h. name_unequal v w (is_false _ (filter_in (λ u. not (bytes_eq v u)) (each_once names) w h).1), pairs_filter (λ a b. a ≢ b) (λ u. not (bytes_eq v u)) (each_once names) (once_distinct names))

-- ---- numbers

number_here : (v w : List ℕ) (names : List (List ℕ)) → v ≡ w → number_in (v ∷ names) w ≡ 0
number_here v w names e = let t : bytes_eq v w ≡ true = subst (λ z. bytes_eq v z ≡ true) e (name_itself v) in rw t refl

number_later : (v w : List ℕ) (names : List (List ℕ)) → bytes_eq v w ≡ false → number_in (v ∷ names) w ≡ number_in names w + 1
number_later v w names t = rw t refl

pub number_below : (names : List (List ℕ)) (w : List ℕ) → In names w → number_in names w < length names
number_below [] w h = absurd h
number_below (v ∷ names) w (inl e) = omega (arith, number_here v w names e)
number_below (v ∷ names) w (inr h) = (elim (bytes_eq v w) as (λ b. bytes_eq v w ≡ b → number_in (v ∷ names) w < length (v ∷ names)) [
  | true ↦ λ t. omega (arith, number_here v w names (same_name v w t))
  | false ↦ λ t. omega (arith, number_later v w names t, number_below names w h)
]) refl

-- each number below the count is a name's
pub number_of_some : (names : List (List ℕ)) → Pairs (λ a b. a ≢ b) names → (v : ℕ) → v < length names → (w : List ℕ) × In names w × (number_in names w ≡ v)
number_of_some [] h v lt = absurd (omega arith)
number_of_some (n ∷ names) h zero lt = (n, inl refl, number_here n n names refl)
number_of_some (n ∷ names) h (suc v) lt =
    let r = number_of_some names h.1 v (omega arith) in
    (r.0, inr r.1, omega (arith, number_later n r.0 names (name_differs n r.0 (h.0 r.0 r.1)), r.2))

-- names with one number are one
pub number_once : (names : List (List ℕ)) (a b : List ℕ) → In names a → In names b → number_in names a ≡ number_in names b → a ≡ b
number_once [] a b h k e = absurd h
number_once (v ∷ names) a b h k e = (elim (bytes_eq v a) as (λ s. bytes_eq v a ≡ s → a ≡ b) [
  | true ↦ λ s. (elim (bytes_eq v b) as (λ t. bytes_eq v b ≡ t → a ≡ b) [
    | true ↦ λ t. sym (same_name v a s) ∙ same_name v b t
    | false ↦ λ t. absurd (omega (arith, number_here v a names (same_name v a s), number_later v b names t, e))
  ]) refl
  | false ↦ λ s. (elim (bytes_eq v b) as (λ t. bytes_eq v b ≡ t → a ≡ b) [
    | true ↦ λ t. absurd (omega (arith, number_here v b names (same_name v b t), number_later v a names s, e))
    | false ↦ λ t. number_once names a b (later a s h) (later b t k) (omega (arith, number_later v a names s, number_later v b names t, e))
  ]) refl
]) refl
  where
    later : (w : List ℕ) → bytes_eq v w ≡ false → In (v ∷ names) w → In names w
    later w t (inl same) = absurd (name_unequal v w t same)
    later w t (inr m) = m
