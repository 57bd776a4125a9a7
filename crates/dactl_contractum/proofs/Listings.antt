-- The items of a text, one after another.
use Rattle.std.proofs.Common.{◌≡◌, ℕ, ◌+◌, ◌<◌, List, [], ◌∷◌, ◌++◌, map, length, take, get_or, sym, ap, ◌∙◌, append_assoc}
use Rattle.std.specs.List.{enumerate_from, flat_map}
use Rattle.std.proofs.lemmas.List.{append-nil, take_more, map-append}
use Rattle.std.proofs.lemmas.Grind.{flat_map-append}
use Rattle.dactl_symbols.proofs.Walks.{numbered-at, numbered-within}

pub one_more : {A : Type 0} (xs : List A) (i : ℕ) (x : A) → i < length xs → x ≡ get_or xs i x → take (i + 1) xs ≡ take i xs ++ x ∷ []
one_more xs i x lt at = take_more xs i x lt ∙ ap (λ (z : _). take i xs ++ z ∷ []) (sym at)

pub flat_one : {A B : Type 0} (f : A → List B) (xs : List A) (x : A) → flat_map f (xs ++ x ∷ []) ≡ flat_map f xs ++ f x
flat_one f xs x = flat_map-append f xs (x ∷ []) ∙ ap (λ (z : List _). flat_map f xs ++ z) (append-nil (f x))

-- an item more, with its number
numbered_more : {A : Type 0} (xs : List A) (i : ℕ) (x : A) → i < length xs → x ≡ get_or xs i x → take (i + 1) (enumerate_from 0 xs) ≡ take i (enumerate_from 0 xs) ++ (i, x) ∷ []
numbered_more xs i x lt at = one_more (enumerate_from 0 xs) i (i, x) (numbered-within xs i lt) (numbered-at xs i x lt at)

pub map_numbered_more : {A B C : Type 0} (f : ℕ × A → B) (v : C → B) (xs : List A) (i : ℕ) (x : A) (start so_far next : List C) (y : C) → i < length xs → x ≡ get_or xs i x
    → map v so_far ≡ map v start ++ map f (take i (enumerate_from 0 xs)) → next ≡ so_far ++ y ∷ [] → v y ≡ f (i, x) → map v next ≡ map v start ++ map f (take (i + 1) (enumerate_from 0 xs))
map_numbered_more f v xs i x start so_far next y lt at so grown is =
    ap (map v) grown ∙ map-append v so_far (y ∷ []) ∙ (λ j. so j ++ is j ∷ []) ∙ append_assoc (map v start) (map f (take i (enumerate_from 0 xs))) (f (i, x) ∷ [])
    ∙ ap (λ (z : List _). map v start ++ z) (sym (ap (map f) (numbered_more xs i x lt at) ∙ map-append f (take i (enumerate_from 0 xs)) ((i, x) ∷ [])))

pub flat_numbered_more : {A B C : Type 0} (f : ℕ × A → List B) (v : C → B) (xs : List A) (i : ℕ) (x : A) (so_far next : List C) → i < length xs → x ≡ get_or xs i x
    → map v so_far ≡ flat_map f (take i (enumerate_from 0 xs)) → map v next ≡ map v so_far ++ f (i, x) → map v next ≡ flat_map f (take (i + 1) (enumerate_from 0 xs))
flat_numbered_more f v xs i x so_far next lt at so grown =
    grown ∙ ap (λ (z : List _). z ++ f (i, x)) so ∙ sym (ap (flat_map f) (numbered_more xs i x lt at) ∙ flat_one f (take i (enumerate_from 0 xs)) (i, x))

-- an item more of a text
pub items_more : {P I X : Type 0} (f : P → List X) (placed : I → P) (items : List I) (i : ℕ) (item : I) → i < length items → item ≡ get_or items i item
    → flat_map f (map placed (take (i + 1) items)) ≡ flat_map f (map placed (take i items)) ++ f (placed item)
items_more f placed items i item lt at =
    ap (λ (l : List _). flat_map f (map placed l)) (one_more items i item lt at) ∙ ap (flat_map f) (map-append placed (take i items) (item ∷ [])) ∙ flat_one f (map placed (take i items)) (placed item)
