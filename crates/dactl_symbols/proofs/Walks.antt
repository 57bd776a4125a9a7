-- The steps of loops that keep the least fault of what they passed.
use Rattle.std.proofs.Common.{◌≡◌, ℕ, ◌+◌, ◌<◌, List, [], ◌∷◌, ◌++◌, map, Option, Some, None, length, take, get_or, refl, sym, ap, ◌∙◌, arith, zero-add}
use Rattle.std.specs.Prelude.{option_map}
use Rattle.std.specs.Option.{option_to_list}
use Rattle.std.specs.List.{flat_map, filter_map, cons_option, enumerate_from}
use Rattle.std.proofs.lemmas.List.{take_more, map_more, map-append, map-id, append-nil}
use Rattle.std.proofs.lemmas.List.Elements.{filter_map-append}
use Rattle.std.proofs.lemmas.List.Concat.{flat_map-append}
use Rattle.std.proofs.lemmas.List.FromFn.{length-enumerate_from, get_or-enumerate_from}
use Rattle.dactl_base.specs.declared.refusal.Refusal.{Refusal}
use Rattle.dactl_symbols.specs.Least.{sooner, least_by}
use Rattle.dactl_symbols.proofs.Sooner.{least_by-append, least_by-more, least_by-push}

-- an item more, where each item has several parts
pub least_parts-more : {X Y : Type 0} (fault : Y → Option Refusal) (parts : X → List Y) (xs : List X) (i : ℕ) (x : X) (so_far one : Option Refusal) → i < length xs → x ≡ get_or xs i x → so_far ≡ least_by fault (flat_map parts (take i xs)) → one ≡ least_by fault (parts x) → sooner so_far one ≡ least_by fault (flat_map parts (take (i + 1) xs))
least_parts-more fault parts xs i x so_far one lt at so is =
    ap (λ l. sooner l one) so ∙ ap (sooner (least_by fault (flat_map parts (take i xs)))) (is ∙ ap (λ l. least_by fault l) (sym (append-nil (parts x))))
    ∙ sym (least_by-append fault (flat_map parts (take i xs)) (flat_map parts (x ∷ [])))
    ∙ ap (least_by fault) (sym (flat_map-append parts (take i xs) (x ∷ [])))
    ∙ ap (λ y. least_by fault (flat_map parts (take i xs ++ y ∷ []))) at
    ∙ sym (ap (λ l. least_by fault (flat_map parts l)) (take_more xs i x lt))

-- the item of a number
pub numbered-at : {X : Type 0} (xs : List X) (i : ℕ) (x : X) → i < length xs → x ≡ get_or xs i x → (i, x) ≡ get_or (enumerate_from 0 xs) i (i, x)
numbered-at xs i x lt at = (λ j. (sym (zero-add i) j, at j)) ∙ sym (get_or-enumerate_from 0 xs i (i, x) lt)

pub numbered-within : {X : Type 0} (xs : List X) (i : ℕ) → i < length xs → i < length (enumerate_from 0 xs)
numbered-within xs i lt = let same : length (enumerate_from 0 xs) ≡ length xs = length-enumerate_from 0 xs in omega arith

pub least_numbered-more : {X : Type 0} (fault : ℕ × X → Option Refusal) (xs : List X) (i : ℕ) (x : X) (so_far one : Option Refusal) → i < length xs → x ≡ get_or xs i x → so_far ≡ least_by fault (take i (enumerate_from 0 xs)) → one ≡ fault (i, x) → sooner so_far one ≡ least_by fault (take (i + 1) (enumerate_from 0 xs))
least_numbered-more fault xs i x so_far one lt at so is =
    ap (sooner so_far) is ∙ least_by-more fault (enumerate_from 0 xs) i (i, x) so_far (numbered-within xs i lt) (numbered-at xs i x lt at) so

pub least_by-same : {X : Type 0} (f g : X → Option Refusal) → ((x : X) → f x ≡ g x) → (xs : List X) → least_by f xs ≡ least_by g xs
least_by-same f g same [] = refl
least_by-same f g same (x ∷ xs) = λ j. sooner (same x j) (least_by-same f g same xs j)

-- the numbers may be left out
pub least_by-numbered : {X : Type 0} (fault : X → Option Refusal) (n : ℕ) (xs : List X) → least_by (λ i. fault i.1) (enumerate_from n xs) ≡ least_by fault xs
least_by-numbered fault n [] = refl
least_by-numbered fault n (x ∷ xs) = ap (sooner (fault x)) (least_by-numbered fault (n + 1) xs)

-- ---- items that are seen otherwise

-- one item more
pub mapped-more : {X Y : Type 0} (f : X → Y) (xs : List X) (i : ℕ) (x : X) → i < length xs → x ≡ get_or xs i x → map f (take (i + 1) xs) ≡ map f (take i xs) ++ f x ∷ []
mapped-more f xs i x lt at = map_more f xs i x lt ∙ ap (λ y. map f (take i xs) ++ f y ∷ []) (sym at)

pub least_mapped-more : {X Y : Type 0} (fault : Y → Option Refusal) (f : X → Y) (xs : List X) (i : ℕ) (x : X) (so_far one : Option Refusal) → i < length xs → x ≡ get_or xs i x → so_far ≡ least_by fault (map f (take i xs)) → one ≡ fault (f x) → sooner so_far one ≡ least_by fault (map f (take (i + 1) xs))
least_mapped-more fault f xs i x so_far one lt at so is =
    (λ j. sooner (so j) (is j)) ∙ sym (least_by-push fault (map f (take i xs)) (f x)) ∙ ap (least_by fault) (sym (mapped-more f xs i x lt at))

map-to_list : {A B : Type 0} (v : A → B) (o : Option A) → map v (option_to_list o) ≡ option_to_list (option_map v o)
map-to_list v None = refl
map-to_list v (Some a) = refl

picked-one : {Y B : Type 0} (h : Y → Option B) (y : Y) → filter_map h (y ∷ []) ≡ option_to_list (h y)
picked-one {B = B} h y = by (h y)
  where
    by : (o : Option B) → cons_option o [] ≡ option_to_list o
    by None = refl
    by (Some b) = refl

-- one item more, of which something may be picked
pub picked-more : {A B X Y : Type 0} (v : A → B) (h : Y → Option B) (f : X → Y) (xs : List X) (i : ℕ) (x : X) (items next : List A) (o : Option A) → i < length xs → x ≡ get_or xs i x → map v items ≡ filter_map h (map f (take i xs)) → next ≡ items ++ option_to_list o → option_map v o ≡ h (f x) → map v next ≡ filter_map h (map f (take (i + 1) xs))
picked-more v h f xs i x items next o lt at so grown is =
    ap (map v) grown ∙ map-append v items (option_to_list o)
    ∙ (λ j. so j ++ map-to_list v o j) ∙ ap (λ e. filter_map h (map f (take i xs)) ++ option_to_list e) is
    ∙ ap (λ l. filter_map h (map f (take i xs)) ++ l) (sym (picked-one h (f x)))
    ∙ sym (filter_map-append h (map f (take i xs)) (f x ∷ [])) ∙ ap (filter_map h) (sym (mapped-more f xs i x lt at))

pub picked_same-more : {B X Y : Type 0} (h : Y → Option B) (f : X → Y) (xs : List X) (i : ℕ) (x : X) (items next : List B) (o : Option B) → i < length xs → x ≡ get_or xs i x → items ≡ filter_map h (map f (take i xs)) → next ≡ items ++ option_to_list o → o ≡ h (f x) → next ≡ filter_map h (map f (take (i + 1) xs))
picked_same-more h f xs i x items next o lt at so grown is = sym (map-id next) ∙ picked-more (λ b. b) h f xs i x items next o lt at (map-id items ∙ so) grown (map-same o ∙ is)
  where
    map-same : {A : Type 0} (o : Option A) → option_map (λ a. a) o ≡ o
    map-same None = refl
    map-same (Some a) = refl
