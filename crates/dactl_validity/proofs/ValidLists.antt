-- Members of lists, and what holds of each of them.
use Rattle.std.proofs.Common.{◌≡◌, ℕ, zero, suc, ◌<◌, ◌≤◌, Bool, true, false, cond, List, [], ◌∷◌, ◌++◌, map, length, slice_get, slice_index_or, Option, Some, None, All, Any, AllPairs, Contains, filter, refl, sym, ap, subst, ◌∙◌, arith, ◌⊎◌, inl, inr}
use Rattle.std.specs.List.{flat_map, filter_map, cons_option}
use Rattle.std.proofs.lemmas.List.Elements.{All-nil, All-cons}

-- x is one of the list
abbrev pub In : {X : Type 0} → List X → X → Type 0
In [] x = ⊥
In (y ∷ ys) x = (y ≡ x) ⊎ In ys x

-- R holds of each element and each later one
abbrev pub Pairs : {X : Type 0} → (X → X → Type 0) → List X → Type 0
Pairs R [] = Unit {0}
Pairs {X} R (x ∷ xs) = ((y : X) → In xs y → R x y) × Pairs R xs

pub in_left : {X : Type 0} (xs ys : List X) (x : X) → In xs x → In (xs ++ ys) x
in_left [] ys x h = absurd h
in_left (y ∷ xs) ys x (inl e) = inl e
in_left (y ∷ xs) ys x (inr h) = inr (in_left xs ys x h)

pub in_right : {X : Type 0} (xs ys : List X) (x : X) → In ys x → In (xs ++ ys) x
in_right [] ys x h = h
in_right (y ∷ xs) ys x h = inr (in_right xs ys x h)

pub in_either : {X : Type 0} (xs ys : List X) (x : X) → In (xs ++ ys) x → In xs x ⊎ In ys x
in_either [] ys x h = inr h
in_either (y ∷ xs) ys x (inl e) = inl (inl e)
in_either (y ∷ xs) ys x (inr h) = elim (in_either xs ys x h) [ inl a ↦ inl (inr a) | inr b ↦ inr b ]

pub in_map : {X Y : Type 0} (f : X → Y) (xs : List X) (x : X) → In xs x → In (map f xs) (f x)
in_map f [] x h = absurd h
in_map f (y ∷ xs) x (inl e) = inl (ap f e)
in_map f (y ∷ xs) x (inr h) = inr (in_map f xs x h)

pub map_in : {X Y : Type 0} (f : X → Y) (xs : List X) (y : Y) → In (map f xs) y → (x : X) × In xs x × (f x ≡ y)
map_in f [] y h = absurd h
map_in f (x ∷ xs) y (inl e) = (x, inl refl, e)
map_in f (x ∷ xs) y (inr h) = let r = map_in f xs y h in (r.0, inr r.1, r.2)

pub in_flat : {X Y : Type 0} (f : X → List Y) (xs : List X) (x : X) (y : Y) → In xs x → In (f x) y → In (flat_map f xs) y
in_flat f [] x y h k = absurd h
in_flat f (z ∷ xs) x y (inl e) k = in_left (f z) (flat_map f xs) y (subst (λ w. In (f w) y) (sym e) k)
in_flat f (z ∷ xs) x y (inr h) k = in_right (f z) (flat_map f xs) y (in_flat f xs x y h k)

pub flat_in : {X Y : Type 0} (f : X → List Y) (xs : List X) (y : Y) → In (flat_map f xs) y → (x : X) × In xs x × In (f x) y
flat_in f [] y h = absurd h
flat_in f (x ∷ xs) y h = elim (in_either (f x) (flat_map f xs) y h) [
  | inl a ↦ (x, inl refl, a)
  | inr b ↦ (let r = flat_in f xs y b in (r.0, inr r.1, r.2))
]

pub in_filter : {X : Type 0} (p : X → Bool) (xs : List X) (x : X) → In xs x → p x ≡ true → In (filter p xs) x
in_filter p [] x h k = absurd h
in_filter p (y ∷ xs) x (inl e) k = let t : p y ≡ true = ap p e ∙ k in rw t (inl e)
in_filter p (y ∷ xs) x (inr h) k = elim (p y) as (λ b. In (cond b (y ∷ filter p xs) (filter p xs)) x) [ true ↦ inr (in_filter p xs x h k) | false ↦ in_filter p xs x h k ]

pub filter_in : {X : Type 0} (p : X → Bool) (xs : List X) (x : X) → In (filter p xs) x → In xs x × (p x ≡ true)
filter_in p [] x h = absurd h
filter_in p (y ∷ xs) x h = (elim (p y) as (λ b. p y ≡ b → In (cond b (y ∷ filter p xs) (filter p xs)) x → In (y ∷ xs) x × (p x ≡ true)) [
  | true ↦ λ e k. elim k [ inl same ↦ (inl same, ap p (sym same) ∙ e) | inr r ↦ (let s = filter_in p xs x r in (inr s.0, s.1)) ]
  | false ↦ λ e k. (let s = filter_in p xs x k in (inr s.0, s.1))
]) refl h

pub filter_map_in : {X Y : Type 0} (f : X → Option Y) (xs : List X) (y : Y) → In (filter_map f xs) y → (x : X) × In xs x × (f x ≡ Some y)
filter_map_in f [] y h = absurd h
filter_map_in {X} f (x ∷ xs) y h = (elim (f x) as (λ o. f x ≡ o → In (cons_option o (filter_map f xs)) y → (z : X) × In (x ∷ xs) z × (f z ≡ Some y)) [
  | None ↦ λ e k. (let r = filter_map_in f xs y k in (r.0, inr r.1, r.2))
  | Some z ↦ λ e k. elim k [ inl same ↦ (x, inl refl, e ∙ ap Some same) | inr more ↦ (let r = filter_map_in f xs y more in (r.0, inr r.1, r.2)) ]
]) refl h

pub in_filter_map : {X Y : Type 0} (f : X → Option Y) (xs : List X) (x : X) (y : Y) → In xs x → f x ≡ Some y → In (filter_map f xs) y
in_filter_map f [] x y h e = absurd h
in_filter_map f (z ∷ xs) x y (inl same) e = let t : f z ≡ Some y = ap f same ∙ e in rw t (inl refl)
in_filter_map f (z ∷ xs) x y (inr h) e = (elim (f z) as (λ o. In (cons_option o (filter_map f xs)) y) [ None ↦ in_filter_map f xs x y h e | Some w ↦ inr (in_filter_map f xs x y h e) ])

pub in_place : {X : Type 0} (xs : List X) (x : X) → In xs x → Contains xs x
in_place [] x h = absurd h
in_place (y ∷ xs) x (inl e) = (0, omega arith, e)
in_place (y ∷ xs) x (inr h) = let r = in_place xs x h in (suc r.0, omega (arith, r.1), r.2)

pub any_of : {X : Type 0} (P : X → Type 0) (xs : List X) (x : X) → In xs x → P x → Any P xs
any_of P xs x h p = let r = in_place xs x h in (r.0, x, r.1, r.2, p)

pub all_of : {X : Type 0} (P : X → Type 0) (xs : List X) → ((x : X) → In xs x → P x) → All P xs
all_of P [] h = All-nil P
all_of P (x ∷ xs) h = All-cons P x xs (h x (inl refl)) (all_of P xs (λ y k. h y (inr k)))

pub in_get : {X : Type 0} (xs : List X) (k : ℕ) (x : X) → slice_get xs k ≡ Some x → In xs x
in_get [] k x e = absurd cc
in_get (y ∷ xs) zero x e = inl cc
in_get (y ∷ xs) (suc k) x e = inr (in_get xs k x e)

pub all_in : {X : Type 0} (P : X → Type 0) (xs : List X) → All P xs → (x : X) → In xs x → P x
all_in P xs h x k = let r = in_place xs x k in subst P r.2 (h r.0 x r.1)

pub in_split : {X : Type 0} (xs : List X) (x : X) → In xs x → (a : List X) × (b : List X) × (xs ≡ a ++ x ∷ b)
in_split [] x h = absurd h
in_split (y ∷ xs) x (inl e) = ([], xs, ap (λ z. z ∷ xs) e)
in_split (y ∷ xs) x (inr h) = let r = in_split xs x h in (y ∷ r.0, r.1, ap (λ z. y ∷ z) r.2)

pub get_in : {X : Type 0} (xs : List X) (k : ℕ) (d : X) → k < length xs → In xs (slice_index_or xs k d)
get_in [] k d lt = absurd (omega arith)
get_in (x ∷ xs) zero d lt = inl refl
get_in (x ∷ xs) (suc k) d lt = inr (get_in xs k d (omega arith))

pub all_pairs_of : {X : Type 0} (R : X → X → Type 0) (xs : List X) → Pairs R xs → AllPairs R xs
all_pairs_of R [] h i j d lt within = absurd (omega arith)
all_pairs_of R (x ∷ xs) h i zero d lt within = absurd (omega arith)
all_pairs_of R (x ∷ xs) h zero (suc j) d lt within = h.0 _ (get_in xs j d (omega arith))
all_pairs_of R (x ∷ xs) h (suc i) (suc j) d lt within = all_pairs_of R xs h.1 i j d (omega arith) (omega arith)

pub pairs_append : {X : Type 0} (R : X → X → Type 0) (xs ys : List X) → Pairs R xs → Pairs R ys → ((x y : X) → In xs x → In ys y → R x y) → Pairs R (xs ++ ys)
pairs_append R [] ys h k across = k
pairs_append {X} R (x ∷ xs) ys h k across = (first, pairs_append R xs ys h.1 k (λ a b in_a in_b. across a b (inr in_a) in_b))
  where
    first : (y : X) → In (xs ++ ys) y → R x y
    first y m = elim (in_either xs ys y m) [ inl a ↦ h.0 y a | inr b ↦ across x y (inl refl) b ]

pub pairs_of_all : {X : Type 0} (R : X → X → Type 0) (xs : List X) → ((x y : X) → In xs x → In xs y → R x y) → Pairs R xs
pairs_of_all R [] h = tt
pairs_of_all R (x ∷ xs) h = (λ y k. h x y (inl refl) (inr k), pairs_of_all R xs (λ a b in_a in_b. h a b (inr in_a) (inr in_b)))

pub pairs_filter_map : {X Y : Type 0} (R : X → X → Type 0) (S : Y → Y → Type 0) (f : X → Option Y) → ((x z : X) (y w : Y) → f x ≡ Some y → f z ≡ Some w → R x z → S y w)
    → (xs : List X) → Pairs R xs → Pairs S (filter_map f xs)
pairs_filter_map R S f step [] h = tt
pairs_filter_map R S f step (x ∷ xs) h = (elim (f x) as (λ o. f x ≡ o → Pairs S (cons_option o (filter_map f xs))) [
  | None ↦ λ e. pairs_filter_map R S f step xs h.1
  | Some y ↦ λ e. (λ w k. (let r = filter_map_in f xs w k in step x r.0 y w e r.2 (h.0 r.0 r.1)), pairs_filter_map R S f step xs h.1)
]) refl

pub pairs_filter : {X : Type 0} (R : X → X → Type 0) (p : X → Bool) (xs : List X) → Pairs R xs → Pairs R (filter p xs)
pairs_filter R p [] h = tt
pairs_filter R p (x ∷ xs) h = (elim (p x) as (λ b. Pairs R (cond b (x ∷ filter p xs) (filter p xs))) [
  | true ↦ (λ y k. h.0 y (filter_in p xs y k).0, pairs_filter R p xs h.1)
  | false ↦ pairs_filter R p xs h.1
])

pub pairs_map : {X Y : Type 0} (R : Y → Y → Type 0) (f : X → Y) (xs : List X) → Pairs (λ a b. R (f a) (f b)) xs → Pairs R (map f xs)
pairs_map R f [] h = tt
pairs_map R f (x ∷ xs) h = (λ y k. (let r = map_in f xs y k in subst (R (f x)) r.2 (h.0 r.0 r.1)), pairs_map R f xs h.1)

-- where no element is of a kind that one before it rules out
pub pairs_of_splits : {X : Type 0} (R : X → X → Type 0) (xs : List X) → ((a : List X) (y : X) (b : List X) → xs ≡ a ++ y ∷ b → (x : X) → In a x → R x y) → Pairs R xs
pairs_of_splits R [] h = tt
pairs_of_splits R (x ∷ xs) h = (λ y k. (let s = in_split xs y k in h (x ∷ s.0) y s.1 (ap (λ z. x ∷ z) s.2) x (inl refl)), pairs_of_splits R xs (λ a y b e z k. h (x ∷ a) y b (ap (λ w. x ∷ w) e) z (inr k)))

-- lengths
pub length_filter_map : {X Y : Type 0} (f : X → Option Y) (xs : List X) → length (filter_map f xs) ≤ length xs
length_filter_map f [] = omega arith
length_filter_map f (x ∷ xs) = (elim (f x) as (λ o. length (cons_option o (filter_map f xs)) ≤ length (x ∷ xs)) [
  | None ↦ omega (arith, length_filter_map f xs)
  | Some y ↦ omega (arith, length_filter_map f xs)
])

pub length_none : {X : Type 0} (xs : List X) (n : ℕ) → slice_get xs n ≡ None → length xs ≤ n
length_none [] n e = omega arith
length_none (x ∷ xs) zero e = absurd cc
length_none (x ∷ xs) (suc n) e = omega (arith, length_none xs n e)

pub length_some : {X : Type 0} (xs : List X) (n : ℕ) (x : X) → slice_get xs n ≡ Some x → n < length xs
length_some [] n x e = absurd cc
length_some (y ∷ xs) zero x e = omega arith
length_some (y ∷ xs) (suc n) x e = omega (arith, length_some xs n x e)

-- ---- pairs by what holds of the members

pub pairs_weaker : {X : Type 0} (R S : X → X → Type 0) (xs : List X) → ((x y : X) → In xs x → In xs y → R x y → S x y) → Pairs R xs → Pairs S xs
pairs_weaker R S [] f h = tt
pairs_weaker R S (x ∷ xs) f h = (λ y k. f x y (inl refl) (inr k) (h.0 y k), pairs_weaker R S xs (λ a b in_a in_b. f a b (inr in_a) (inr in_b)) h.1)

pub pairs_unmap : {X Y : Type 0} (R : Y → Y → Type 0) (f : X → Y) (xs : List X) → Pairs R (map f xs) → Pairs (λ a b. R (f a) (f b)) xs
pairs_unmap R f [] h = tt
pairs_unmap R f (x ∷ xs) h = (λ y k. h.0 (f y) (in_map f xs y k), pairs_unmap R f xs h.1)

-- a filter that all pass leaves the list
pub filter_every : {X : Type 0} (p : X → Bool) (xs : List X) → ((x : X) → In xs x → p x ≡ true) → filter p xs ≡ xs
filter_every p [] h = refl
filter_every p (x ∷ xs) h = let t : p x ≡ true = h x (inl refl) in rw t (ap (λ z. x ∷ z) (filter_every p xs (λ y k. h y (inr k))))
