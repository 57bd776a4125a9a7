-- Relations of lists, place by place.
use Rattle.std.proofs.Common.{◌≡◌, ℕ, zero, suc, List, [], ◌∷◌, ◌++◌, map, ap, ◌∙◌, refl, Some, slice_get, subst}
use Rattle.std.specs.List.{AllZip, AllByRecursion}

pub zip_weaken : {A B : Type 0} (R S : A → B → Type 0) → ((a : A) (b : B) → R a b → S a b) → (xs : List A) (ys : List B) → AllZip R xs ys → AllZip S xs ys
zip_weaken R S step [] [] all = tt
zip_weaken R S step [] (y ∷ ys) all = absurd all
zip_weaken R S step (x ∷ xs) [] all = absurd all
zip_weaken R S step (x ∷ xs) (y ∷ ys) all = (step x y all.0, zip_weaken R S step xs ys all.1)

-- through a list in the middle
pub zip_through : {A B M C : Type 0} (k : B → M) (R : A → B → Type 0) (S : M → C → Type 0) (T : A → C → Type 0) → ((a : A) (b : B) (c : C) → R a b → S (k b) c → T a c)
    → (xs : List A) (ys : List B) (zs : List C) → AllZip R xs ys → AllZip S (map k ys) zs → AllZip T xs zs
zip_through k R S T step [] [] [] one two = tt
zip_through k R S T step [] [] (z ∷ zs) one two = absurd two
zip_through k R S T step [] (y ∷ ys) zs one two = absurd one
zip_through k R S T step (x ∷ xs) [] zs one two = absurd one
zip_through k R S T step (x ∷ xs) (y ∷ ys) [] one two = absurd two
zip_through k R S T step (x ∷ xs) (y ∷ ys) (z ∷ zs) one two = (step x y z one.0 two.0, zip_through k R S T step xs ys zs one.1 two.1)

-- a map on the left
pub zip_map_left : {A B C : Type 0} (f : A → B) (R : A → C → Type 0) (S : B → C → Type 0) → ((a : A) (c : C) → R a c → S (f a) c) → (xs : List A) (zs : List C) → AllZip R xs zs → AllZip S (map f xs) zs
zip_map_left f R S step [] [] all = tt
zip_map_left f R S step [] (z ∷ zs) all = absurd all
zip_map_left f R S step (x ∷ xs) [] all = absurd all
zip_map_left f R S step (x ∷ xs) (z ∷ zs) all = (step x z all.0, zip_map_left f R S step xs zs all.1)

pub zip_unmap_left : {A B C : Type 0} (f : A → B) (R : A → C → Type 0) (S : B → C → Type 0) → ((a : A) (c : C) → S (f a) c → R a c) → (xs : List A) (zs : List C) → AllZip S (map f xs) zs → AllZip R xs zs
zip_unmap_left f R S step [] [] all = tt
zip_unmap_left f R S step [] (z ∷ zs) all = absurd all
zip_unmap_left f R S step (x ∷ xs) [] all = absurd all
zip_unmap_left f R S step (x ∷ xs) (z ∷ zs) all = (step x z all.0, zip_unmap_left f R S step xs zs all.1)

-- two relations to one list on the left that determine the right side
pub zip_same : {A B : Type 0} (R S : A → B → Type 0) → ((a : A) (b c : B) → R a b → S a c → b ≡ c) → (xs : List A) (ys zs : List B) → AllZip R xs ys → AllZip S xs zs → ys ≡ zs
zip_same R S step [] [] [] one two = refl
zip_same R S step [] [] (z ∷ zs) one two = absurd two
zip_same R S step [] (y ∷ ys) zs one two = absurd one
zip_same R S step (x ∷ xs) [] zs one two = absurd one
zip_same R S step (x ∷ xs) (y ∷ ys) [] one two = absurd two
zip_same R S step (x ∷ xs) (y ∷ ys) (z ∷ zs) one two =
    let first : y ≡ z = step x y z one.0 two.0 in
    let rest : ys ≡ zs = zip_same R S step xs ys zs one.1 two.1 in
    ap (λ u. u ∷ ys) first ∙ ap (λ us. z ∷ us) rest

pub each_map : {A B : Type 0} (f : A → B) (P : A → Type 0) (Q : B → Type 0) → ((a : A) → P a → Q (f a)) → (xs : List A) → AllByRecursion P xs → AllByRecursion Q (map f xs)
each_map f P Q step [] all = tt
each_map f P Q step (x ∷ xs) all = (step x all.0, each_map f P Q step xs all.1)

pub each_weaken : {A : Type 0} (P Q : A → Type 0) → ((a : A) → P a → Q a) → (xs : List A) → AllByRecursion P xs → AllByRecursion Q xs
each_weaken P Q step [] all = tt
each_weaken P Q step (x ∷ xs) all = (step x all.0, each_weaken P Q step xs all.1)

pub each_append : {A : Type 0} (P : A → Type 0) (xs ys : List A) → AllByRecursion P xs → AllByRecursion P ys → AllByRecursion P (xs ++ ys)
each_append P [] ys one two = two
each_append P (x ∷ xs) ys one two = (one.0, each_append P xs ys one.1 two)

pub each_at : {A : Type 0} (P : A → Type 0) (xs : List A) (k : ℕ) (x : A) → AllByRecursion P xs → slice_get xs k ≡ Some x → P x
each_at P [] k x all at = absurd (cc at)
each_at P (y ∷ ys) zero x all at = let same : y ≡ x = cc in subst P same all.0
each_at P (y ∷ ys) (suc k) x all at = each_at P ys k x all.1 at
