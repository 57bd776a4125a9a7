-- Lists of which one item is changed, and lists that are made alike.
use Rattle.std.proofs.Common.{◌≡◌, ℕ, zero, suc, ◌<◌, List, [], ◌∷◌, length, get_or, set, map, refl, ap, arith}
use Rattle.dactl_model.specs.declared.graph.Node.{Node}
use Rattle.dactl_store.specs.Held.{changed_at}

-- one item is written, and what is made of the list is changed at its place
pub map-changed : {X : Type 0} (g : X → Node) (f : Node → Node) (xs : List X) (n : ℕ) (d written : X) → n < length xs → g written ≡ f (g (get_or xs n d)) → map g (set xs n written) ≡ changed_at n f (map g xs)
map-changed g f [] n d written below is = absurd (omega arith)
map-changed g f (x ∷ xs) zero d written below is = ap (λ y. y ∷ map g xs) is
map-changed g f (x ∷ xs) (suc n) d written below is = ap (λ ys. g x ∷ ys) (map-changed g f xs n d written (omega arith) is)

-- one item is written, and what is made of the list stays
pub map-set_same : {X Y : Type 0} (g : X → Y) (xs : List X) (n : ℕ) (d written : X) → g written ≡ g (get_or xs n d) → map g (set xs n written) ≡ map g xs
map-set_same g [] n d written is = refl
map-set_same g (x ∷ xs) zero d written is = ap (λ y. y ∷ map g xs) is
map-set_same g (x ∷ xs) (suc n) d written is = ap (λ ys. g x ∷ ys) (map-set_same g xs n d written is)

-- two maps that agree on the items give one list
pub map_same : {X Y : Type 0} (f g : X → Y) (d : X) (xs : List X) → ((i : ℕ) → i < length xs → f (get_or xs i d) ≡ g (get_or xs i d)) → map f xs ≡ map g xs
map_same f g d [] same = refl
map_same f g d (x ∷ xs) same =
    let first : f x ≡ g x = same 0 (omega arith) in
    let rest : map f xs ≡ map g xs = map_same f g d xs (λ i below. same (suc i) (omega arith)) in
    cc
