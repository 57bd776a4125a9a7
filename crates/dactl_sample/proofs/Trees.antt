-- A text that grew by a tree.
use Rattle.std.proofs.Common.{◌≡◌, ℕ, ◌+◌, ◌-◌, ◌/◌, ◌<◌, List, ◌++◌, codes, refl, sym, ◌∙◌, subst, append_assoc}
use Rattle.dactl_sample.specs.Sample.{IsTree, leaf, node}
use Rattle.dactl_sample.specs.Sample.IsTree.{one, more}

-- by a leaf
pub grown_one : (first count : ℕ) (old new : List ℕ) → count ≡ 1 → new ≡ old ++ leaf first → (tree : List ℕ) × IsTree first count tree × (new ≡ old ++ tree)
grown_one first count old new is grown = (leaf first, subst (λ n. IsTree first n (leaf first)) (sym is) (one first), grown)

joined : (old head left gap right tail : List ℕ) → ((((old ++ head) ++ left) ++ gap) ++ right) ++ tail ≡ old ++ ((((head ++ left) ++ gap) ++ right) ++ tail)
joined old head left gap right tail = simp append_assoc

-- by the parts of a node, one after another
pub grown_more : (first count : ℕ) (old a b c d new : List ℕ) → 1 < count → a ≡ old ++ codes "Node[" → ((left : List ℕ) × IsTree first (count / 2) left × (b ≡ a ++ left)) → c ≡ b ++ codes " "
    → ((right : List ℕ) × IsTree (first + count / 2) (count - count / 2) right × (d ≡ c ++ right)) → new ≡ d ++ codes "]" → (tree : List ℕ) × IsTree first count tree × (new ≡ old ++ tree)
grown_more first count old a b c d new above head (left, is_left, then_left) gap (right, is_right, then_right) tail =
    let e : new ≡ ((((old ++ codes "Node[") ++ left) ++ codes " ") ++ right) ++ codes "]" = rw (tail, then_right, gap, then_left, head) refl in
    (node left right, more first count left right above is_left is_right, e ∙ joined old (codes "Node[") left (codes " ") right (codes "]"))
