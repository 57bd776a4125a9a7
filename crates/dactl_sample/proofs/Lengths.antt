-- A sample text is not long.
use Rattle.std.proofs.Common.{◌≡◌, ℕ, ◌+◌, ◌*◌, ◌-◌, ◌/◌, ◌<◌, ◌≤◌, List, ◌++◌, length, length-append, arith, codes, decimal}
use Rattle.std.proofs.lemmas.Fmt.{length-decimal-le}
use Rattle.dactl_sample.specs.Sample.{IsTree, one, more, leaf, node, IsSample, front, back}

leaf_short : (first : ℕ) → first < 20000 → length (leaf first) ≤ 11
leaf_short first few =
    let digits : length (decimal first) ≤ 5 = length-decimal-le 5 first (omega arith) (omega arith) (omega arith) in
    omega (arith, digits, length-append (codes "Leaf[" ++ decimal first) (codes "]"), length-append (codes "Leaf[") (decimal first))

node_length : (left right : List ℕ) → length (node left right) ≡ 7 + (length left + length right)
node_length left right =
    omega (arith, length-append (codes "Node[" ++ left ++ codes " " ++ right) (codes "]"), length-append (codes "Node[" ++ left ++ codes " ") right, length-append (codes "Node[" ++ left) (codes " "), length-append (codes "Node[") left)

pub tree_short : {first count : ℕ} {tree : List ℕ} → IsTree first count tree → 0 < count → first + count ≤ 20000 → length tree + 7 ≤ 18 * count
tree_short (one first) some few = let short = leaf_short first (omega (arith, few)) in omega (arith, short)
tree_short (more first count left right above l r) some few =
    let a : length left + 7 ≤ 18 * (count / 2) = tree_short l (omega (arith, above)) (omega (arith, few)) in
    let b : length right + 7 ≤ 18 * (count - count / 2) = tree_short r (omega (arith, above)) (omega (arith, few)) in
    omega (arith, a, b, node_length left right)

-- it fits a text many times over
pub sample_short : (count : ℕ) (text : List ℕ) → IsSample count text → 0 < count → count ≤ 20000 → length text ≤ 1048576
sample_short count text sample some few =
    let short = tree_short sample.is_tree some (omega (arith, few)) in
    rw sample.parts (omega (arith, short, few, length-append (front ++ sample.tree) back, length-append front sample.tree))
