-- The sample text: the sum of a balanced tree.
use Rattle.std.specs.Prelude.{◌≡◌, ℕ, ◌+◌, ◌-◌, ◌/◌, ◌<◌, List, ◌++◌, codes, decimal}

-- the text of a leaf
abbrev pub leaf : ℕ → List ℕ
leaf number = codes "Leaf[" ++ decimal number ++ codes "]"

-- the text of a node over two trees
abbrev pub node : List ℕ → List ℕ → List ℕ
node left right = codes "Node[" ++ left ++ codes " " ++ right ++ codes "]"

-- the text is the tree over so many leaves, numbered from the first one on: one leaf, or a node over its halves, the
-- left one the smaller
pub data IsTree : ℕ → ℕ → List ℕ → Type 0 where
  one : (first : ℕ) → IsTree first 1 (leaf first)
  more : (first count : ℕ) (left right : List ℕ) → 1 < count → IsTree first (count / 2) left → IsTree (first + count / 2) (count - count / 2) right
      → IsTree first count (node left right)

-- what stands before the tree
abbrev pub front : List ℕ
front = codes "MODULE Sample;\nIMPORTS Arithmetic;\nSYMBOL REWRITABLE Sum;\nSYMBOL CREATABLE Node, Leaf;\nRULE\nSum[Leaf[i]] => *i |\nSum[Node[l r]] => ##IAdd[^*Sum[l] ^*Sum[r]];\nINITIAL => *Sum["

-- what stands behind it
abbrev pub back : List ℕ
back = codes "];\nENDMODULE Sample;\n"

-- the sample text over so many leaves
pub record IsSample (count : ℕ) (text : List ℕ) : Type 0 where
  pub tree : List ℕ
  pub is_tree : IsTree 0 count tree
  pub parts : text ≡ front ++ tree ++ back
