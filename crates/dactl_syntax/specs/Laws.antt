-- What holds of texts and their trees.
use Rattle.std.specs.Prelude.{◌≡◌, ℕ, List}
use Rattle.dactl_tokens.specs.declared.token.Token.{Token}
use Rattle.dactl_tokens.specs.Lexes.{Lexes}
use Rattle.dactl_meaning.specs.declared.tree.Text.{Text}
use Rattle.dactl_syntax.specs.Answer.{IsTree}
use Rattle.dactl_meaning.specs.Spelling.{IsSpelled}
use Rattle.dactl_meaning.specs.Order.{PlacesInOrder}
use Rattle.dactl_syntax.specs.Canonical.{canonical}
use Rattle.dactl_meaning.specs.Unplaced.{without_places}

-- the bytes are gaps and tokens that derive the tree
pub record Reads (bytes : List ℕ) (tree : Text) : Type 0 where
  pub tokens : List Token
  pub lexes : Lexes bytes tokens
  pub is_tree : IsTree bytes tokens tree

-- no bytes read two trees
abbrev pub HasOneTree : Type 0
HasOneTree = (bytes : List ℕ) (a b : Text) → Reads bytes a → Reads bytes b → a ≡ b

-- what the bytes read is spelled as tokens and the grammar have it
abbrev pub TreesAreSpelled : Type 0
TreesAreSpelled = (bytes : List ℕ) (tree : Text) → Reads bytes tree → IsSpelled tree

-- in what the bytes read, the left sides of each rule stand behind its pattern
abbrev pub TreesAreInOrder : Type 0
TreesAreInOrder = (bytes : List ℕ) (tree : Text) → Reads bytes tree → PlacesInOrder tree

-- the bytes read a tree that is the same but for its places and the length of its text
pub record ReadsSame (bytes : List ℕ) (tree : Text) : Type 0 where
  pub again : Text
  pub reads : Reads bytes again
  pub same : without_places again ≡ without_places tree

-- the canonical text of what the bytes read reads the same, but for the places and the length
abbrev pub CanonicalReads : Type 0
CanonicalReads = (bytes : List ℕ) (tree : Text) → Reads bytes tree → ReadsSame (canonical tree) tree
