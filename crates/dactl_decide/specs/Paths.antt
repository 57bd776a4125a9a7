-- The argument paths at which patterns test nodes.
use Rattle.std.specs.Prelude.{◌≡◌, ℕ, Bool, true, false, ◌&&◌, ◌||◌, ◌==◌, List, [], ◌∷◌, length, Option, Some, None, slice_get}
use Rattle.std.specs.List.{list_any, IsDistinct}
use Rattle.std.specs.Set.{is_member}
use Rattle.std.specs.Bool.{nat_eq}
use Rattle.std.specs.Cmp.Lexicographic.{pointwise}
use Rattle.dactl_model.specs.declared.program.Pat.{Pat}
use Rattle.dactl_model.specs.declared.program.Pat.TheOpen.{Pat-F}
use Rattle.dactl_model.specs.declared.program.Pat.TheFolds.{fold-Pat}
use Rattle.dactl_model.specs.declared.program.Rule.{Rule}

-- the path leads nowhere: it is that of the root
abbrev pub is_root : List ℕ → Bool
is_root [] = true
is_root (i ∷ path) = false

-- what the test of the argument at the head of the path says of the rest of it
abbrev pub test_below : Option (List ℕ → Bool) → List ℕ → Bool
test_below None path = false
test_below (Some test) path = test path

-- the same for a path that has a head
abbrev pub tests_below : List (List ℕ → Bool) → List ℕ → Bool
tests_below tests [] = false
tests_below tests (i ∷ path) = test_below (slice_get tests i) path

-- One level: whether a pattern tests the node at the end of a path, which is a list of argument numbers.
abbrev pub tests_level : Pat-F (List ℕ → Bool) → List ℕ → Bool
tests_level Pat-F.Any path = false
tests_level Pat-F.Int path = is_root path
tests_level Pat-F.Char path = is_root path
tests_level (Pat-F.Literal i) path = is_root path
tests_level (Pat-F.Letter c) path = is_root path
tests_level (Pat-F.Sym f args) path = is_root path || tests_below args path
tests_level (Pat-F.Bind v q) path = q path
tests_level (Pat-F.Union q s) path = q path || s path
tests_level (Pat-F.Less q s) path = q path || s path

-- the pattern tests the label of the node at the end of the path, by `Int`, `Char`, `Literal`, `Letter` or `Sym`
abbrev pub tests : Pat → List ℕ → Bool
tests = fold-Pat (List ℕ → Bool) tests_level

-- the path is the root's, or the pattern of one of the symbol's rules tests the node at its end
abbrev pub symbol_tests : List Rule → ℕ → List ℕ → Bool
symbol_tests rules f path = is_root path || list_any (λ rule. (rule.symbol == f) && tests rule.pattern path) rules

-- two paths are one
abbrev pub same_path : List ℕ → List ℕ → Bool
same_path = pointwise nat_eq

-- n different paths pass the test
pub record IsNumberOf (passes : List ℕ → Bool) (n : ℕ) : Type 0 where
  pub paths : List (List ℕ)
  pub different : IsDistinct same_path paths
  pub exactly : (path : List ℕ) → is_member same_path paths path ≡ passes path
  pub number : n ≡ length paths
