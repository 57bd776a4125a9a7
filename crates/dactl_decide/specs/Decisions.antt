-- A program with what was found of its patterns.
use Rattle.std.specs.Prelude.{◌≡◌, ℕ, ◌<◌, ◌≤◌, ◌⊎◌, List, length, All, AllPairs, Contains, Some, slice_get, IsSomeAnd}
use Rattle.dactl_model.specs.declared.program.Rule.{Rule}
use Rattle.dactl_model.specs.declared.program.Program.{Program}
use Rattle.dactl_model.specs.Programs.{IsValid}
use Rattle.dactl_decide.specs.Paths.{symbol_tests, IsNumberOf}

-- the program; for each of its symbols how many nodes a test of its rules reads at most; and the greatest of these numbers
pub record Decisions : Type 0 where
  pub program : Program
  pub paths : List ℕ
  pub widest : ℕ

-- the greatest of the numbers, and at least 1
pub record IsWidest (paths : List ℕ) (widest : ℕ) : Type 0 where
  pub above : All (λ n. n ≤ widest) paths
  pub some : 1 ≤ widest
  pub reached : (widest ≡ 1) ⊎ Contains paths widest

-- a number for each symbol, which is that of the different paths at which the patterns of its rules test nodes
pub record AreNumbersOfPaths (rules : List Rule) (symbols : ℕ) (paths : List ℕ) : Type 0 where
  pub long : length paths ≡ symbols
  pub each : (f n : ℕ) → slice_get paths f ≡ Some n → IsNumberOf (symbol_tests rules f) n

-- what deciders know of their program
pub record AreDecisions (d : Decisions) : Type 0 where
  pub valid : IsValid d.program
  pub numbers : AreNumbersOfPaths d.program.rules (length d.program.symbols) d.paths
  pub greatest : IsWidest d.paths d.widest

-- the rule of this number has the symbol
abbrev pub HasRootSymbol : List Rule → ℕ → ℕ → Type 0
HasRootSymbol rules f r = IsSomeAnd (slice_get rules r) (λ rule. rule.symbol ≡ f)

-- the numbers, ascending, of those of the first k rules that have the symbol
pub record AreRulesBelow (rules : List Rule) (k f : ℕ) (numbers : List ℕ) : Type 0 where
  pub each : All (λ r. (r < k) × HasRootSymbol rules f r) numbers
  pub whole : (r : ℕ) → r < k → HasRootSymbol rules f r → Contains numbers r
  pub ascending : AllPairs (λ a b. a < b) numbers

-- the numbers, ascending, of the rules that have the symbol
abbrev pub AreRulesOf : List Rule → ℕ → List ℕ → Type 0
AreRulesOf rules f numbers = AreRulesBelow rules (length rules) f numbers
