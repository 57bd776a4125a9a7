-- The parts of a program's validity that tests answer.
use Rattle.std.specs.Prelude.{◌≡◌, ◌≢◌, ℕ, Bool, ◌+◌, ◌^◌, ◌<◌, ◌≤◌, ◌↔◌, List, length, All, AllPairs, IsTrue, slice_get, Some}
use Rattle.dactl_model.specs.declared.program.Pat.{Pat}
use Rattle.dactl_model.specs.declared.program.Symbol.{Symbol}
use Rattle.dactl_model.specs.declared.program.Rule.{Rule}
use Rattle.dactl_model.specs.declared.program.Move.{Move}
use Rattle.dactl_model.specs.declared.program.Start.{Start}
use Rattle.dactl_model.specs.declared.program.Op.TheVariants as op
use Rattle.dactl_model.specs.Binders.{binds, binders_in_place, head}
use Rattle.dactl_model.specs.Names.{is_upper_name}
use Rattle.dactl_model.specs.Programs.{IsValidRule, arithmetic_rule, symbols_below, IsBody, IsDelta, MaySuspend, AreFreshNodes}

-- the variables of the pattern are the numbers below the count
abbrev pub HasVariables : Pat → ℕ → Type 0
HasVariables p count = (v : ℕ) → IsTrue (binds v p) ↔ (v < count)

-- no two redirections have one left side
abbrev pub AreDistinctLefts : List Move → Type 0
AreDistinctLefts moves = AllPairs (λ a b. a.from ≢ b.from) moves

-- no two symbols have one name
abbrev pub AreDistinctNames : List Symbol → Type 0
AreDistinctNames symbols = AllPairs (λ a b. a.name ≢ b.name) symbols

-- the symbols of a valid program
pub record AreValidSymbols (wide : Bool) (symbols : List Symbol) : Type 0 where
  pub truths : 7 ≤ length symbols
  pub few : length symbols < 2 ^ 31
  pub names : All (λ s. IsTrue (is_upper_name wide s.name)) symbols
  pub distinct : AreDistinctNames symbols

-- the first rules are the arithmetic ones
pub record HasArithmetic (rules : List Rule) : Type 0 where
  pub add : slice_get rules 0 ≡ Some (arithmetic_rule 0 op.Add)
  pub sub : slice_get rules 1 ≡ Some (arithmetic_rule 1 op.Sub)
  pub mul : slice_get rules 2 ≡ Some (arithmetic_rule 2 op.Mul)
  pub eq : slice_get rules 3 ≡ Some (arithmetic_rule 3 op.Eq)
  pub lt : slice_get rules 4 ≡ Some (arithmetic_rule 4 op.Lt)

-- the pattern of a valid rule, its variables aside
pub record HasSoundPattern (symbols : ℕ) (rule : Rule) : Type 0 where
  pub symbol : rule.symbol < symbols
  pub head : head rule.pattern ≡ Some rule.symbol
  pub symbols_in : IsTrue (symbols_below symbols rule.pattern)
  pub in_place : IsTrue (binders_in_place rule.pattern)

-- the variables of a valid rule
pub record HasSoundVariables (rule : Rule) : Type 0 where
  pub few : rule.variables ≤ 64
  pub variables : HasVariables rule.pattern rule.variables

-- the body and the group of a valid rule
pub record HasSoundBody (symbols number : ℕ) (rule : Rule) : Type 0 where
  pub body : IsBody symbols rule.variables rule.body
  pub group : rule.group + 1 < 2 ^ 31
  pub delta : IsDelta rule.body → number < 5
  pub suspends : MaySuspend rule.pattern rule.body

-- each rule is valid at its number
abbrev pub AreValidRules : ℕ → List Rule → Type 0
AreValidRules symbols rules = (r : ℕ) (rule : Rule) → slice_get rules r ≡ Some rule → IsValidRule symbols r rule

-- the groups do not fall along the rules
abbrev pub DoGroupsRise : List Rule → Type 0
DoGroupsRise rules = AllPairs (λ a b. a.group ≤ b.group) rules

-- the rules of a valid program
pub record AreSoundRules (symbols : ℕ) (rules : List Rule) : Type 0 where
  pub few : length rules < 2 ^ 31
  pub arithmetic : HasArithmetic rules
  pub valid : AreValidRules symbols rules
  pub rise : DoGroupsRise rules

-- the start of a valid program
pub record IsSoundStart (symbols : ℕ) (start : Start) : Type 0 where
  pub fresh : AreFreshNodes symbols 0 start.fresh
  pub root : start.root < length start.fresh
