-- Patterns whose variables stand in the order of their numbers.
use Rattle.std.specs.Prelude.{ℕ, ◌+◌, Bool, false, ◌==◌, if◌then◌else◌, List, [], ◌∷◌, Option, Some, None}
use Rattle.dactl_model.specs.declared.program.Pat.{Pat}
use Rattle.dactl_model.specs.declared.program.Pat.TheOpen.{Pat-F}
use Rattle.dactl_model.specs.declared.program.Pat.TheFolds.{fold-Pat}
use Rattle.dactl_model.specs.declared.program.Rule.{Rule}

-- what follows, where there is a number to go on from
abbrev pub go_on : Option ℕ → (ℕ → Option ℕ) → Option ℕ
go_on None next = None
go_on (Some k) next = next k

-- one after another
abbrev pub after_all : List (ℕ → Option ℕ) → ℕ → Option ℕ
after_all [] k = Some k
after_all (t ∷ tests) k = go_on (t k) (after_all tests)

-- One level: the number after those of the binders, if these have the numbers from k on, in order. Inside a union and to the right of a difference no binder is looked for.
abbrev pub after_level : Pat-F (ℕ → Option ℕ) → ℕ → Option ℕ
after_level Pat-F.Any k = Some k
after_level Pat-F.Int k = Some k
after_level Pat-F.Char k = Some k
after_level (Pat-F.Literal i) k = Some k
after_level (Pat-F.Letter c) k = Some k
after_level (Pat-F.Sym f args) k = after_all args k
after_level (Pat-F.Bind v q) k = if v == k then q (k + 1) else None
after_level (Pat-F.Union q s) k = Some k
after_level (Pat-F.Less q s) k = q k

abbrev pub after : Pat → ℕ → Option ℕ
after = fold-Pat (ℕ → Option ℕ) after_level

-- the number is this one
abbrev pub is_number : Option ℕ → ℕ → Bool
is_number None n = false
is_number (Some k) n = k == n

-- each variable of the rule has one binder, and these stand in the order of their numbers
abbrev pub is_orderly : Rule → Bool
is_orderly rule = is_number (after rule.pattern 0) rule.variables
