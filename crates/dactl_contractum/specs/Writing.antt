-- Over-writable patterns, part by part.
use Rattle.std.specs.Prelude.{ℕ, Bool, List}
use Rattle.std.specs.List.{list_any}
use Rattle.dactl_model.specs.declared.program.Pat.{Pat}
use Rattle.dactl_model.specs.declared.program.Pat.TheFolds.{fold-Pat}
use Rattle.dactl_meaning.specs.Expansion.{Overwriting, overwriting_level, is_overwritable}

-- the pattern holds at over-writable nodes alone
abbrev pub is_so : (ℕ → Bool) → ℕ → Pat → Bool
is_so writable v p = (fold-Pat Overwriting (overwriting_level writable v) p).is_so

-- it gives the variable a pattern that does
abbrev pub gives : (ℕ → Bool) → ℕ → Pat → Bool
gives writable v p = is_overwritable writable v p

-- one of the patterns does so
abbrev pub some_give : (ℕ → Bool) → ℕ → List Pat → Bool
some_give writable v patterns = list_any (gives writable v) patterns
