-- The faults of left sides, one by one.
use Rattle.std.specs.Prelude.{ℕ, Bool, not, ◌&&◌, List, map, is_some}
use Rattle.std.specs.Borrow.{Bor}
use Rattle.dactl_base.specs.declared.refusal.Kind.TheVariants as kinds
use Rattle.dactl_base.specs.declared.refusal.Refusal.{Refusal}
use Rattle.dactl_model.specs.declared.program.Pat.{Pat}
use Rattle.dactl_meaning.specs.declared.tree.Name.{Name}
use Rattle.dactl_meaning.specs.Expansion.{is_among, number_in, is_overwritable}
use Rattle.dactl_contractum.specs.Numbers.{variable_number}
use Rattle.dactl_contractum.specs.Told.{fault_at}

-- the names behind the references
abbrev pub words : List (Bor Name) → List Name
words names = map (λ n. n.now) names

-- a left side that is no variable
abbrev pub left_unbound : List (List ℕ) → Name → List Refusal
left_unbound variables n = fault_at (not (is_some (variable_number variables n.text))) kinds.Unbound n.place

-- the name is a variable, no name of the root, and its node is not over-writable
abbrev pub is_fixed : (ℕ → Bool) → List (List ℕ) → List (List ℕ) → Pat → List ℕ → Bool
is_fixed writable variables roots pattern w = is_among variables w && (not (is_among roots w) && not (is_overwritable writable (number_in variables w) pattern))

abbrev pub left_fixed : (ℕ → Bool) → List (List ℕ) → List (List ℕ) → Pat → Name → List Refusal
left_fixed writable variables roots pattern n = fault_at (is_fixed writable variables roots pattern n.text) kinds.NotOverwritable n.place
