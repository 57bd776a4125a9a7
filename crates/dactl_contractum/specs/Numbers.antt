-- Numbers of names.
use Rattle.std.specs.Prelude.{ℕ, ◌+◌, Bool, List, [], ◌∷◌, Option, Some, None, if◌then◌else◌}
use Rattle.std.specs.Str.{bytes_eq}
use Rattle.dactl_meaning.specs.Contractum.{Sketch, has_name}

-- the number of the first item that passes a test
abbrev pub first_from : {A : Type 0} → (A → Bool) → ℕ → List A → Option ℕ
first_from test k [] = None
first_from test k (x ∷ xs) = if test x then Some k else first_from test (k + 1) xs

-- the number of a variable
abbrev pub variable_number : List (List ℕ) → List ℕ → Option ℕ
variable_number variables w = first_from (λ v. bytes_eq v w) 0 variables

-- the number of the first new node of a name
abbrev pub node_number : List Sketch → List ℕ → Option ℕ
node_number made w = first_from (λ s. has_name s w) 0 made
