-- Where paths lead along the targets that were read.
use Rattle.std.specs.Prelude.{◌≡◌, ℕ, true, List, [], ◌∷◌, slice_get, Some, None}
use Rattle.dactl_model.specs.declared.graph.NodeId.{NodeId}
use Rattle.dactl_model.specs.declared.reading.Reading.{Reading}
use Rattle.dactl_model.specs.declared.program.Pat.{Pat}
use Rattle.dactl_model.specs.Readings.{reading_of, targets_of}
use Rattle.dactl_decide.specs.Paths.{tests}

-- the path, a list of argument numbers, leads from n to m
abbrev pub Leads : List Reading → NodeId → List ℕ → NodeId → Type 0
Leads rs n [] m = n ≡ m
Leads rs n (i ∷ path) m = (r : Reading) × (k : NodeId) × (reading_of rs n ≡ Some r) × (slice_get (targets_of r.targets) i ≡ Some k) × Leads rs k path m

-- the pattern, laid at n, tests m, which was not read
pub record Needs (rs : List Reading) (p : Pat) (n m : NodeId) : Type 0 where
  pub path : List ℕ
  pub tested : tests p path ≡ true
  pub leads : Leads rs n path m
  pub unread : reading_of rs m ≡ None
