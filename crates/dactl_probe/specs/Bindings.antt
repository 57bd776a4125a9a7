-- The nodes of variables, by their pairs.
use Rattle.std.specs.Prelude.{ℕ, ◌+◌, ◌≤◌, Bool, List, [], ◌∷◌, ◌++◌, length, map, ◌==◌, if◌then◌else◌, Option, Some, None}
use Rattle.dactl_model.specs.declared.graph.NodeId.{NodeId}
use Rattle.dactl_model.specs.Patterns.{is_bound}
use Rattle.dactl_model.specs.Rooms.{Observed}

-- the node of the first pair of the variable
abbrev pub first_node : List (ℕ × NodeId) → ℕ → Option NodeId
first_node [] v = None
first_node (x ∷ xs) v = if x.0 == v then Some x.1 else first_node xs v

-- the pair has the node of the first pair of its variable
abbrev pub is_first : List (ℕ × NodeId) → ℕ × NodeId → Bool
is_first pairs y = is_bound (first_node pairs y.0) y.1

-- the nodes of the pairs
abbrev pub nodes_of : List (ℕ × NodeId) → List NodeId
nodes_of pairs = map (λ x. x.1) pairs

-- the footprint with the nodes of the pairs
abbrev pub with_nodes : Observed → List (ℕ × NodeId) → Observed
with_nodes f pairs = record f { bindings = f.bindings ++ nodes_of pairs }

-- with these it has 64 nodes of variables at most
abbrev pub HasRoomFor : Observed → List (ℕ × NodeId) → Type 0
HasRoomFor f pairs = length f.bindings + length pairs ≤ 64
