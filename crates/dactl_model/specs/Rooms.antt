-- Lists that have their memory beforehand, as contracts see them.
use Rattle.std.specs.Prelude.{ℕ, List}
use Rattle.std.specs.List.Sorted.{IsNonDecreasingBy}
use Rattle.dactl_model.specs.declared.graph.NodeId.{NodeId}
use Rattle.dactl_model.specs.declared.reading.Reading.{Reading}

-- what a footprint holds, and how many readings it has room for
pub record Observed : Type 0 where
  pub readings : List Reading
  pub bindings : List NodeId
  pub room : ℕ

-- a list of nodes, and how many it has room for
pub record NodeList : Type 0 where
  pub list : List NodeId
  pub room : ℕ

-- the numbers do not fall along the list
abbrev pub IsAscending : List NodeId → Type 0
IsAscending nodes = IsNonDecreasingBy (λ n. n.number) nodes
