-- A store is where the journal leads, and its versions are those of the definition.
use Rattle.std.specs.Prelude.{ℕ, ◌≤◌, List, length}
use Rattle.dactl_model.specs.declared.graph.NodeId.{NodeId}
use Rattle.dactl_model.specs.declared.graph.Entry.{Entry}
use Rattle.dactl_model.specs.declared.program.Program.{Program}
use Rattle.dactl_model.specs.Graphs.{HasNode}
use Rattle.dactl_model.specs.Firing.{start_of}
use Rattle.dactl_model.specs.Steps.{Reduction}
use Rattle.dactl_model.specs.Versions.{IsVersion}
use Rattle.dactl_store.specs.Held.{Held, IsVersionAt}

-- from the program's start the journal leads to the store's graph, the version that the store has of a node
-- is the node's version after the journal, and no redirection gave a version that is greater than the
-- number of the entries
pub record IsHistory (p : Program) (journal : List Entry) (held : Held) : Type 0 where
  pub reduced : Reduction p (start_of p.start) journal held.graph
  pub versions : (n : NodeId) (v : ℕ) → HasNode held.graph n → IsVersionAt held n v
      → IsVersion p journal n v
  pub newest : held.newest ≤ length journal
