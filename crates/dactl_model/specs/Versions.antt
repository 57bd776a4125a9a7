-- When a node last got what it has.
use Rattle.std.specs.Prelude.{◌≡◌, ℕ, ◌<◌, ◌≤◌, List, ◌++◌, length, map, take, Option, Some, None}
use Rattle.dactl_model.specs.declared.graph.NodeId.{NodeId}
use Rattle.dactl_model.specs.declared.graph.Label.{Label}
use Rattle.dactl_model.specs.declared.graph.Node.{Node}
use Rattle.dactl_model.specs.declared.graph.Graph.{Graph}
use Rattle.dactl_model.specs.declared.graph.Entry.{Entry}
use Rattle.dactl_model.specs.declared.program.Program.{Program}
use Rattle.dactl_model.specs.declared.reading.Reading.{Reading}
use Rattle.dactl_model.specs.Graphs.{node_at}
use Rattle.dactl_model.specs.Readings.{targets_of}
use Rattle.dactl_model.specs.Firing.{start_of}
use Rattle.dactl_model.specs.Steps.{Reduction}

-- a node's label and targets, without its flags and its mark
pub record Content : Type 0 where
  pub label : Label
  pub targets : List NodeId

abbrev pub content_of : Option Node → Option Content
content_of None = None
content_of (Some node) = Some (record { label = node.label; targets = map (λ a. a.target) node.arcs })

-- the content of n, if the graph has that node
abbrev pub content : Graph → NodeId → Option Content
content g n = content_of (node_at g n)

-- after the first i entries of the journal n has this content
pub record HasContent (p : Program) (journal : List Entry) (i : ℕ) (n : NodeId) (c : Content) : Type 0 where
  pub graph : Graph
  pub reduced : Reduction p (start_of p.start) (take i journal) graph
  pub is : content graph n ≡ Some c

-- after each number of entries from k to the whole journal n has this content
abbrev pub KeepsContent : Program → List Entry → ℕ → NodeId → Content → Type 0
KeepsContent p journal k n c = (i : ℕ) → k ≤ i → i ≤ length journal → HasContent p journal i n c

-- k is the least number of entries after which n has the content that it has from then on
pub record IsVersion (p : Program) (journal : List Entry) (n : NodeId) (k : ℕ) : Type 0 where
  pub within : k ≤ length journal
  pub latest : Content
  pub kept : KeepsContent p journal k n latest
  pub least : (j : ℕ) (c : Content) → j < k → ¬ KeepsContent p journal j n c

-- what the reading says of its node
abbrev pub content_read : Reading → Content
content_read r = record { label = r.label; targets = targets_of r.targets }

-- after a prefix of the entries the reading's node had what the reading says, in its version
pub record IsShown (p : Program) (entries : List Entry) (r : Reading) : Type 0 where
  pub prefix : List Entry
  pub rest : List Entry
  pub parts : entries ≡ prefix ++ rest
  pub has : HasContent p prefix (length prefix) r.node (content_read r)
  pub version : IsVersion p prefix r.node r.version
