-- What each graph of a run of a translation keeps.
use Rattle.std.specs.Prelude.{◌≡◌, ℕ, zero, suc, true, false, List, length, Option, Some, None, ◌⊎◌}
use Rattle.std.specs.List.{AllByRecursion}
use Rattle.dactl_model.specs.declared.graph.NodeId.{NodeId}
use Rattle.dactl_model.specs.declared.graph.Label.{Label}
use Rattle.dactl_model.specs.declared.graph.Arc.{Arc}
use Rattle.dactl_model.specs.declared.graph.Mark.TheVariants.{Idle}
use Rattle.dactl_model.specs.declared.graph.Node.{Node}
use Rattle.dactl_model.specs.declared.graph.Graph.{Graph}
use Rattle.dactl_model.specs.declared.program.Program.{Program}
use Rattle.dactl_model.specs.Graphs.{node_at, flags}
use Rattle.dactl_model.specs.Matching.{HasNoMatch}
use Rattle.dactl_model.specs.Versions.{Content, content}
use Rattle.fun_meaning.specs.declared.tree.Fun.{Fun}
use Rattle.fun_meaning.specs.Names.{Spelling}
use Rattle.fun_meaning.specs.Meaning.{symbol_names}
use Rattle.fun_meaning.specs.Translation.{awaited, FitsSymbol, is_arithmetic, is_check, is_settled}

-- the content is an integer or a constructor, over targets that are finished
abbrev pub FinishedContent : Fun → List Spelling → (NodeId → Type 0) → Option Content → Type 0
FinishedContent e symbols finished None = ⊥
FinishedContent e symbols finished (Some c) = (is_settled e symbols c.label ≡ true) × AllByRecursion finished c.targets

-- the node is an integer, or a constructor whose targets are finished, to this depth
abbrev pub FinishedAt : ℕ → Fun → List Spelling → Graph → NodeId → Type 0
FinishedAt zero e symbols g n = ⊥
FinishedAt (suc d) e symbols g n = FinishedContent e symbols (FinishedAt d e symbols g) (content g n)

-- the node is finished
abbrev pub Finished : Fun → List Spelling → Graph → NodeId → Type 0
Finished e symbols g n = (d : ℕ) × FinishedAt d e symbols g n

-- an idle operation that no rule matches
pub record IsStuck (p : Program) (g : Graph) (n : NodeId) : Type 0 where
  pub node : Node
  pub at : node_at g n ≡ Some node
  pub arithmetic : is_arithmetic (symbol_names p) node.label ≡ true
  pub idle : node.mark ≡ Idle
  pub none : (r : ℕ) → HasNoMatch p g n r

-- an arc of a node with this label
pub record IsTidyArc (e : Fun) (p : Program) (g : Graph) (label : Label) (a : Arc) : Type 0 where
  pub settled : a.waits ≡ false → Finished e (symbol_names p) g a.target ⊎ ((is_check (symbol_names p) label ≡ true) × IsStuck p g a.target)
  pub checked : is_check (symbol_names p) label ≡ false → (node : Node) → node_at g a.target ≡ Some node → is_arithmetic (symbol_names p) node.label ≡ false

-- a node of the graph
pub record IsTidyNode (e : Fun) (p : Program) (g : Graph) (node : Node) : Type 0 where
  pub symbol : FitsSymbol e (symbol_names p) node.label (length node.arcs)
  pub mark : flags node.arcs ≡ awaited node.mark
  pub arcs_tidy : AllByRecursion (IsTidyArc e p g node.label) node.arcs

-- each node is so
abbrev pub IsTidy : Fun → Program → Graph → Type 0
IsTidy e p g = (n : NodeId) (node : Node) → node_at g n ≡ Some node → IsTidyNode e p g node
