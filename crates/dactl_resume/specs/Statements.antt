-- Statements about printed graphs.
use Rattle.std.specs.Prelude.{◌≡◌, ◌≢◌, ◌↔◌, ℕ, ◌<◌, ◌^◌, List, length, map, Some}
use Rattle.std.specs.List.{Contains}
use Rattle.dactl_model.specs.declared.graph.NodeId.{NodeId}
use Rattle.dactl_model.specs.declared.graph.Graph.{Graph}
use Rattle.dactl_model.specs.declared.program.Program.{Program}
use Rattle.dactl_model.specs.declared.graph.Mark.TheVariants.{Idle}
use Rattle.dactl_model.specs.declared.graph.Node.{Node}
use Rattle.dactl_model.specs.Graphs.{node_at, HasNode, IsWellFormed}
use Rattle.dactl_print.specs.Order.{IsOrder}
use Rattle.dactl_print.specs.Lines.{IsGraphText}
use Rattle.dactl_within.specs.Renumbering.{IsWithin, IsIdleBeside, IsSame, nodes_from, renumbered_entry, grown}
use Rattle.dactl_model.specs.declared.graph.Entry.{Entry}
use Rattle.dactl_model.specs.Steps.{Reduction}
use Rattle.dactl_model.specs.Ending.{IsPassive}
use Rattle.dactl_resume.specs.Restriction.{IsRestriction, IsCanonical, IsPrintable}
use Rattle.dactl_resume.specs.Answers.{IsBadAt, IsRead}
use Rattle.dactl_model.specs.Programs.{IsValid}

-- a part and the whole have one text: where the part has one, the whole has it
abbrev pub TextIsKept : Type 0
TextIsKept = (p : Program) (f : List NodeId) (h g : Graph) (text : List ℕ) → IsWellFormed h → IsWithin f h g → IsGraphText p h text → IsGraphText p g text

-- and the other way round
abbrev pub TextComesBack : Type 0
TextComesBack = (p : Program) (f : List NodeId) (h g : Graph) (text : List ℕ) → IsWellFormed h → IsWithin f h g → IsGraphText p g text → IsGraphText p h text

-- a restriction is numbered as it is printed, from its root on
abbrev pub RestrictionIsCanonical : Type 0
RestrictionIsCanonical = (g h : Graph) (order : List NodeId) → IsRestriction g order h → IsCanonical h × (h.root.number ≡ 0)

-- a graph that is numbered so is its own restriction
abbrev pub CanonicalIsOwn : Type 0
CanonicalIsOwn = (h : Graph) → IsWellFormed h → IsCanonical h → IsRestriction h (nodes_from 0 (length h.nodes)) h

-- a graph has one restriction at most
abbrev pub HasOneRestriction : Type 0
HasOneRestriction = (g h k : Graph) (one other : List NodeId) → IsRestriction g one h → IsRestriction g other k → h ≡ k

-- which has the graph's text, and no other
abbrev pub RestrictionHasText : Type 0
RestrictionHasText = (p : Program) (g h : Graph) (order : List NodeId) (text : List ℕ) → IsRestriction g order h → IsGraphText p h text ↔ IsGraphText p g text

-- where each node that isn't idle is below the root, all is idle beside the restriction
abbrev pub RestrictionIsIdleBeside : Type 0
RestrictionIsIdleBeside = (g h : Graph) (order : List NodeId) → IsRestriction g order h → ((y : NodeId) (node : Node) → node_at g y ≡ Some node → node.mark ≢ Idle → Contains order y) → IsIdleBeside order h g

-- where each node is below the root, the restriction is the same graph up to numbers
abbrev pub RestrictionIsSame : Type 0
RestrictionIsSame = (g h : Graph) (order : List NodeId) → IsRestriction g order h → ((y : NodeId) → HasNode g y → Contains order y) → IsSame order h g

-- a graph with an order has a restriction
abbrev pub HasRestriction : Type 0
HasRestriction = (g : Graph) (order : List NodeId) → IsWellFormed g → IsOrder g order → (h : Graph) × IsRestriction g order h

-- a text is that of one graph at most, among those that are numbered as they are printed
abbrev pub TextHasOneGraph : Type 0
TextHasOneGraph =
    (p : Program) (h k : Graph) (text : List ℕ) → IsValid p → IsWellFormed h → IsWellFormed k → IsCanonical h → IsCanonical k → IsPrintable p h → IsPrintable p k → IsGraphText p h text → IsGraphText p k text → h ≡ k

-- so what is read from a graph's print is its restriction
abbrev pub ReadIsRestriction : Type 0
ReadIsRestriction =
    (p : Program) (g h k : Graph) (order : List NodeId) (text : List ℕ) → IsValid p → IsRestriction g order k → IsPrintable p k → IsGraphText p g text → IsWellFormed h → IsCanonical h → IsPrintable p h → IsGraphText p h text
    → h ≡ k

-- each well-formed graph has an order
abbrev pub HasOrder : Type 0
HasOrder = (g : Graph) → IsWellFormed g → (order : List NodeId) × IsOrder g order

-- a graph and its restriction at the ends of two runs: they print the same, and one has an active node where the other has one
pub record EndAlike (p : Program) (h g : Graph) : Type 0 where
  pub texts : (text : List ℕ) → IsGraphText p h text ↔ IsGraphText p g text
  pub active : IsPassive h ↔ IsPassive g

-- what a run from the restriction leads to is what a run of the graph leads to, where each node that isn't idle is below the root
abbrev pub RunGoesOn : Type 0
RunGoesOn =
    (p : Program) (g h h' : Graph) (order : List NodeId) (journal : List Entry) → IsValid p → IsRestriction g order h → ((y : NodeId) (node : Node) → node_at g y ≡ Some node → node.mark ≢ Idle → Contains order y)
    → Reduction p h journal h' → (g' : Graph) × Reduction p g (map (renumbered_entry (grown order h h' g)) journal) g' × EndAlike p h' g'

-- and the other way round
abbrev pub RunCameFrom : Type 0
RunCameFrom =
    (p : Program) (g h g' : Graph) (order : List NodeId) (journal : List Entry) → IsValid p → IsRestriction g order h → ((y : NodeId) (node : Node) → node_at g y ≡ Some node → node.mark ≢ Idle → Contains order y)
    → Reduction p g journal g' → (h' : Graph) × (own : List Entry) × (journal ≡ map (renumbered_entry (grown order h h' g)) own) × Reduction p h own h' × EndAlike p h' g'

-- a restriction has the labels of the graph, and no more nodes
abbrev pub RestrictionIsPrintable : Type 0
RestrictionIsPrintable = (p : Program) (g h : Graph) (order : List NodeId) → IsWellFormed g → IsPrintable p g → IsRestriction g order h → IsPrintable p h

-- of a graph's print its restriction is read, and nothing else
abbrev pub PrintIsRead : Type 0
PrintIsRead = (p : Program) (g h : Graph) (text : List ℕ) → IsValid p → IsWellFormed g → IsPrintable p g → IsGraphText p g text → IsRead p text h ↔ ((order : List NodeId) × IsRestriction g order h)

-- a text is not both read and bad
abbrev pub IsNotBoth : Type 0
IsNotBoth = (p : Program) (text : List ℕ) (g : Graph) (line : ℕ) → IsValid p → IsRead p text g → IsBadAt p text line → ⊥

-- one graph is read from it at most
abbrev pub HasOneGraph : Type 0
HasOneGraph = (p : Program) (text : List ℕ) (g h : Graph) → IsValid p → IsRead p text g → IsRead p text h → g ≡ h

-- and it is bad at one line at most
abbrev pub HasOneBadLine : Type 0
HasOneBadLine = (p : Program) (text : List ℕ) (line other : ℕ) → IsValid p → length text < 2 ^ 63 → IsBadAt p text line → IsBadAt p text other → line ≡ other

-- a text of which no graph is read is bad at a line: it can't be that neither holds
abbrev pub IsReadOrBad : Type 0
IsReadOrBad = (p : Program) (text : List ℕ) → IsValid p → length text < 2 ^ 63 → ((g : Graph) → IsRead p text g → ⊥) → ((line : ℕ) → IsBadAt p text line → ⊥) → ⊥
