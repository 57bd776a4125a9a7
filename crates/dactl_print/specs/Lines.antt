-- The lines of a graph.
use Rattle.std.specs.Prelude.{◌≡◌, ℕ, ◌<◌, cond, List, [], ◌∷◌, ◌++◌, length, map, replicate, codes, slice_get, Option, Some, None, All}
use Rattle.std.specs.List.{concat}
use Rattle.std.specs.Fmt.{decimal, signed_decimal}
use Rattle.dactl_model.specs.declared.graph.NodeId.{NodeId}
use Rattle.dactl_model.specs.declared.graph.Label.{Label}
use Rattle.dactl_model.specs.declared.graph.Label.TheVariants.{Symbol, Integer, Character}
use Rattle.dactl_model.specs.declared.graph.Arc.{Arc}
use Rattle.dactl_model.specs.declared.graph.Mark.{Mark}
use Rattle.dactl_model.specs.declared.graph.Mark.TheVariants.{Idle, Active, Waiting}
use Rattle.dactl_model.specs.declared.graph.Node.{Node}
use Rattle.dactl_model.specs.declared.graph.Graph.{Graph}
use Rattle.dactl_model.specs.declared.program.Symbol.{Symbol as SymbolOf}
use Rattle.dactl_model.specs.declared.program.Program.{Program}
use Rattle.dactl_model.specs.Graphs.{node_at}
use Rattle.dactl_print.specs.Texts.{line_feed}
use Rattle.dactl_print.specs.Order.{IsOrder, number_in}

-- `*` where the node is active, and a `#` for each notification that it awaits
abbrev pub mark_text : Mark → List ℕ
mark_text Idle = []
mark_text Active = codes "*"
mark_text (Waiting k) = replicate k 35

abbrev pub name_of : Option SymbolOf → List ℕ
name_of (Some symbol) = symbol.name
name_of None = []

-- the name of the symbol, the integer, or the character between quotes
abbrev pub label_text : Program → Label → List ℕ
label_text p (Symbol f) = name_of (slice_get p.symbols f)
label_text p (Integer i) = signed_decimal i
label_text p (Character c) = codes "'" ++ (c ∷ codes "'")

-- `@` and the number of the target, after `^` where the arc waits
abbrev pub argument : List NodeId → Arc → List ℕ
argument order arc = cond arc.waits (codes "^") [] ++ (codes "@" ++ decimal (number_in order arc.target))

-- further arguments, each after a space, and the bracket that closes them
abbrev pub further_arguments : List NodeId → List Arc → List ℕ
further_arguments order [] = codes "]"
further_arguments order (arc ∷ arcs) = codes " " ++ (argument order arc ++ further_arguments order arcs)

-- the arguments in brackets, with one space between; nothing where there are none
abbrev pub arguments : List NodeId → List Arc → List ℕ
arguments order [] = []
arguments order (arc ∷ arcs) = codes "[" ++ (argument order arc ++ further_arguments order arcs)

abbrev pub arcs_of : Option Node → List Arc
arcs_of (Some node) = node.arcs
arcs_of None = []

-- mark, label and arguments
abbrev pub content : Program → List NodeId → Option Node → List ℕ
content p order (Some node) = mark_text node.mark ++ (label_text p node.label ++ (arguments order node.arcs ++ line_feed))
content p order None = []

-- what a line begins with
abbrev pub line_number : List NodeId → NodeId → List ℕ
line_number order n = codes "@" ++ (decimal (number_in order n) ++ codes " ")

-- the line of a node
abbrev pub node_line : Program → Graph → List NodeId → NodeId → List ℕ
node_line p g order n = line_number order n ++ content p order (node_at g n)

-- one line a node, in this order
abbrev pub graph_lines : Program → Graph → List NodeId → List ℕ
graph_lines p g order = concat (map (node_line p g order) order)

-- the text of the graph below its root
pub record IsGraphText (p : Program) (g : Graph) (text : List ℕ) : Type 0 where
  pub order : List NodeId
  pub is_order : IsOrder g order
  pub lines : text ≡ graph_lines p g order

-- the label names a symbol among so many, or is an integer or a character
abbrev pub IsLabelAmong : ℕ → Label → Type 0
IsLabelAmong count (Symbol f) = f < count
IsLabelAmong count (Integer i) = Unit {0}
IsLabelAmong count (Character c) = Unit {0}

-- the symbols of the graph are those of the program
abbrev pub HasSymbolsOf : Program → Graph → Type 0
HasSymbolsOf p g = All (λ node. IsLabelAmong (length p.symbols) node.label) g.nodes
