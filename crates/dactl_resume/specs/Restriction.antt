-- The part of a graph below its root, numbered in the order of its print.
use Rattle.std.specs.Prelude.{◌≡◌, ◌<◌, ◌≤◌, ◌^◌, Bool, true, List, length, All}
use Rattle.dactl_model.specs.declared.graph.NodeId.{NodeId}
use Rattle.dactl_model.specs.declared.graph.Label.{Label}
use Rattle.dactl_model.specs.declared.graph.Label.TheVariants.{Symbol, Integer, Character}
use Rattle.dactl_model.specs.declared.graph.Graph.{Graph}
use Rattle.dactl_model.specs.declared.program.Program.{Program}
use Rattle.dactl_model.specs.Graphs.{IsWellFormed}
use Rattle.dactl_model.specs.Integers.{InRange}
use Rattle.dactl_print.specs.Order.{IsOrder}
use Rattle.dactl_print.specs.Lines.{HasSymbolsOf}
use Rattle.dactl_within.specs.Renumbering.{IsWithin, nodes_from}

-- h is what can be reached from the root of g, numbered from 0 in the order of the print: that order is the list by which h is within g
pub record IsRestriction (g : Graph) (order : List NodeId) (h : Graph) : Type 0 where
  pub fine : IsWellFormed h
  pub is_order : IsOrder g order
  pub within : IsWithin order h g

-- all nodes are below the root, and their numbers are those of the print, less one
abbrev pub IsCanonical : Graph → Type 0
IsCanonical h = IsOrder h (nodes_from 0 (length h.nodes))

-- an integer is in the range of the language, and a character is one from ' ' to '~', which only the wide language has
abbrev pub IsOfLanguage : Bool → Label → Type 0
IsOfLanguage wide (Symbol f) = Unit {0}
IsOfLanguage wide (Integer z) = InRange wide z
IsOfLanguage wide (Character c) = (wide ≡ true) × ((32 ≤ c) × (c ≤ 126))

-- what a printed graph asks of a graph: symbols of the program, integers and characters of its language, fewer than 2 ^ 63 nodes
pub record IsPrintable (p : Program) (g : Graph) : Type 0 where
  pub symbols : HasSymbolsOf p g
  pub language : All (λ node. IsOfLanguage p.wide node.label) g.nodes
  pub few : length g.nodes < 2 ^ 63
