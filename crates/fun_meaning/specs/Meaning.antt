-- What the nodes of a graph mean over equations.
use Rattle.std.specs.Prelude.{◌≡◌, ℕ, zero, suc, Bool, true, false, List, [], ◌∷◌, map, ℤ, Option, Some, None, IsTrue, slice_get, ◌⊎◌}
use Rattle.std.specs.List.{AllZip}
use Rattle.dactl_model.specs.declared.graph.NodeId.{NodeId}
use Rattle.dactl_model.specs.declared.graph.Label.{Label}
use Rattle.dactl_model.specs.declared.graph.Label.TheVariants.{Symbol, Integer, Character}
use Rattle.dactl_model.specs.declared.graph.Graph.{Graph}
use Rattle.dactl_model.specs.declared.program.Program.{Program}
use Rattle.dactl_model.specs.Versions.{Content, content}
use Rattle.fun_meaning.specs.declared.tree.Expr.{Expr}
use Rattle.fun_meaning.specs.declared.tree.Fun.{Fun}
use Rattle.fun_meaning.specs.Names.{Spelling, same_name, true_name, false_name, check_name}
use Rattle.fun_meaning.specs.Values.{integer, made, is_constructor, Valuing, Applied, ValueAt}

-- the names of the symbols, in order
abbrev pub symbol_names : Program → List Spelling
symbol_names p = map (λ s. s.name) p.symbols

-- a relation of nodes to values
abbrev pub Reading : Type 1
Reading = NodeId → Expr → Type 0

-- what a symbol of that name over the targets reads as, where constructors alone are read
abbrev pub UnfoldsNamed : Fun → Reading → List NodeId → Expr → Option Spelling → Type 0
UnfoldsNamed e reads targets v None = ⊥
UnfoldsNamed e reads targets v (Some g) = IsTrue (is_constructor e g) × ((vs : List Expr) × AllZip reads targets vs × (v ≡ made g vs))

-- what a label over the targets reads as
abbrev pub UnfoldsLabel : Fun → List Spelling → Reading → Label → List NodeId → Expr → Type 0
UnfoldsLabel e names reads (Integer i) targets v = v ≡ integer i
UnfoldsLabel e names reads (Symbol f) targets v = UnfoldsNamed e reads targets v (slice_get names f)
UnfoldsLabel e names reads (Character c) targets v = ⊥

-- what a node with this content reads as
abbrev pub UnfoldsContent : Fun → List Spelling → Reading → Option Content → Expr → Type 0
UnfoldsContent e names reads None v = ⊥
UnfoldsContent e names reads (Some c) v = UnfoldsLabel e names reads c.label c.targets v

-- the node unfolds to the value, at this depth
abbrev pub UnfoldsAt : ℕ → Fun → List Spelling → Graph → Reading
UnfoldsAt zero e names g n v = ⊥
UnfoldsAt (suc d) e names g n v = UnfoldsContent e names (UnfoldsAt d e names g) (content g n) v

-- the node unfolds to the value
abbrev pub Unfolds : Fun → List Spelling → Graph → Reading
Unfolds e names g n v = (d : ℕ) × UnfoldsAt d e names g n v

-- an integer, True or False
abbrev pub IsPlain : Expr → Type 0
IsPlain v = ((i : ℤ) × (v ≡ integer i)) ⊎ ((v ≡ made true_name []) ⊎ (v ≡ made false_name []))

-- Chk, if it is that, has the value of its one argument, where this is plain; another name is applied
abbrev pub CheckedOrApplied : Fun → Valuing → Spelling → List Expr → Expr → Bool → Type 0
CheckedOrApplied e val g vs v true = (vs ≡ v ∷ []) × IsPlain v
CheckedOrApplied e val g vs v false = Applied e val g vs v

-- the value of a symbol of that name over the targets
abbrev pub MeansNamed : Fun → Valuing → Reading → List NodeId → Expr → Option Spelling → Type 0
MeansNamed e val reads targets v None = ⊥
MeansNamed e val reads targets v (Some g) = (vs : List Expr) × AllZip reads targets vs × CheckedOrApplied e val g vs v (same_name g check_name)

-- the value of a label over the targets
abbrev pub MeansLabel : Fun → List Spelling → Valuing → Reading → Label → List NodeId → Expr → Type 0
MeansLabel e names val reads (Integer i) targets v = v ≡ integer i
MeansLabel e names val reads (Symbol f) targets v = MeansNamed e val reads targets v (slice_get names f)
MeansLabel e names val reads (Character c) targets v = ⊥

-- the value of a node with this content
abbrev pub MeansContent : Fun → List Spelling → Valuing → Reading → Option Content → Expr → Type 0
MeansContent e names val reads None v = ⊥
MeansContent e names val reads (Some c) v = MeansLabel e names val reads c.label c.targets v

-- the node, read as an expression over the equations, has the value, at this depth
abbrev pub MeansAt : ℕ → Fun → List Spelling → Graph → Reading
MeansAt zero e names g n v = ⊥
MeansAt (suc d) e names g n v = MeansContent e names (ValueAt d e) (MeansAt d e names g) (content g n) v

-- the node has the value
abbrev pub Means : Fun → List Spelling → Graph → Reading
Means e names g n v = (d : ℕ) × MeansAt d e names g n v
