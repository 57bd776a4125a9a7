-- Statements about runs of translations.
use Rattle.std.specs.Prelude.{◌≡◌, List}
use Rattle.dactl_model.specs.declared.graph.NodeId.{NodeId}
use Rattle.dactl_model.specs.declared.graph.Graph.{Graph}
use Rattle.dactl_model.specs.declared.graph.Event.{Event}
use Rattle.dactl_model.specs.declared.graph.Entry.{Entry}
use Rattle.dactl_model.specs.declared.program.Program.{Program}
use Rattle.dactl_model.specs.Graphs.{IsWellFormed}
use Rattle.dactl_model.specs.Programs.{IsValid}
use Rattle.dactl_model.specs.Firing.{start_of}
use Rattle.dactl_model.specs.Steps.{Step, Reduction}
use Rattle.fun_meaning.specs.declared.tree.Expr.{Expr}
use Rattle.fun_meaning.specs.declared.tree.Fun.{Fun}
use Rattle.fun_meaning.specs.Values.{HasValue}
use Rattle.fun_meaning.specs.Meaning.{symbol_names, Unfolds, Means}
use Rattle.fun_meaning.specs.Translation.{IsProgramOf}
use Rattle.fun_meaning.specs.Invariant.{IsTidy}

-- the first graph keeps the invariant
abbrev pub BeginsTidy : Type 0
BeginsTidy = (e : Fun) (p : Program) → IsProgramOf e p → IsTidy e p (start_of p.start)

-- a step keeps the invariant
abbrev pub KeepsTidy : Type 0
KeepsTidy = (e : Fun) (p : Program) (g after : Graph) (event : Event) → IsValid p → IsProgramOf e p → IsWellFormed g → IsTidy e p g → Step p g event after → IsTidy e p after

-- a value that the root has after a step is one that it had before
abbrev pub KeepsMeaning : Type 0
KeepsMeaning =
    (e : Fun) (p : Program) (g after : Graph) (event : Event) (v : Expr) → IsValid p → IsProgramOf e p → IsWellFormed g → IsTidy e p g → Step p g event after
    → Means e (symbol_names p) after after.root v → Means e (symbol_names p) g g.root v

-- a value that the root of the first graph has is the expression's
abbrev pub StartsAtTheValue : Type 0
StartsAtTheValue = (e : Fun) (p : Program) (v : Expr) → IsProgramOf e p → Means e (symbol_names p) (start_of p.start) (start_of p.start).root v → HasValue e e.main v

-- what the root unfolds to after a run is the value of the expression
abbrev pub UnfoldsToTheValue : Type 0
UnfoldsToTheValue =
    (e : Fun) (p : Program) (journal : List Entry) (g : Graph) (v : Expr) → IsValid p → IsProgramOf e p → Reduction p (start_of p.start) journal g
    → Unfolds e (symbol_names p) g g.root v → HasValue e e.main v

-- a node unfolds to one value at most
abbrev pub UnfoldsToOne : Type 0
UnfoldsToOne = (e : Fun) (p : Program) (g : Graph) (n : NodeId) (v w : Expr) → IsProgramOf e p → Unfolds e (symbol_names p) g n v → Unfolds e (symbol_names p) g n w → v ≡ w
