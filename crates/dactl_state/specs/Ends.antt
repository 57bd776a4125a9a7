-- The end of a run: a kept one, else Normal where no node is active, else Budget where no entry is left.
use Rattle.std.specs.Prelude.{◌≡◌, ◌≢◌, ◌⊎◌, ℕ, Option, Some, None}
use Rattle.dactl_model.specs.declared.graph.Graph.{Graph}
use Rattle.dactl_model.specs.declared.graph.End.{End}
use Rattle.dactl_model.specs.declared.graph.End.TheVariants.{Normal, Budget, Full}
use Rattle.dactl_model.specs.Ending.{IsPassive}
use Rattle.dactl_store.specs.Held.{HasActive}

-- the end that is seen by the graph, the number of entries and the budget
abbrev pub IsSeenEnd : Graph → ℕ → ℕ → End → Type 0
IsSeenEnd g done budget Normal = IsPassive g
IsSeenEnd g done budget Budget = (done ≡ budget) × HasActive g
IsSeenEnd g done budget (Full n r needed left) = ⊥

-- by the graph, the number of entries, the budget and the kept end, the end is this, or there is none
abbrev pub EndBy : Graph → ℕ → ℕ → Option End → Option End → Type 0
EndBy g done budget full (Some e) = (full ≡ Some e) ⊎ ((full ≡ None) × IsSeenEnd g done budget e)
EndBy g done budget full None = (full ≡ None) × HasActive g × (done ≢ budget)
