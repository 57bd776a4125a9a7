-- What a seat has seen grows from turn to turn: what it was shown stays shown, and what it may read stays so.
use Rattle.std.proofs.Common.{◌≡◌, List, [], ◌∷◌, ◌++◌, sym, ap, ◌∙◌, subst, All, append_assoc}
use Rattle.std.proofs.lemmas.List.Elements.{All-weaker}
use Rattle.dactl_model.specs.declared.graph.NodeId.{NodeId}
use Rattle.dactl_model.specs.declared.graph.Event.{Event}
use Rattle.dactl_model.specs.declared.graph.Entry.{Entry}
use Rattle.dactl_model.specs.declared.reading.Reading.{Reading}
use Rattle.dactl_model.specs.Versions.{IsShown}
use Rattle.dactl_model.proofs.VersionsRise.{shown_stays}
use Rattle.dactl_state.specs.declared.state.Answer.{Answer}
use Rattle.dactl_state.specs.Runs.{Run}
use Rattle.dactl_turn.specs.declared.rule.Give.{Give}
use Rattle.dactl_turn.specs.Gives.{listed, entries_of, end_of, StartsWith, give}
use Rattle.dactl_turn.proofs.Gives.{entries_of-snoc, entries_of-append}
use Rattle.dactl_shared.specs.declared.store.SharedStore.{SharedStore}
use Rattle.dactl_shared.specs.declared.store.WorkerSeat.{WorkerSeat}
use Rattle.dactl_shared.specs.Counts.{entry_by}
use Rattle.dactl_shared.specs.Stores.{program_of, limits_of, gives_of, seen_of, MayRead, WasShown, Looks, TakesStep}
use Rattle.dactl_shared.proofs.Nodes.{node_found, node_known, node_stays}
use Rattle.dactl_shared.proofs.Turns.{looked_entries}

entries_later : (gs front : List Give) → StartsWith gs front → StartsWith (entries_of gs) (entries_of front)
entries_later gs front later = (entries_of later.0, ap entries_of later.1 ∙ entries_of-append front later.0)

-- after a turn without an entry the seat has seen what it had, and perhaps more
pub looks_later : (s : SharedStore) (old new : WorkerSeat) (Tells : Run → Type 0) → Looks s old new Tells → StartsWith (seen_of new) (seen_of old)
looks_later s old new Tells look = let on = entries_later look.found (gives_of old) look.later in (on.0, looked_entries look.found (gives_of new) (end_of look.found) look.after ∙ on.1)

-- and after a commit
pub step_later : (s : SharedStore) (old new : WorkerSeat) (event : Event) (rs : List Reading) (a : Answer) (woken : List NodeId) → TakesStep s old new event rs a woken → StartsWith (seen_of new) (seen_of old)
step_later s old new event rs a woken step = let on = entries_later step.found (gives_of old) step.later in let own = listed (entry_by a old.number event) in
    (on.0 ++ own, ap entries_of step.after ∙ (entries_of-snoc step.found (give (entry_by a old.number event) step.next.full) ∙ (ap (λ (z : List Entry). z ++ own) on.1 ∙ append_assoc (seen_of old) on.0 own)))

-- what a seat was shown stays shown
pub shown_later : (s : SharedStore) (old new : WorkerSeat) (rs : List Reading) → StartsWith (seen_of new) (seen_of old) → All (WasShown s old) rs → All (WasShown s new) rs
shown_later s old new rs later shown = All-weaker (WasShown s old) (WasShown s new)
    (λ (r : Reading) was. subst (λ (z : List Entry). IsShown (program_of s) z r) (sym later.1) (shown_stays (program_of s) (seen_of old) later.0 r was)) rs shown

-- a node that may be read may be read after a turn without an entry
pub looks_known : (s : SharedStore) (old new : WorkerSeat) (Tells : Run → Type 0) (n : NodeId) → Looks s old new Tells → MayRead s old n → MayRead s new n
looks_known s old new Tells n look known = let p = program_of s in let same = looked_entries look.found (gives_of new) (end_of look.found) look.after in
    node_known p (seen_of new) look.run n look.is.course look.is.program (look.is.entries ∙ sym same) (node_found p (limits_of s) look.found (gives_of old) look.run n look.is look.later known)

-- and after a commit
pub step_known : (s : SharedStore) (old new : WorkerSeat) (event : Event) (rs : List Reading) (a : Answer) (woken : List NodeId) (n : NodeId) → TakesStep s old new event rs a woken → MayRead s old n → MayRead s new n
step_known s old new event rs a woken n step known = let p = program_of s in let own = give (entry_by a old.number event) step.next.full in
    node_stays p (limits_of s) (gives_of new) (gives_of old) step.next n step.stands (step.later.0 ++ own ∷ [], step.after ∙ (ap (λ (z : List Give). z ++ own ∷ []) step.later.1 ∙ append_assoc (gives_of old) step.later.0 (own ∷ []))) known
