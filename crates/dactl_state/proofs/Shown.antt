-- What the journal showed before a commit it shows after it.
use Rattle.std.proofs.Common.{ℕ, List, [], ◌∷◌, ◌++◌, sym, subst}
use Rattle.dactl_model.specs.declared.graph.Event.{Event}
use Rattle.dactl_model.specs.declared.graph.Entry.{Entry}
use Rattle.dactl_model.specs.declared.graph.NodeId.{NodeId}
use Rattle.dactl_model.specs.declared.program.Program.{Program}
use Rattle.dactl_model.specs.declared.reading.Reading.{Reading}
use Rattle.dactl_model.specs.Versions.{IsShown}
use Rattle.dactl_model.proofs.VersionsRise.{shown_stays}
use Rattle.dactl_state.specs.declared.state.Answer.{Answer}
use Rattle.dactl_state.specs.declared.state.Answer.TheVariants.{Committed, Stale, Passive, Full, Ended}
use Rattle.dactl_state.specs.Grown.{entry_of}
use Rattle.dactl_state.specs.Runs.{Run, Commits}

pub shown_kept : (old new : Run) (event : Event) (rs : List Reading) (worker : ℕ) (woken : List NodeId) (a : Answer) → Commits old new event rs worker woken a → (rd : Reading) → IsShown old.program old.journal rd → IsShown new.program new.journal rd
shown_kept old new event rs worker woken (Ended e) c rd s = subst (λ (z : Run). IsShown z.program z.journal rd) (sym c.1) s
shown_kept old new event rs worker woken Passive c rd s = subst (λ (z : Run). IsShown z.program z.journal rd) (sym c.2) s
shown_kept old new event rs worker woken (Stale node was now) c rd s = subst (λ (z : Run). IsShown z.program z.journal rd) (sym c.2) s
shown_kept old new event rs worker woken (Full node rule needed left) c rd s = subst (λ (z : Run). IsShown z.program z.journal rd) (sym c.4) s
shown_kept old new event rs worker woken Committed c rd s = let e : Entry = entry_of worker event in
    let on : IsShown old.program (old.journal ++ e ∷ []) rd = shown_stays old.program old.journal (e ∷ []) rd s in
    subst (λ (z : Program × List Entry). IsShown z.0 z.1 rd) (λ i. (sym c.2.program i, sym c.2.journal i)) on
