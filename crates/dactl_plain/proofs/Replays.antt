-- Journals of steps, entry by entry.
use Rattle.std.proofs.Common.{◌≡◌, ℕ, ◌+◌, ◌<◌, List, ◌∷◌, ◌++◌, length, take, drop, get_or, None, ap, sym, ◌∙◌, subst}
use Rattle.std.proofs.lemmas.List.{take-append-drop, take_more, drop_more}
use Rattle.dactl_model.specs.declared.graph.Graph.{Graph}
use Rattle.dactl_model.specs.declared.graph.Entry.{Entry}
use Rattle.dactl_model.specs.declared.program.Program.{Program}
use Rattle.dactl_model.specs.Graphs.{IsWellFormed}
use Rattle.dactl_model.specs.Programs.{IsValid}
use Rattle.dactl_model.specs.Firing.{start_of}
use Rattle.dactl_model.specs.Steps.{Step, Reduction}
use Rattle.dactl_model.proofs.KeptFire.{begins_well_formed}
use Rattle.dactl_model.proofs.Reductions.{Reduction-push, Reduction-split, same_reduction, reduction_keeps}
use Rattle.dactl_plain.specs.Replaying.{IsStepped, IsReplayed}

-- the entries before place i lead from the program's first graph to this one
abbrev pub IsReplayedTo : Program → List Entry → ℕ → Graph → Type 0
IsReplayedTo p journal i g = Reduction p (start_of p.start) (take i journal) g

pub replayed_well_formed : (p : Program) (journal : List Entry) (i : ℕ) (g : Graph) → IsValid p → IsReplayedTo p journal i g → IsWellFormed g
replayed_well_formed p journal i g valid run = reduction_keeps p (start_of p.start) g (take i journal) valid (begins_well_formed p valid) run

pub replayed_more : (p : Program) (journal : List Entry) (i : ℕ) (d : Entry) (g after : Graph) → i < length journal
    → IsReplayedTo p journal i g → Step p g (get_or journal i d).event after → IsReplayedTo p journal (i + 1) after
replayed_more p journal i d g after below run step =
    rw (take_more journal i d below) (Reduction-push p (start_of p.start) g after (take i journal) (get_or journal i d) run step)

cut : (journal : List Entry) (i : ℕ) (d : Entry) → i < length journal → journal ≡ take i journal ++ get_or journal i d ∷ drop (i + 1) journal
cut journal i d below = sym (take-append-drop i journal) ∙ ap (λ (rest : List Entry). take i journal ++ rest) (drop_more journal i d below)

-- an entry that is no step of the graph before it
pub replayed_none : (p : Program) (journal : List Entry) (i : ℕ) (d : Entry) (g : Graph) → IsValid p → i < length journal
    → IsReplayedTo p journal i g → IsStepped p g (get_or journal i d).event None → IsReplayed p journal None
replayed_none p journal i d g valid below run none end whole =
    let start = start_of p.start in
    let entry = get_or journal i d in
    let split = Reduction-split p start end (take i journal) (entry ∷ drop (i + 1) journal) (subst (λ (entries : List Entry). Reduction p start entries end) (cut journal i d below) whole) in
    let same : split.0 ≡ g = same_reduction p start split.0 g (take i journal) valid (begins_well_formed p valid) split.1 run in
    none split.2.0 (subst (λ (x : Graph). Step p x entry.event split.2.0) same split.2.1)
