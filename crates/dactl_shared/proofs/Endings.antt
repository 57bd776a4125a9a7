-- Ends that are seen at a turn, that they stay, and that the state then has one.
use Rattle.std.proofs.Common.{◌≡◌, ℕ, ◌⊎◌, inl, inr, ⊎_elim, ◌≤◌, IfNone, MatchOption, List, [], ◌∷◌, ◌++◌, refl, sym, ap, ◌∙◌, subst, append-nil, length, length-append, Option, Some, None, arith}
use Rattle.dactl_model.specs.declared.graph.NodeId.{NodeId}
use Rattle.dactl_model.specs.declared.graph.Graph.{Graph}
use Rattle.dactl_model.specs.declared.graph.Event.{Event}
use Rattle.dactl_model.specs.declared.graph.Event.TheVariants.{Fire, Note}
use Rattle.dactl_model.specs.declared.graph.Entry.{Entry}
use Rattle.dactl_model.specs.declared.graph.End.{End}
use Rattle.dactl_model.specs.declared.graph.End.TheVariants.{Normal, Budget, Full as FullEnd}
use Rattle.dactl_model.specs.declared.graph.Limits.{Limits}
use Rattle.dactl_model.specs.declared.program.Program.{Program}
use Rattle.dactl_model.specs.declared.reading.Reading.{Reading}
use Rattle.dactl_model.specs.Programs.{IsValid}
use Rattle.dactl_model.specs.Matching.{IsActive}
use Rattle.dactl_model.specs.Firing.{start_of}
use Rattle.dactl_model.specs.Steps.{Step, Reduction}
use Rattle.dactl_model.specs.Acts.{node_of_event}
use Rattle.dactl_model.specs.Ending.{IsPassive}
use Rattle.dactl_model.proofs.Reductions.{Reduction-split, same_reduction}
use Rattle.dactl_model.proofs.KeptFire.{begins_well_formed}
use Rattle.dactl_turn.specs.declared.rule.Give.{Give}
use Rattle.dactl_turn.specs.Gives.{StartsWith, or_else, entries_of, end_of}
use Rattle.dactl_turn.proofs.Gives.{entries_of-append, or_else-prefix}
use Rattle.dactl_store.specs.Held.{HasActive}
use Rattle.dactl_state.specs.declared.state.Answer.{Answer}
use Rattle.dactl_state.specs.declared.state.Answer.TheVariants.{Committed, Stale, Passive, Full, Ended}
use Rattle.dactl_state.specs.Runs.{Run, IsCourse, EndOf, Commits}
use Rattle.dactl_shared.specs.Endings.{HasEndAt, HasEnd, TellsEnd}
use Rattle.dactl_shared.specs.Stores.{IsStateAt}

-- a step is at an active node
step_active : (p : Program) (g after : Graph) (e : Event) → Step p g e after → IsActive g (node_of_event e)
step_active p g after (Fire n r) s = s.0.active
step_active p g after (Note n) s = s.0.active

-- where no node is active no entry follows
passive_ends : (p : Program) (g after : Graph) (more : List Entry) → IsPassive g → Reduction p g more after → more ≡ []
passive_ends p g after [] none_active run = refl
passive_ends p g after (e ∷ more) none_active run = absurd (none_active (node_of_event e.event) (step_active p g run.0 e.event run.1))

-- the end that a state has is one after its journal
end_at : (r : Run) (e : End) → IsCourse r → EndOf r (Some e) → HasEndAt r.program r.limits r.journal r.full
end_at r Normal course told = ⊎_elim (λ (kept : r.full ≡ Some Normal). inl (Normal, kept)) (λ (seen : (r.full ≡ None) × IsPassive r.held.graph). inr (inl (r.held.graph, course.run.reduced, seen.1))) told
end_at r Budget course told = ⊎_elim (λ (kept : r.full ≡ Some Budget). inl (Budget, kept)) (λ (seen : (r.full ≡ None) × ((length r.journal ≡ r.limits.budget) × HasActive r.held.graph)). inr (inr seen.1.0)) told
end_at r (FullEnd n rule needed left) course told = ⊎_elim (λ (kept : r.full ≡ Some (FullEnd n rule needed left)). inl (FullEnd n rule needed left, kept)) (λ (seen : (r.full ≡ None) × ⊥). absurd seen.1) told

-- and so for the gives after which it stands
end_after : (p : Program) (limits : Limits) (gs : List Give) (r : Run) → IsStateAt p limits gs r → HasEndAt r.program r.limits r.journal r.full → HasEndAt p limits (entries_of gs) (end_of gs)
end_after p limits gs r at ends = subst (λ (z : Program × Limits × List Entry × Option End). HasEndAt z.0 z.1 z.2 z.3) (λ i. (at.program i, at.limited i, at.entries i, at.end i)) ends

-- where no node is active, the run has an end
pub passive_ended : (p : Program) (limits : Limits) (entries : List Entry) (full : Option End) (r : Run) (node : Option NodeId) → IsCourse r → r.program ≡ p → r.journal ≡ entries
    → MatchOption node (IsPassive r.held.graph) (IsActive r.held.graph) → IfNone node (HasEndAt p limits entries full)
passive_ended p limits entries full r None course program is told =
    inr (inl (r.held.graph, subst (λ (z : Program × List Entry). Reduction z.0 (start_of z.0.start) z.1 r.held.graph) (λ i. (program i, is i)) course.run.reduced, told))
passive_ended p limits entries full r (Some n) course program is told = tt

-- an answer that tells of an end has shown one
pub commit_ended : (p : Program) (limits : Limits) (gs : List Give) (old new : Run) (event : Event) (rs : List Reading) (w : ℕ) (woken : List NodeId) (a : Answer) → IsStateAt p limits gs new → IsCourse old
    → Commits old new event rs w woken a → TellsEnd a → HasEndAt p limits (entries_of gs) (end_of gs)
commit_ended p limits gs old new event rs w woken (Ended e) at course s tells = end_after p limits gs new at (end_at new e at.course (subst (λ (z : Run). EndOf z (Some e)) (sym s.1) s.0))
commit_ended p limits gs old new event rs w woken (Full n r needed left) at course s tells = inl (FullEnd n r needed left, sym at.end ∙ ap (λ (z : Run). z.full) s.4)
commit_ended p limits gs old new event rs w woken Passive at course s tells = absurd tells
commit_ended p limits gs old new event rs w woken (Stale m was now) at course s tells = absurd tells
commit_ended p limits gs old new event rs w woken Committed at course s tells = absurd tells

-- an end stays
pub end_stays : (p : Program) (limits : Limits) (front whole : List Entry) (full full' : Option End) (h : Graph) → IsValid p → Reduction p (start_of p.start) whole h → length whole ≤ limits.budget
    → StartsWith whole front → or_else full full' ≡ full' → HasEndAt p limits front full → HasEndAt p limits whole full'
end_stays p limits front whole full full' h valid run most on kept ends = ⊎_elim
    (λ (f : (e : End) × (full ≡ Some e)). inl (f.0, sym kept ∙ ap (λ (z : Option End). or_else z full') f.1))
    (λ (rest : ((g : Graph) × Reduction p (start_of p.start) front g × IsPassive g) ⊎ (length front ≡ limits.budget)). ⊎_elim
    (λ (n : (g : Graph) × Reduction p (start_of p.start) front g × IsPassive g). let parts = Reduction-split p (start_of p.start) h front on.0 (subst (λ (z : List Entry). Reduction p (start_of p.start) z h) on.1 run) in
    let same = same_reduction p (start_of p.start) n.0 parts.0 front valid (begins_well_formed p valid) n.1 parts.1 in
    let none_more = passive_ends p parts.0 h on.0 (subst IsPassive same n.2) parts.2 in
    let whole_is : whole ≡ front = on.1 ∙ (ap (λ z. front ++ z) none_more ∙ append-nil front) in
    inr (inl (n.0, subst (λ (z : List Entry). Reduction p (start_of p.start) z n.0) (sym whole_is) n.1, n.2)))
    (λ (b : length front ≡ limits.budget). let l : length whole ≡ length (front ++ on.0) = ap length on.1 in let m = length-append front on.0 in inr (inr (omega arith)))
    rest) ends

-- the state is asked for its end, and has one
ended : (r : Run) (o : Option End) → IsCourse r → EndOf r o → HasEndAt r.program r.limits r.journal r.full → HasEnd r
ended r (Some e) k told ends = (e, told)
ended r None k told ends = ⊎_elim
    (λ (f : (e : End) × (r.full ≡ Some e)). absurd (let q : None ≡ Some f.0 = sym told.0 ∙ f.1 in cc))
    (λ (rest : ((g : Graph) × Reduction r.program (start_of r.program.start) r.journal g × IsPassive g) ⊎ (length r.journal ≡ r.limits.budget)). ⊎_elim
    (λ (n : (g : Graph) × Reduction r.program (start_of r.program.start) r.journal g × IsPassive g). let a = told.1 in
    absurd (n.2 a.0 (subst (λ (z : Graph). IsActive z a.0) (sym (same_reduction r.program (start_of r.program.start) n.0 r.held.graph r.journal k.valid (begins_well_formed r.program k.valid) n.1 k.run.reduced)) a.1)))
    (λ (b : length r.journal ≡ r.limits.budget). absurd (told.2 b))
    rest) ends

pub ended_on : (p : Program) (limits : Limits) (gs front : List Give) (r : Run) (o : Option End) → IsStateAt p limits gs r → EndOf r o → StartsWith gs front → HasEndAt p limits (entries_of front) (end_of front) → HasEnd r
ended_on p limits gs front r o at told on ends = let k = at.course in
    let entries : StartsWith r.journal (entries_of front) = (entries_of on.0, at.entries ∙ (ap entries_of on.1 ∙ entries_of-append front on.0)) in
    let kept : or_else (end_of front) r.full ≡ r.full = ap (or_else (end_of front)) at.end ∙ (or_else-prefix gs front on ∙ sym at.end) in
    let there : HasEndAt r.program r.limits (entries_of front) (end_of front) = subst (λ (z : Program × Limits). HasEndAt z.0 z.1 (entries_of front) (end_of front)) (λ i. (sym at.program i, sym at.limited i)) ends in
    ended r o k told (end_stays r.program r.limits (entries_of front) r.journal (end_of front) r.full r.held.graph k.valid k.run.reduced k.few entries kept there)
