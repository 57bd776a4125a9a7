-- What a turn adds, and whose entries a journal has.
use Rattle.std.proofs.Common.{◌≡◌, ◌≢◌, ℕ, zero, suc, ◌<◌, List, [], ◌∷◌, ◌++◌, length, Option, Some, None, refl, sym, ap, ◌∙◌, append-nil, subst, eq-eqb, ne_eqb, All, Contains, arith, slice_index_or}
use Rattle.std.proofs.lemmas.List.Elements.{All-weaker, All-contains_itself}
use mathlib.Core.Logic.{dite}
use native.Mathlib.Decide.{ℕ_discrete}
use Rattle.dactl_model.specs.declared.graph.Entry.{Entry}
use Rattle.dactl_model.specs.declared.graph.Event.{Event}
use Rattle.dactl_model.specs.declared.graph.End.{End}
use Rattle.dactl_model.specs.declared.graph.NodeId.{NodeId}
use Rattle.dactl_model.specs.declared.graph.Limits.{Limits}
use Rattle.dactl_model.specs.declared.program.Program.{Program}
use Rattle.dactl_model.specs.declared.reading.Reading.{Reading}
use Rattle.dactl_model.specs.Versions.{IsShown}
use Rattle.dactl_model.proofs.VersionsRise.{shown_stays}
use Rattle.dactl_state.specs.declared.state.Answer.{Answer}
use Rattle.dactl_state.specs.declared.state.Answer.TheVariants.{Committed, Stale, Passive, Full, Ended}
use Rattle.dactl_state.specs.Runs.{Run, IsCourse, Commits}
use Rattle.dactl_turn.specs.declared.rule.Give.{Give}
use Rattle.dactl_turn.specs.declared.rule.Joined.{Joined}
use Rattle.dactl_turn.specs.Gives.{listed, entries_of, end_of, or_else, StartsWith, give, by_worker, kept_by}
use Rattle.dactl_turn.proofs.Gives.{entries_of-snoc, entries_of-append, end_of-snoc, by_worker-append}
use Rattle.dactl_shared.specs.Counts.{entry_by}
use Rattle.dactl_shared.specs.Stores.{IsStateAt, IsSigned}

-- a turn without an entry shows the entries of the state that it found, and no more
pub looked_entries : (gs new : List Give) (e : Option End) → new ≡ gs ++ give None e ∷ [] → entries_of new ≡ entries_of gs
looked_entries gs new e after = ap entries_of after ∙ (entries_of-snoc gs (give None e) ∙ append-nil (entries_of gs))

-- so none of the seat's own number
pub none_mine : (k : ℕ) (gs : List Give) (e : Option End) → by_worker k (entries_of (gs ++ give None e ∷ [])) ≡ by_worker k (entries_of gs)
none_mine k gs e = ap (by_worker k) (looked_entries gs (gs ++ give None e ∷ []) e refl)

-- what a seat has been shown is shown at the next turn
pub shown_on : (p : Program) (gs olds : List Give) (r : Run) (rs : List Reading) → r.program ≡ p → r.journal ≡ entries_of gs → StartsWith gs olds → All (IsShown p (entries_of olds)) rs → All (IsShown r.program r.journal) rs
shown_on p gs olds r rs program entries later shown = let is : entries_of olds ++ entries_of later.0 ≡ r.journal = sym (entries ∙ (ap entries_of later.1 ∙ entries_of-append olds later.0)) in
    All-weaker (IsShown p (entries_of olds)) (IsShown r.program r.journal)
    (λ (rd : Reading) s. subst (λ (z : Program × List Entry). IsShown z.0 z.1 rd) (λ i. (sym program i, is i)) (shown_stays p (entries_of olds) (entries_of later.0) rd s)) rs shown

-- what was read is shown by what the seat has then seen
pub shown_then : (p : Program) (gs new : List Give) (r : Run) (rd : Reading) (e : Option End) → r.program ≡ p → r.journal ≡ entries_of gs → new ≡ gs ++ give None e ∷ [] → IsShown r.program r.journal rd → IsShown p (entries_of new) rd
shown_then p gs new r rd e program entries after shown = let is : r.journal ≡ entries_of new = entries ∙ sym (looked_entries gs new e after) in subst (λ (z : Program × List Entry). IsShown z.0 z.1 rd) (λ i. (program i, is i)) shown

or_else_itself : (e : Option End) → or_else e e ≡ e
or_else_itself None = refl
or_else_itself (Some e) = refl

pub adds_its : (old new : Run) (event : Event) (rs : List Reading) (w : ℕ) (woken : List NodeId) (a : Answer) → Commits old new event rs w woken a → new.journal ≡ old.journal ++ listed (entry_by a w event)
adds_its old new event rs w woken (Ended e) s = ap (λ (z : Run). z.journal) s.1 ∙ sym (append-nil old.journal)
adds_its old new event rs w woken Passive s = ap (λ (z : Run). z.journal) s.2 ∙ sym (append-nil old.journal)
adds_its old new event rs w woken (Stale m was now) s = ap (λ (z : Run). z.journal) s.2 ∙ sym (append-nil old.journal)
adds_its old new event rs w woken (Full n r needed left) s = ap (λ (z : Run). z.journal) s.4 ∙ sym (append-nil old.journal)
adds_its old new event rs w woken Committed s = s.2.journal

pub keeps_end : (old new : Run) (event : Event) (rs : List Reading) (w : ℕ) (woken : List NodeId) (a : Answer) → Commits old new event rs w woken a → or_else old.full new.full ≡ new.full
keeps_end old new event rs w woken (Ended e) s = ap (λ (z : Run). or_else old.full z.full) s.1 ∙ (or_else_itself old.full ∙ sym (ap (λ (z : Run). z.full) s.1))
keeps_end old new event rs w woken Passive s = ap (λ (z : Run). or_else old.full z.full) s.2 ∙ (or_else_itself old.full ∙ sym (ap (λ (z : Run). z.full) s.2))
keeps_end old new event rs w woken (Stale m was now) s = ap (λ (z : Run). or_else old.full z.full) s.2 ∙ (or_else_itself old.full ∙ sym (ap (λ (z : Run). z.full) s.2))
keeps_end old new event rs w woken (Full n r needed left) s = ap (λ (z : Option End). or_else z new.full) s.0.none.0
keeps_end old new event rs w woken Committed s = ap (or_else old.full) s.2.full ∙ (or_else_itself old.full ∙ sym s.2.full)

pub keeps_base : (old new : Run) (event : Event) (rs : List Reading) (w : ℕ) (woken : List NodeId) (a : Answer) → Commits old new event rs w woken a → (new.program ≡ old.program) × (new.limits ≡ old.limits)
keeps_base old new event rs w woken (Ended e) s = (ap (λ (z : Run). z.program) s.1, ap (λ (z : Run). z.limits) s.1)
keeps_base old new event rs w woken Passive s = (ap (λ (z : Run). z.program) s.2, ap (λ (z : Run). z.limits) s.2)
keeps_base old new event rs w woken (Stale m was now) s = (ap (λ (z : Run). z.program) s.2, ap (λ (z : Run). z.limits) s.2)
keeps_base old new event rs w woken (Full n r needed left) s = (ap (λ (z : Run). z.program) s.4, ap (λ (z : Run). z.limits) s.4)
keeps_base old new event rs w woken Committed s = (s.2.program, s.2.limits)

-- the state stands at the gives that the seat has then seen
pub stands_on : (p : Program) (limits : Limits) (gs after : List Give) (old new : Run) (event : Event) (rs : List Reading) (w : ℕ) (woken : List NodeId) (a : Answer) → IsStateAt p limits gs old → IsCourse new → after ≡ gs ++ give (entry_by a w event) new.full ∷ []
    → Commits old new event rs w woken a → IsStateAt p limits after new
stands_on p limits gs after old new event rs w woken a at course is s = let base = keeps_base old new event rs w woken a s in record {
  course = course;
  program = base.0 ∙ at.program;
  limited = base.1 ∙ at.limited;
  entries = adds_its old new event rs w woken a s ∙ (ap (λ (z : List Entry). z ++ listed (entry_by a w event)) at.entries ∙ sym (ap entries_of is ∙ entries_of-snoc gs (give (entry_by a w event) new.full)));
  end = sym (keeps_end old new event rs w woken a s) ∙ (ap (λ (z : Option End). or_else z new.full) at.end ∙ sym (ap end_of is ∙ end_of-snoc gs (give (entry_by a w event) new.full)));
}

pub by_own : (k : ℕ) (a : Answer) (event : Event) → by_worker k (listed (entry_by a k event)) ≡ listed (entry_by a k event)
by_own k (Ended e) event = refl
by_own k Passive event = refl
by_own k (Stale m was now) event = refl
by_own k (Full n r needed left) event = refl
by_own k Committed event = let q = eq-eqb k k refl in rw q refl

pub mine_grows : (k w : ℕ) (gs : List Give) (e : Option Entry) (full : Option End) (a : Answer) (event : Event) → w ≡ k → e ≡ entry_by a w event
    → by_worker k (entries_of (gs ++ give e full ∷ [])) ≡ by_worker k (entries_of gs) ++ listed (entry_by a w event)
mine_grows k w gs e full a event same is = ap (by_worker k) (entries_of-snoc gs (give e full)) ∙ (by_worker-append k (entries_of gs) (listed e)
    ∙ ap (λ (l : List Entry). by_worker k (entries_of gs) ++ l) (ap (λ (z : Option Entry). by_worker k (listed z)) is ∙ subst (λ (z : ℕ). by_worker z (listed (entry_by a w event)) ≡ listed (entry_by a w event)) same (by_own w a event)))

-- what is kept of a number is kept of a seat with that number
kept_of_some : (k : ℕ) (js : List Joined) → kept_by k js ≢ [] → (j : Joined) × Contains js j × (j.number ≡ k)
kept_of_some k [] some = absurd (some refl)
kept_of_some k (j ∷ js) some = dite (ℕ_discrete j.number k)
    (λ is. (j, (0, omega arith, refl), is))
    (λ not. let q = ne_eqb j.number k not in let less : kept_by k (j ∷ js) ≡ kept_by k js = (rw q refl) in let h = kept_of_some k js (λ e. some (less ∙ e)) in (h.0, (suc h.1.0, (let l = h.1.1 in omega arith), h.1.2), h.2))

filtered : (k : ℕ) (x : Entry) (xs : List Entry) → x.worker ≡ k → by_worker k (x ∷ xs) ≡ x ∷ by_worker k xs
filtered k x xs is = let q = eq-eqb x.worker k is in rw q refl

passed : (k : ℕ) (x : Entry) (xs : List Entry) → x.worker ≢ k → by_worker k (x ∷ xs) ≡ by_worker k xs
passed k x xs not = let q = ne_eqb x.worker k not in rw q refl

-- an entry is one of those of its number
some_by : (e : Entry) (xs : List Entry) (i : ℕ) → i < length xs → slice_index_or xs i e ≡ e → by_worker e.worker xs ≢ []
some_by e [] i lt at = absurd (omega arith)
some_by e (x ∷ xs) zero lt at = λ none_there. let p : x ∷ by_worker e.worker xs ≡ [] = sym (filtered e.worker x xs (ap (λ (z : Entry). z.worker) at)) ∙ none_there in absurd (cc)
some_by e (x ∷ xs) (suc i) lt at = dite (ℕ_discrete x.worker e.worker)
    (λ is. λ none_there. let p : x ∷ by_worker e.worker xs ≡ [] = sym (filtered e.worker x xs is) ∙ none_there in absurd (cc))
    (λ not. λ none_there. some_by e xs i (omega arith) at (sym (passed e.worker x xs not) ∙ none_there))

pub all_signed : (js : List Joined) (es : List Entry) → ((k : ℕ) → by_worker k es ≡ kept_by k js) → All (IsSigned js) es
all_signed js es same = All-weaker (Contains es) (IsSigned js) (λ e c. kept_of_some e.worker js (λ none_there. some_by e es c.0 c.1 c.2 (same e.worker ∙ none_there))) es (All-contains_itself es)

pub begins : (gs : List Give) (es : List Entry) (front : List Give) → es ≡ entries_of gs → StartsWith gs front → StartsWith es (entries_of front)
begins gs es front is b = (entries_of b.0, is ∙ (ap entries_of b.1 ∙ entries_of-append front b.0))
