-- The entries that were checked, one more after another.
use Rattle.std.proofs.Common.{◌≡◌, ℕ, ◌+◌, ◌≤◌, List, [], ◌∷◌, ◌++◌, length, take, refl, ap, sym, ◌∙◌, subst, arith, append_assoc, length-append}
use mathlib.Core.Logic.{dite}
use Rattle.std.proofs.Math.Decide.{dec_le}
use Rattle.std.proofs.Math.Nat.{lt_of_not-le}
use Rattle.std.proofs.Math.Seq.{take-nil}
use Rattle.std.proofs.lemmas.List.{append-nil, take-append-le, take_all}
use Rattle.std.proofs.lemmas.List.Elements.{All-push}
use Rattle.dactl_model.specs.declared.graph.Graph.{Graph}
use Rattle.dactl_model.specs.declared.graph.Entry.{Entry}
use Rattle.dactl_model.specs.declared.graph.Room.{Room}
use Rattle.dactl_model.specs.declared.program.Program.{Program}
use Rattle.dactl_model.specs.Programs.{IsValid}
use Rattle.dactl_model.specs.Firing.{start_of}
use Rattle.dactl_model.specs.Steps.{Step, Reduction}
use Rattle.dactl_model.proofs.KeptFire.{begins_well_formed}
use Rattle.dactl_model.proofs.Reductions.{Reduction-push, same_reduction}
use Rattle.dactl_print.specs.Texts.{entry_line, entry_lines, trace_lines}
use Rattle.dactl_verify.specs.Lines.{IsWorker, IsLineOf}
use Rattle.dactl_verify.specs.Rooms.{FitsRoom}
use Rattle.dactl_verify.specs.Verdicts.{IsChecked, IsFront}

entry_lines-push : (n : ℕ) (journal : List Entry) (entry : Entry) → entry_lines n (journal ++ entry ∷ []) ≡ entry_lines n journal ++ entry_line (n + length journal) entry
entry_lines-push n [] entry =
    let same : n ≡ n + 0 = omega arith in
    append-nil (entry_line n entry) ∙ ap (λ (k : ℕ). entry_line k entry) same
entry_lines-push n (first ∷ journal) entry =
    let same : n + 1 + length journal ≡ n + length (first ∷ journal) = omega arith in
    ap (λ (t : List ℕ). entry_line n first ++ t) (entry_lines-push (n + 1) journal entry)
    ∙ sym (append_assoc (entry_line n first) (entry_lines (n + 1) journal) (entry_line (n + 1 + length journal) entry))
    ∙ ap (λ (k : ℕ). entry_lines n (first ∷ journal) ++ entry_line k entry) same

-- one more line
trace_more : (trace rest behind : List ℕ) (journal : List Entry) (entry : Entry) → trace ≡ trace_lines journal ++ rest → rest ≡ entry_line (length journal + 1) entry ++ behind
    → trace ≡ trace_lines (journal ++ entry ∷ []) ++ behind
trace_more trace rest behind journal entry lines next =
    let number : length journal + 1 ≡ 1 + length journal = omega arith in
    let line : rest ≡ entry_line (1 + length journal) entry ++ behind = subst (λ (k : ℕ). rest ≡ entry_line k entry ++ behind) number next in
    lines ∙ ap (λ (t : List ℕ). trace_lines journal ++ t) line ∙ sym (append_assoc (trace_lines journal) (entry_line (1 + length journal) entry) behind)
    ∙ ap (λ (t : List ℕ). t ++ behind) (sym (entry_lines-push 1 journal entry))

-- nothing is checked yet
pub begun : (p : Program) (trace : List ℕ) (room : Room) → FitsRoom room (start_of p.start) → IsChecked p trace room [] (start_of p.start) trace
begun p trace room fits = record {
  lines = refl;
  workers = λ k d below. absurd (omega arith);
  run = refl;
  fit = λ k h run. let same : h ≡ start_of p.start = subst (λ (js : List Entry). Reduction p (start_of p.start) js h) (take-nil k) run in subst (FitsRoom room) (sym same) fits;
}

-- so at the start
pub begun_at : (p : Program) (trace : List ℕ) (room : Room) (journal : List Entry) (g : Graph) → journal ≡ [] → g ≡ start_of p.start → FitsRoom room (start_of p.start) → IsChecked p trace room journal g trace
begun_at p trace room journal g none is fits =
    subst (λ (js : List Entry). IsChecked p trace room js g trace) (sym none) (subst (λ (x : Graph). IsChecked p trace room [] x trace) (sym is) (begun p trace room fits))

pub front_begun : (p : Program) (trace : List ℕ) (room : Room) (journal : List Entry) → journal ≡ [] → FitsRoom room (start_of p.start) → IsFront p trace room journal
front_begun p trace room journal none fits = (start_of p.start, trace, begun_at p trace room journal (start_of p.start) none refl fits)

-- each graph on the way to the next one fits, and so does that
fit_more : (p : Program) (room : Room) (journal : List Entry) (entry : Entry) (after : Graph) → IsValid p → Reduction p (start_of p.start) (journal ++ entry ∷ []) after → FitsRoom room after
    → ((k : ℕ) (h : Graph) → Reduction p (start_of p.start) (take k journal) h → FitsRoom room h)
    → (k : ℕ) (h : Graph) → Reduction p (start_of p.start) (take k (journal ++ entry ∷ [])) h → FitsRoom room h
fit_more p room journal entry after valid whole fits before k h run =
    dite (dec_le k (length journal))
    (λ le. before k h (subst (λ (js : List Entry). Reduction p (start_of p.start) js h) (take-append-le k journal (entry ∷ []) le) run))
    (λ n.
    let past : length (journal ++ entry ∷ []) ≤ k = let above = lt_of_not-le n in omega (arith, length-append journal (entry ∷ [])) in
    let all = subst (λ (js : List Entry). Reduction p (start_of p.start) js h) (take_all k (journal ++ entry ∷ []) past) run in
    let same : h ≡ after = same_reduction p (start_of p.start) h after (journal ++ entry ∷ []) valid (begins_well_formed p valid) all whole in
    subst (FitsRoom room) (sym same) fits)

-- one more entry
pub checked_more : (p : Program) (trace : List ℕ) (room : Room) (journal : List Entry) (g : Graph) (rest line behind : List ℕ) (entry : Entry) (after : Graph) → IsValid p
    → IsChecked p trace room journal g rest → rest ≡ line ++ behind → IsLineOf (length journal + 1) entry line → Step p g entry.event after → FitsRoom room after
    → IsChecked p trace room (journal ++ entry ∷ []) after behind
checked_more p trace room journal g rest line behind entry after valid checked split told step fits =
    let whole = Reduction-push p (start_of p.start) g after journal entry checked.run step in
    record {
      lines = trace_more trace rest behind journal entry checked.lines (split ∙ ap (λ (t : List ℕ). t ++ behind) told.text);
      workers = All-push (λ (e : Entry). IsWorker e.worker) journal entry checked.workers told.worker;
      run = whole;
      fit = fit_more p room journal entry after valid whole fits checked.fit;
    }
