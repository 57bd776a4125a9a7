-- What printing calls wrote, where nothing was gathered before and nothing is left.
use Rattle.std.proofs.Common.{◌≡◌, ℕ, Bool, List, [], ◌++◌, length, Result, Ok, Err, IsErr, sym, ap, ◌∙◌, subst, append-nil, append_assoc}
use Rattle.std.specs.Io.KnownBytes.{Appends}
use Rattle.dactl_base.specs.Bytes.{AppendsFront}
use Rattle.dactl_model.specs.declared.graph.End.{End}
use Rattle.dactl_model.specs.declared.graph.Entry.{Entry}
use Rattle.dactl_print.specs.Printing.{Prints}
use Rattle.dactl_print.specs.Texts.{end_line}
use Rattle.dactl_print.proofs.Pieces.{AppendsFront-more}
use Rattle.dactl_top.specs.Devices.{SinkChange, Writes}
use Rattle.dactl_top.specs.Outcomes.{trace_if}

-- all of it
pub writes_all : {S T E : Type 0} (sink : SinkChange) {g l xs : List ℕ} {u : S} (v : T) → g ≡ [] → l ≡ [] → Prints {T = S} {E = E} sink.held sink.held_after sink.faults sink.faults_after g l (Ok u) xs → Writes {T = T} {E = E} sink xs (Ok v)
writes_all sink {xs} v none empty p =
    let e : xs ≡ p.ok.handed ++ [] = ap (λ k. k ++ xs) (sym none) ∙ p.ok.split ∙ ap (λ k. p.ok.handed ++ k) empty in
    record { whole = subst (Appends sink.held sink.held_after) (sym (e ∙ append-nil p.ok.handed)) p.ok.grown; cut = tt }

-- a front of it, and of whatever was to follow
pub writes_front : {S T E : Type 0} (sink : SinkChange) {g l xs : List ℕ} {e : E} {r : Result T E} (ys : List ℕ) → IsErr r → g ≡ [] → Prints {T = S} {E = E} sink.held sink.held_after sink.faults sink.faults_after g l (Err e) xs → Writes {T = T} {E = E} sink (xs ++ ys) r
writes_front sink {r = Ok v} ys failed none p = cc
writes_front sink {xs} {r = Err f} ys failed none p = record {
  whole = tt;
  cut = record { front = AppendsFront-more sink.held sink.held_after [] xs ys (subst (λ k. AppendsFront sink.held sink.held_after (k ++ xs)) none p.front); rose = p.cause };
}

-- a front of it
pub writes_some : {S T E : Type 0} (sink : SinkChange) {g l xs : List ℕ} {e : E} {r : Result T E} → IsErr r → g ≡ [] → Prints {T = S} {E = E} sink.held sink.held_after sink.faults sink.faults_after g l (Err e) xs → Writes {T = T} {E = E} sink xs r
writes_some sink {r = Ok v} failed none p = cc
writes_some sink {xs} {r = Err f} failed none p = record { whole = tt; cut = record { front = subst (λ k. AppendsFront sink.held sink.held_after (k ++ xs)) none p.front; rose = p.cause } }

-- the same bytes
pub writes_same : {T E : Type 0} (sink : SinkChange) {xs ys : List ℕ} {r : Result T E} → xs ≡ ys → Writes {T = T} {E = E} sink xs r → Writes sink ys r
writes_same sink {r} e w = subst (λ k. Writes sink k r) e w

-- ---- the parts of a run's output, as they are told one after another

-- the parts, with nothing behind them
abbrev pub told : End → ℕ → Bool → List Entry → List ℕ → List ℕ
told ended count trace journal text = end_line ended count ++ trace_if trace journal ++ text

pub told_same : (ended : End) (trace : Bool) (text : List ℕ) (count : ℕ) (given journal : List Entry) → count ≡ length journal → given ≡ journal → told ended count trace given text ≡ told ended (length journal) trace journal text
told_same ended trace text count given journal is same = ap (λ (z : ℕ × List Entry). told ended z.0 trace z.1 text) (λ i. (is i, same i))

pub told_apart : (ended : End) (count : ℕ) (trace : Bool) (journal : List Entry) (text : List ℕ) → end_line ended count ++ (trace_if trace journal ++ text) ≡ told ended count trace journal text
told_apart ended count trace journal text = sym (append_assoc (end_line ended count) (trace_if trace journal) text)

pub told_flushed : (ended : End) (count : ℕ) (trace : Bool) (journal : List Entry) (text : List ℕ) → told ended count trace journal text ++ [] ≡ told ended count trace journal text
told_flushed ended count trace journal text = append-nil (told ended count trace journal text)
