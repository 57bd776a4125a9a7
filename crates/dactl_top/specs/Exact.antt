-- What an input that is there whole must be answered: each answer comes also wherever its cause holds.
use Rattle.std.specs.Prelude.{◌≡◌, List, ℕ, true, false, Ok}
use Rattle.dactl_base.specs.declared.refusal.Refusal.{Refusal}
use Rattle.dactl_model.specs.declared.graph.Entry.{Entry}
use Rattle.dactl_model.specs.declared.program.Program.{Program}
use Rattle.dactl_resume.specs.Answers.{IsBadAt}
use Rattle.dactl_settings.specs.declared.settings.Settings.{Settings}
use Rattle.dactl_settings.specs.Reading.{settings_of}
use Rattle.dactl_verify.specs.declared.verdict.Verdict.{Verdict}
use Rattle.dactl_verify.specs.Verdicts.{IsVerdict}
use Rattle.dactl_top.specs.declared.status.Status.{Status}
use Rattle.dactl_top.specs.declared.status.Status.TheVariants.{Usage, ReadFault, WriteFault, Memory, TooLong, NoPart, Checked, Refused, Small, BadGraph}
use Rattle.dactl_top.specs.Compiling.{IsProgramBy, IsFaultBy}
use Rattle.dactl_top.specs.Parts.{marker_of, LacksPart, HasPart, Runs}
use Rattle.dactl_top.specs.Running.{limits_of, IsTooSmall, IsFitting}
use Rattle.dactl_top.specs.Outcomes.{room_for, status_of_verdict}
use Rattle.dactl_top.specs.Calls.{Call}
use Rattle.dactl_top.specs.Headline.{IsOfRun}

-- an answer to what the input says: the words were settings, the input was read whole, there was memory, and no write failed
abbrev pub IsOfText : Status → Type 0
IsOfText Usage = ⊥
IsOfText ReadFault = ⊥
IsOfText TooLong = ⊥
IsOfText WriteFault = ⊥
IsOfText Memory = ⊥
IsOfText _ = Unit {0}

-- Under the settings an input without the marker line that they ask for lacks a part. Else a text part with a fault is refused; a program is
-- checked, where that is asked for; or a trace is checked against it; or the graph from which it is to go on is bad; or its first graph does not
-- fit; or it runs.
pub record IsExactUnder (s : Settings) (call : Call) : Type 0 where
  pub no_part : LacksPart (marker_of s) call.kept.text.items → call.answer ≡ NoPart
  pub refused : (rest : List ℕ) (r : Refusal) → HasPart s call.kept.text.items rest (λ text. IsFaultBy s.fun text r) → call.answer ≡ Refused
  pub checked : (rest : List ℕ) (p : Program) → s.check ≡ true → HasPart s call.kept.text.items rest (λ text. IsProgramBy s.fun text p) → call.answer ≡ Checked
  pub judged : (rest : List ℕ) (p : Program) (verdict : Verdict) (journal : List Entry) → s.check ≡ false → s.verify ≡ true
      → HasPart s call.kept.text.items rest (λ text. IsProgramBy s.fun text p) → IsVerdict p rest (room_for s) journal verdict → call.answer ≡ status_of_verdict verdict
  pub bad_graph : (rest : List ℕ) (p : Program) (line : ℕ) → s.check ≡ false → s.resume ≡ true → HasPart s call.kept.text.items rest (λ text. IsProgramBy s.fun text p) → IsBadAt p rest line
      → call.answer ≡ BadGraph
  pub small : (p : Program) → s.check ≡ false → Runs (IsProgramBy s.fun) s call.kept.text.items p → IsTooSmall (limits_of s) p → call.answer ≡ Small
  pub runs : (p : Program) → s.check ≡ false → s.verify ≡ false → Runs (IsProgramBy s.fun) s call.kept.text.items p → IsFitting (limits_of s) p → IsOfRun call.answer

-- so it is under the settings of the words
abbrev pub IsExact : Call → Type 0
IsExact call = (s : Settings) → settings_of call.words ≡ Ok s → IsExactUnder s call
