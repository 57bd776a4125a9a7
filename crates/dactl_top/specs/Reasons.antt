-- Why each answer comes, and what is kept whatever the answer.
use Rattle.std.specs.Prelude.{◌≡◌, ℕ, ◌<◌, ◌⊎◌, List, [], length, true, false, Some, None, Ok, IsErr}
use Rattle.dactl_base.specs.declared.refusal.Refusal.{Refusal}
use Rattle.dactl_model.specs.declared.graph.Graph.{Graph}
use Rattle.dactl_model.specs.declared.graph.End.{End}
use Rattle.dactl_model.specs.declared.graph.NodeId.{NodeId}
use Rattle.dactl_model.specs.declared.graph.Room.{Room}
use Rattle.dactl_model.specs.declared.program.Program.{Program}
use Rattle.dactl_resume.specs.Answers.{IsBadAt}
use Rattle.dactl_settings.specs.declared.settings.Settings.{Settings}
use Rattle.dactl_settings.specs.Reading.{settings_of}
use Rattle.dactl_verify.specs.declared.verdict.Verdict.{Verdict}
use Rattle.dactl_verify.specs.declared.verdict.Verdict.TheVariants as verdicts
use Rattle.dactl_verify.specs.Verdicts.{IsVerdict}
use Rattle.dactl_top.specs.declared.kept.Kept.{Kept}
use Rattle.dactl_top.specs.declared.status.Status.{Status}
use Rattle.dactl_top.specs.declared.status.Status.TheVariants.{Usage, Refused, Checked, Small, ReadFault, WriteFault, Memory, TooLong, Verified, Invalid, NoPart, BadGraph, NoRoom}
use Rattle.dactl_top.specs.Compiling.{MeansBy, MeansFaultBy}
use Rattle.dactl_top.specs.Devices.{IsUnread}
use Rattle.dactl_top.specs.Given.{HasText, HasUsage, HasReadFault, HasLongText}
use Rattle.dactl_top.specs.Input.{longest}
use Rattle.dactl_top.specs.Calls.{Call, given_of}
use Rattle.dactl_top.specs.Parts.{marker_of, LacksPart, HasPart, Runs}
use Rattle.dactl_top.specs.Outcomes.{room_for, status_of_end}
use Rattle.dactl_top.specs.Running.{limits_of, IsTooSmall, IsRun}

-- the answer is this one, unless memory was wanting or a write failed
abbrev pub IsUnlessWanting : Status → Status → Type 0
IsUnlessWanting due answer = (answer ≡ due) ⊎ ((answer ≡ WriteFault) ⊎ (answer ≡ Memory))

-- the refusal is the first fault of the text part
abbrev pub HasFault : Settings → Kept → Refusal → Type 0
HasFault s kept r = (rest : List ℕ) × HasPart s kept.text.items rest (λ text. MeansFaultBy s.fun text r)

-- it is kept
abbrev pub KeepsRefusal : Settings → Kept → Type 0
KeepsRefusal s kept = (r : Refusal) × (kept.refusal ≡ Some r) × HasFault s kept r

-- the kept program is what the text part means, and it is so beside the rest
abbrev pub KeepsMeant : Settings → Kept → (Program → List ℕ → Type 0) → Type 0
KeepsMeant s kept Is = (p : Program) × (rest : List ℕ) × (kept.program ≡ Some p) × HasPart s kept.text.items rest (λ text. MeansBy s.fun text p) × Is p rest

-- the kept program is what the text part means, and this line of the rest is bad as one of a printed graph of it
abbrev pub KeepsBadGraph : Settings → Kept → Type 0
KeepsBadGraph s kept = (s.check ≡ false) × (s.resume ≡ true) × (line : ℕ) × KeepsMeant s kept (λ p rest. IsBadAt p rest line)

-- the kept program is what the text part means, or the one that the input is to run
abbrev pub IsKeptProgram : Settings → List ℕ → Program → Type 0
IsKeptProgram s input p = ((rest : List ℕ) × HasPart s input rest (λ text. MeansBy s.fun text p)) ⊎ Runs (MeansBy s.fun) s input p

-- the kept program is the one that the input is to run, and it is so
abbrev pub KeepsProgram : Settings → Kept → (Program → Type 0) → Type 0
KeepsProgram s kept Is = (p : Program) × (kept.program ≡ Some p) × Runs (MeansBy s.fun) s kept.text.items p × Is p

-- the rest was checked as a trace of the kept program. This was found, and the kept journal is that of the lines before
pub record KeepsVerdict (s : Settings) (kept : Kept) (verdict : Verdict) : Type 0 where
  pub check : s.check ≡ false
  pub asked : s.verify ≡ true
  pub fresh : s.resume ≡ false
  pub keeps : KeepsMeant s kept (λ p rest. IsVerdict p rest (room_for s) kept.journal.items verdict)
  pub no_end : kept.end ≡ None

-- its line was wrong
abbrev pub KeepsWrong : Settings → Kept → Type 0
KeepsWrong s kept = (line : ℕ) × KeepsVerdict s kept (verdicts.Wrong line)

-- its line was right, and did not fit
abbrev pub KeepsOverfull : Settings → Kept → Type 0
KeepsOverfull s kept = (line : ℕ) × (n : NodeId) × (r : ℕ) × (needed : Room) × (left : Room) × KeepsVerdict s kept (verdicts.Full line n r needed left)

-- why each answer comes that tells no run, and that usage and too long come wherever they are due
pub record IsCaused (call : Call) : Type 0 where
  pub usage : call.answer ≡ Usage → HasUsage (given_of call)
  pub only_usage : IsErr (settings_of call.words) → IsUnlessWanting Usage call.answer
  pub read_fault : call.answer ≡ ReadFault → HasReadFault (given_of call)
  pub too_long : call.answer ≡ TooLong → HasLongText (given_of call)
  pub only_too_long : (s : Settings) → settings_of call.words ≡ Ok s → s.sample ≡ None → longest < length call.kept.text.items → IsUnlessWanting TooLong call.answer
  pub refused : call.answer ≡ Refused → HasText (given_of call) (λ s. KeepsRefusal s call.kept)
  pub checked : call.answer ≡ Checked → HasText (given_of call) (λ s. KeepsMeant s call.kept (λ p rest. s.check ≡ true))
  pub small : call.answer ≡ Small → HasText (given_of call) (λ s. KeepsProgram s call.kept (λ p. (s.check ≡ false) × IsTooSmall (limits_of s) p))
  pub bad_graph : call.answer ≡ BadGraph → HasText (given_of call) (λ s. KeepsBadGraph s call.kept)
  pub no_part : call.answer ≡ NoPart → HasText (given_of call) (λ s. LacksPart (marker_of s) call.kept.text.items)
  pub verified : call.answer ≡ Verified → HasText (given_of call) (λ s. KeepsVerdict s call.kept verdicts.Valid)
  pub invalid : call.answer ≡ Invalid → HasText (given_of call) (λ s. KeepsWrong s call.kept)
  pub no_room : call.answer ≡ NoRoom → HasText (given_of call) (λ s. KeepsOverfull s call.kept)

-- the kept run is one of the kept program, to this end
abbrev pub KeepsRun : Settings → Kept → End → Type 0
KeepsRun s kept ended = KeepsProgram s kept (λ p. (g : Graph) × IsRun (limits_of s) s.workers p kept.journal.items g ended kept.reports.items kept.left)

-- nothing is kept of a run
abbrev pub KeepsNoRun : Kept → Type 0
KeepsNoRun kept = (kept.reports.items ≡ []) × (kept.left ≡ 0)

-- memory was wanting, and nothing is kept of what the text says
pub record KeepsNothing (kept : Kept) : Type 0 where
  pub program : kept.program ≡ None
  pub refusal : kept.refusal ≡ None
  pub journal : kept.journal.items ≡ []
  pub no_end : kept.end ≡ None

-- what is kept is so whatever the answer, and whether or not a write failed; where the sample text is asked for, the source is not read
pub record KeepsFaith (call : Call) : Type 0 where
  pub program : (p : Program) → call.kept.program ≡ Some p → HasText (given_of call) (λ s. IsKeptProgram s call.kept.text.items p)
  pub refusal : (r : Refusal) → call.kept.refusal ≡ Some r → HasText (given_of call) (λ s. HasFault s call.kept r)
  pub run : (e : End) → call.kept.end ≡ Some e → HasText (given_of call) (λ s. KeepsRun s call.kept e)
  pub no_run : call.kept.end ≡ None → KeepsNoRun call.kept
  pub checked : call.kept.end ≡ None → (call.kept.journal.items ≡ []) ⊎ HasText (given_of call) (λ s. (verdict : Verdict) × KeepsVerdict s call.kept verdict)
  pub ended : (e : End) → call.kept.end ≡ Some e → (call.answer ≡ status_of_end e) ⊎ (call.answer ≡ WriteFault)
  pub wanting : call.answer ≡ Memory → KeepsNothing call.kept
  pub sample : (s : Settings) (count : ℕ) → settings_of call.words ≡ Ok s → s.sample ≡ Some count → IsUnread call.source
