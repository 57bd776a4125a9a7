-- What comes of a call before it is told: why, what is kept of it, and what is due to be written.
use Rattle.std.specs.Prelude.{◌≡◌, ℕ, ◌*◌, ◌≤◌, ◌⊎◌, Bool, true, false, List, [], ◌++◌, codes, length, None, Some}
use Rattle.std.specs.declared.option.Option.{Option}
use Rattle.dactl_base.specs.declared.refusal.Refusal.{Refusal}
use Rattle.dactl_model.specs.declared.graph.Entry.{Entry}
use Rattle.dactl_model.specs.declared.graph.Room.{Room}
use Rattle.dactl_model.specs.declared.graph.End.{End}
use Rattle.dactl_model.specs.declared.graph.End.TheVariants as end
use Rattle.dactl_model.specs.declared.program.Program.{Program}
use Rattle.dactl_model.specs.Programs.{IsValid}
use Rattle.dactl_print.specs.Texts.{end_line, trace_lines}
use Rattle.dactl_print.specs.Lines.{IsGraphText}
use Rattle.dactl_resume.specs.Answers.{IsBadAt}
use Rattle.dactl_settings.specs.declared.settings.Settings.{Settings}
use Rattle.dactl_verify.specs.declared.verdict.Verdict.{Verdict}
use Rattle.dactl_verify.specs.declared.verdict.Verdict.TheVariants as verdicts
use Rattle.dactl_verify.specs.Verdicts.{IsVerdict}
use Rattle.dactl_workers.specs.declared.report.WorkerReport.{WorkerReport}
use Rattle.dactl_top.specs.declared.kept.Kept.{Kept}
use Rattle.dactl_top.specs.declared.status.Status.{Status}
use Rattle.dactl_top.specs.declared.status.Status.TheVariants as status
use Rattle.dactl_crew.specs.declared.ended.EndedRun.{EndedRun}
use Rattle.dactl_top.specs.declared.outcome.Outcome.{Outcome}
use Rattle.dactl_top.specs.declared.outcome.Outcome.TheVariants.{Usage, ReadFault, TooLong, Memory, NoPart, Refused, Checked, BadGraph, Small, Judged, Ran}
use Rattle.dactl_top.specs.Compiling.{MeansBy, MeansFaultBy}
use Rattle.dactl_top.specs.Devices.{SinkChange, Took, IsCutShort}
use Rattle.dactl_top.specs.Given.{Given, HasUsage, HasReadFault, HasLongText, HasMemory, HasText}
use Rattle.dactl_top.specs.Input.{longest}
use Rattle.dactl_top.specs.Lines.{small_line, refused_line, bad_graph_line, verdict_line}
use Rattle.dactl_top.specs.Parts.{marker_of, LacksPart, HasPart, Runs}
use Rattle.dactl_top.specs.Running.{limits_of, start_room, IsTooSmall, IsRun}

-- ---- why it comes

-- the program is what the text part of the input means, and this is the rest
pub record IsMeant (s : Settings) (input rest : List ℕ) (p : Program) : Type 0 where
  pub means : HasPart s input rest (λ text. MeansBy s.fun text p)
  pub valid : IsValid p

-- the input is to run this program
pub record IsToRun (s : Settings) (input : List ℕ) (p : Program) : Type 0 where
  pub runs : Runs (MeansBy s.fun) s input p
  pub sound : IsValid runs.meant
  pub valid : IsValid p

-- the room in which a trace is checked: so many nodes, and four arcs for each
abbrev pub room_for : Settings → Room
room_for s = record { nodes = s.nodes; arcs = 4 * s.nodes }

-- the rest of the input was checked as a trace of its text part's program, and this was found
pub record HasVerdict (s : Settings) (input : List ℕ) (p : Program) (verdict : Verdict) (journal : List Entry) : Type 0 where
  pub check : s.check ≡ false
  pub asked : s.verify ≡ true
  pub fresh : s.resume ≡ false
  pub rest : List ℕ
  pub meant : IsMeant s input rest p
  pub found : IsVerdict p rest (room_for s) journal verdict
  pub short : length rest ≤ longest
  pub few : s.nodes ≤ 2000000

-- the program of the input ran so
pub record HasRun (s : Settings) (input : List ℕ) (r : EndedRun) (trace : Bool) : Type 0 where
  pub check : s.check ≡ false
  pub unasked : s.verify ≡ false
  pub meant : IsToRun s input r.program
  pub run : IsRun (limits_of s) s.workers r.program r.journal.items r.store.graph r.ended r.reports.items r.left
  pub traced : trace ≡ s.trace

-- the text part of the input has this first fault
abbrev pub IsRefused : Settings → List ℕ → Refusal → Type 0
IsRefused s input refusal = (rest : List ℕ) × HasPart s input rest (λ text. MeansFaultBy s.fun text refusal)

-- the text part of the input is a program, and was only to be checked
pub record HasChecked (s : Settings) (input : List ℕ) (p : Program) : Type 0 where
  pub check : s.check ≡ true
  pub rest : List ℕ
  pub meant : IsMeant s input rest p

-- the input is to run a program whose first graph does not fit
pub record HasSmall (s : Settings) (input : List ℕ) (p : Program) : Type 0 where
  pub check : s.check ≡ false
  pub unasked : s.verify ≡ false
  pub meant : IsToRun s input p
  pub above : IsTooSmall (limits_of s) p

-- a line of the rest is bad as one of a printed graph of the text part's program
pub record HasBadGraph (s : Settings) (input : List ℕ) (p : Program) (bad : ℕ) : Type 0 where
  pub check : s.check ≡ false
  pub asked : s.resume ≡ true
  pub unasked : s.verify ≡ false
  pub rest : List ℕ
  pub meant : IsMeant s input rest p
  pub is_bad : IsBadAt p rest bad

-- what comes of an input that is there whole
abbrev pub ComesOf : Settings → List ℕ → Outcome → Type 0
ComesOf s input NoPart = LacksPart (marker_of s) input
ComesOf s input (Refused refusal line) = IsRefused s input refusal
ComesOf s input (Checked p) = HasChecked s input p
ComesOf s input (BadGraph p bad line) = HasBadGraph s input p bad
ComesOf s input (Small p line) = HasSmall s input p
ComesOf s input (Judged p verdict journal line) = HasVerdict s input p verdict journal.items
ComesOf s input (Ran run trace numbering) = HasRun s input run trace
ComesOf s input Memory = Unit {0}
ComesOf s input _ = ⊥

-- why an outcome comes
abbrev pub HasCause : Given → Outcome → Type 0
HasCause given Usage = HasUsage given
HasCause given ReadFault = HasReadFault given
HasCause given TooLong = HasLongText given
HasCause given Memory = HasMemory given
HasCause given outcome = HasText given (λ s. ComesOf s given.text outcome)

-- ---- what is kept of it

abbrev pub refusal_in : Outcome → Option Refusal
refusal_in (Refused refusal line) = Some refusal
refusal_in _ = None

abbrev pub program_in : Outcome → Option Program
program_in (Checked p) = Some p
program_in (BadGraph p bad line) = Some p
program_in (Small p line) = Some p
program_in (Judged p verdict journal line) = Some p
program_in (Ran run trace numbering) = Some run.program
program_in _ = None

abbrev pub journal_in : Outcome → List Entry
journal_in (Judged p verdict journal line) = journal.items
journal_in (Ran run trace numbering) = run.journal.items
journal_in _ = []

abbrev pub end_in : Outcome → Option End
end_in (Ran run trace numbering) = Some run.ended
end_in _ = None

abbrev pub reports_in : Outcome → List WorkerReport
reports_in (Ran run trace numbering) = run.reports.items
reports_in _ = []

abbrev pub left_in : Outcome → ℕ
left_in (Ran run trace numbering) = run.left
left_in _ = 0

-- what an outcome leaves, beside the settings and the text
pub record IsKept (outcome : Outcome) (kept : Kept) : Type 0 where
  pub refusal : kept.refusal ≡ refusal_in outcome
  pub program : kept.program ≡ program_in outcome
  pub journal : kept.journal.items ≡ journal_in outcome
  pub ended : kept.end ≡ end_in outcome
  pub reports : kept.reports.items ≡ reports_in outcome
  pub left : kept.left ≡ left_in outcome

-- the settings and the text are as before
pub record SameGiven (old new : Kept) : Type 0 where
  pub settings : new.settings ≡ old.settings
  pub text : new.text ≡ old.text

-- ---- what tells it

-- the answer that tells an end
abbrev pub status_of_end : End → Status
status_of_end end.Normal = status.Normal
status_of_end end.Budget = status.Budget
status_of_end (end.Full node rule needed left) = status.Full

-- the answer that tells what the check of a trace found
abbrev pub status_of_verdict : Verdict → Status
status_of_verdict verdicts.Valid = status.Verified
status_of_verdict (verdicts.Wrong line) = status.Invalid
status_of_verdict (verdicts.Full line node rule needed left) = status.NoRoom
status_of_verdict (verdicts.Small needed left) = status.Small

-- the answer that tells an outcome
abbrev pub status_of : Outcome → Status
status_of Usage = status.Usage
status_of ReadFault = status.ReadFault
status_of TooLong = status.TooLong
status_of Memory = status.Memory
status_of NoPart = status.NoPart
status_of (Refused refusal line) = status.Refused
status_of (Checked p) = status.Checked
status_of (BadGraph p bad line) = status.BadGraph
status_of (Small p line) = status.Small
status_of (Judged p verdict journal line) = status_of_verdict verdict
status_of (Ran run trace numbering) = status_of_end run.ended

-- the trace, where it is asked for
abbrev pub trace_if : Bool → List Entry → List ℕ
trace_if false journal = []
trace_if true journal = trace_lines journal

-- how a run ended, its trace where one is asked for, and this text of its last graph
abbrev pub run_text : EndedRun → Bool → List ℕ → List ℕ
run_text run trace text = end_line run.ended (length run.journal.items) ++ trace_if trace run.journal.items ++ text

-- the bytes that are due for an outcome
abbrev pub IsDue : Outcome → List ℕ → Type 0
IsDue Usage due = due ≡ codes "usage: dactl [OPTIONS] < TEXT\n"
IsDue ReadFault due = due ≡ codes "read fault\n"
IsDue TooLong due = due ≡ codes "too long\n"
IsDue Memory due = due ≡ codes "memory\n"
IsDue NoPart due = due ≡ codes "missing part\n"
IsDue (Refused refusal line) due = due ≡ refused_line refusal
IsDue (Checked p) due = due ≡ codes "ok\n"
IsDue (BadGraph p bad line) due = due ≡ bad_graph_line bad
IsDue (Small p line) due = due ≡ small_line (start_room p)
IsDue (Judged p verdict journal line) due = due ≡ verdict_line verdict (length journal.items)
IsDue (Ran run trace numbering) due = (text : List ℕ) × IsGraphText run.program run.store.graph text × (due ≡ run_text run trace text)

-- the answer is this one and these bytes were written, or it is WriteFault and the sink failed with a front of them
abbrev pub Gives : SinkChange → List ℕ → Status → Status → Type 0
Gives sink due wanted answer = ((answer ≡ wanted) × Took sink due) ⊎ ((answer ≡ status.WriteFault) × IsCutShort sink due)

-- the outcome was told, or a front of what was due for it
pub record IsTold (outcome : Outcome) (sink : SinkChange) (answer : Status) : Type 0 where
  pub due : List ℕ
  pub is_due : IsDue outcome due
  pub gives : Gives sink due (status_of outcome) answer
