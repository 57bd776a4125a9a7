-- What follows from how a call is answered: the headline, why each answer comes, and what is kept.
use Rattle.std.proofs.Common.{◌≡◌, ℕ, ◌<◌, Bool, List, [], ◌++◌, length, Some, None, Ok, true, false, IsErr, refl, sym, ap, ◌∙◌, subst, inl, inr, arith}
use Rattle.std.specs.Prelude.{◌⊎◌}
use Rattle.std.specs.declared.option.Option.{Option}
use Rattle.dactl_base.specs.declared.refusal.Refusal.{Refusal}
use Rattle.dactl_model.specs.declared.graph.Entry.{Entry}
use Rattle.dactl_model.specs.declared.graph.End.{End}
use Rattle.dactl_model.specs.declared.graph.Room.{Room}
use Rattle.dactl_model.specs.declared.graph.End.TheVariants as end
use Rattle.dactl_model.specs.declared.program.Program.{Program}
use Rattle.dactl_print.specs.Texts.{end_line}
use Rattle.dactl_settings.specs.declared.settings.Settings.{Settings}
use Rattle.dactl_settings.specs.Reading.{settings_of}
use Rattle.dactl_verify.specs.declared.verdict.Verdict.{Verdict}
use Rattle.dactl_verify.specs.declared.verdict.Verdict.TheVariants as verdicts
use Rattle.dactl_verify.specs.Rooms.{Exceeds, room_of}
use Rattle.dactl_verify.specs.Verdicts.{IsVerdict}
use Rattle.dactl_workers.specs.declared.report.WorkerReport.{WorkerReport}
use Rattle.dactl_top.specs.declared.kept.Kept.{Kept}
use Rattle.dactl_top.specs.declared.status.Status.{Status}
use Rattle.dactl_top.specs.declared.status.Status.TheVariants as status
use Rattle.dactl_crew.specs.declared.ended.EndedRun.{EndedRun}
use Rattle.dactl_top.specs.declared.outcome.Outcome.{Outcome}
use Rattle.dactl_top.specs.declared.outcome.Outcome.TheVariants.{Usage, ReadFault, TooLong, Memory, NoPart, Refused, Checked, BadGraph, Small, Judged, Ran}
use Rattle.dactl_top.specs.Devices.{SourceChange, SinkChange, Took, IsUnread}
use Rattle.dactl_top.specs.Given.{Given, given, HasSettings, IsText, HasText, HasUsage, HasReadFault, HasLongText}
use Rattle.dactl_top.specs.Input.{longest}
use Rattle.dactl_top.specs.Parts.{marker_of, LacksPart, IsStarted}
use Rattle.dactl_top.specs.Running.{limits_of, IsTooSmall, IsRun}
use Rattle.dactl_top.specs.Outcomes.{HasCause, HasVerdict, IsKept, IsTold, SameGiven, Gives, room_for, run_text, trace_if, status_of, status_of_end, status_of_verdict}
use Rattle.dactl_top.specs.Calls.{Call, call_of, IsAnswered, given_of}
use Rattle.dactl_top.specs.Headline.{IsOfRun, IsRunOfText}
use Rattle.dactl_top.specs.Reasons.{IsUnlessWanting, IsCaused, HasFault, KeepsRefusal, KeepsMeant, KeepsBadGraph, IsKeptProgram, KeepsProgram, KeepsVerdict, KeepsWrong, KeepsOverfull, KeepsRun, KeepsNoRun, KeepsNothing, KeepsFaith}
use Rattle.dactl_top.proofs.Shown.{text_short, shows_values}
use Rattle.dactl_top.proofs.Taking.{one_settings, text_unread}

-- ---- the whole of an answer

pub answered : (words : List (List ℕ)) (source : SourceChange) (sink : SinkChange) (first kept : Kept) (answer : Status) (outcome : Outcome) → HasCause (given words source first.settings first.text.items) outcome → SameGiven first kept → IsKept outcome kept
    → IsTold outcome sink answer → IsAnswered (call_of words source sink kept answer)
answered words source sink first kept answer outcome cause same is told = record {
  outcome = outcome;
  cause = subst (λ (z : Option Settings × List ℕ). HasCause (given words source z.0 z.1) outcome) (λ i. (sym same.settings i, (sym same.text i).items)) cause;
  kept = is;
  told = told;
}

-- ---- the headline

-- an answer of a run tells no other outcome
not_run : (sink : SinkChange) (due : List ℕ) (wanted answer : Status) → Gives sink due wanted answer → (IsOfRun wanted → ⊥) → IsOfRun answer → ⊥
not_run sink due wanted answer gives other is = elim gives [ inl told ↦ other (subst IsOfRun told.0 is) | inr cut ↦ subst IsOfRun cut.0 is ]

run_told : (call : Call) (run : EndedRun) (trace : Bool) (s : Settings) (text : List ℕ) → call.kept.journal.items ≡ run.journal.items → trace ≡ s.trace
    → run_text run trace text ≡ end_line run.ended (length call.kept.journal.items) ++ trace_if s.trace call.kept.journal.items ++ text
run_told call run trace s text journal traced = λ i. end_line run.ended (length (sym journal i)) ++ trace_if (traced i) (sym journal i) ++ text

-- a verdict is told by no answer of a run
not_verdict : (verdict : Verdict) → IsOfRun (status_of_verdict verdict) → ⊥
not_verdict verdicts.Valid is = is
not_verdict (verdicts.Wrong line) is = is
not_verdict (verdicts.Full line n r needed left) is = is
not_verdict (verdicts.Small needed left) is = is

told_run : (call : Call) (outcome : Outcome) → HasCause (given_of call) outcome → IsKept outcome call.kept → IsTold outcome call.sink call.answer → IsOfRun call.answer → IsRunOfText call
told_run call (Ran run trace numbering) cause kept told is = elim told.gives as (λ _. IsRunOfText call) [
  | inr cut ↦ absurd (subst IsOfRun cut.0 is)
  | inl given ↦
      let s = cause.settings in
      let due = told.is_due in
      record {
        settings = s;
        has_settings = cause.has;
        has_text = cause.text;
        program = run.program;
        is_program = kept.program;
        unasked = cause.says.unasked;
        runs = cause.says.meant.runs;
        values = shows_values s call.kept.text.items run.program run.journal.items run.store.graph (text_short (given_of call) s cause.has cause.text) cause.says.unasked cause.says.meant.runs cause.says.run.reduction;
        graph = run.store.graph;
        ended = run.ended;
        is_end = kept.ended;
        run = subst (λ (z : List Entry × List WorkerReport × ℕ). IsRun (limits_of s) s.workers run.program z.0 run.store.graph run.ended z.1 z.2) (λ i. (sym kept.journal i, sym kept.reports i, sym kept.left i)) cause.says.run;
        is_answer = given.0;
        text = due.0;
        is_text = due.1;
        written = subst (Took call.sink) (due.2 ∙ run_told call run trace s due.0 kept.journal cause.says.traced) given.1;
      }
]
told_run call Usage cause kept told is = absurd (not_run call.sink told.due _ _ told.gives (λ x. x) is)
told_run call ReadFault cause kept told is = absurd (not_run call.sink told.due _ _ told.gives (λ x. x) is)
told_run call TooLong cause kept told is = absurd (not_run call.sink told.due _ _ told.gives (λ x. x) is)
told_run call Memory cause kept told is = absurd (not_run call.sink told.due _ _ told.gives (λ x. x) is)
told_run call NoPart cause kept told is = absurd (not_run call.sink told.due _ _ told.gives (λ x. x) is)
told_run call (Refused refusal line) cause kept told is = absurd (not_run call.sink told.due _ _ told.gives (λ x. x) is)
told_run call (BadGraph p bad line) cause kept told is = absurd (not_run call.sink told.due _ _ told.gives (λ x. x) is)
told_run call (Judged p verdict journal line) cause kept told is = absurd (not_run call.sink told.due _ _ told.gives (not_verdict verdict) is)
told_run call (Checked p) cause kept told is = absurd (not_run call.sink told.due _ _ told.gives (λ x. x) is)
told_run call (Small p line) cause kept told is = absurd (not_run call.sink told.due _ _ told.gives (λ x. x) is)

pub headline : (call : Call) → IsAnswered call → IsOfRun call.answer → IsRunOfText call
headline call answered is = told_run call answered.outcome answered.cause answered.kept answered.told is

-- ---- why each answer comes

-- why an answer comes that tells no run
Why : Call → Status → Type 0
Why call status.Usage = HasUsage (given_of call)
Why call status.ReadFault = HasReadFault (given_of call)
Why call status.TooLong = HasLongText (given_of call)
Why call status.Refused = HasText (given_of call) (λ s. KeepsRefusal s call.kept)
Why call status.Checked = HasText (given_of call) (λ s. KeepsMeant s call.kept (λ p rest. s.check ≡ true))
Why call status.Small = HasText (given_of call) (λ s. KeepsProgram s call.kept (λ p. (s.check ≡ false) × IsTooSmall (limits_of s) p))
Why call status.BadGraph = HasText (given_of call) (λ s. KeepsBadGraph s call.kept)
Why call status.NoPart = HasText (given_of call) (λ s. LacksPart (marker_of s) call.kept.text.items)
Why call status.Verified = HasText (given_of call) (λ s. KeepsVerdict s call.kept verdicts.Valid)
Why call status.Invalid = HasText (given_of call) (λ s. KeepsWrong s call.kept)
Why call status.NoRoom = HasText (given_of call) (λ s. KeepsOverfull s call.kept)
Why call status.Memory = KeepsNothing call.kept
Why call status.Normal = Unit {0}
Why call status.Budget = Unit {0}
Why call status.Full = Unit {0}
Why call status.WriteFault = Unit {0}

why_end : (call : Call) (ended : End) → Why call (status_of_end ended)
unfolding Why
why_end call end.Normal = tt
why_end call end.Budget = tt
why_end call (end.Full n r needed left) = tt

-- the kept journal is that of the verdict
keeps_verdict : (call : Call) (s : Settings) (p : Program) (verdict : Verdict) (journal : List Entry) → HasVerdict s call.kept.text.items p verdict journal → call.kept.program ≡ Some p → call.kept.journal.items ≡ journal → call.kept.end ≡ None
    → KeepsVerdict s call.kept verdict
keeps_verdict call s p verdict journal is program entries none = record {
  check = is.check;
  asked = is.asked;
  fresh = is.fresh;
  keeps = (p, is.rest, program, is.meant.means, subst (λ j. IsVerdict p is.rest (room_for s) j verdict) (sym entries) is.found);
  no_end = none;
}

-- a start that does not fit is told in the same way where a trace was to be checked
small_verdict : (s : Settings) (kept : Kept) (needed left : Room) → KeepsVerdict s kept (verdicts.Small needed left) → KeepsProgram s kept (λ p. (s.check ≡ false) × IsTooSmall (limits_of s) p)
small_verdict s kept needed left is =
    let (p, rest, program, part, small) = is.keeps in
    let above : Exceeds (room_of p.start.fresh) (room_for s) = subst (λ (z : Room × Room). Exceeds z.0 z.1) (λ i. (small.needs i, small.has i)) small.above in
    (p, program, record { rest = rest; meant = p; part = part; started = subst (λ b. IsStarted b p rest p) (sym is.fresh) refl }, (is.check, above))

why_verdict : (call : Call) (verdict : Verdict) → HasText (given_of call) (λ s. KeepsVerdict s call.kept verdict) → Why call (status_of_verdict verdict)
unfolding Why
why_verdict call verdicts.Valid is = is
why_verdict call (verdicts.Wrong line) is = record { settings = is.settings; has = is.has; text = is.text; says = (line, is.says) }
why_verdict call (verdicts.Full line n r needed left) is = record { settings = is.settings; has = is.has; text = is.text; says = (line, n, r, needed, left, is.says) }
why_verdict call (verdicts.Small needed left) is = record { settings = is.settings; has = is.has; text = is.text; says = small_verdict is.settings call.kept needed left is.says }

why_outcome : (call : Call) (outcome : Outcome) → HasCause (given_of call) outcome → IsKept outcome call.kept → Why call (status_of outcome)
unfolding Why
why_outcome call Usage cause kept = cause
why_outcome call ReadFault cause kept = cause
why_outcome call TooLong cause kept = cause
why_outcome call Memory cause kept = record { program = kept.program; refusal = kept.refusal; journal = kept.journal; no_end = kept.ended }
why_outcome call NoPart cause kept = cause
why_outcome call (Refused refusal line) cause kept = record { settings = cause.settings; has = cause.has; text = cause.text; says = (refusal, kept.refusal, cause.says) }
why_outcome call (Checked p) cause kept = record { settings = cause.settings; has = cause.has; text = cause.text; says = (p, cause.says.rest, kept.program, cause.says.meant.means, cause.says.check) }
why_outcome call (Small p line) cause kept = record { settings = cause.settings; has = cause.has; text = cause.text; says = (p, kept.program, cause.says.meant.runs, (cause.says.check, cause.says.above)) }
why_outcome call (BadGraph p bad line) cause kept = record {
  settings = cause.settings;
  has = cause.has;
  text = cause.text;
  says = (cause.says.check, cause.says.asked, bad, (p, cause.says.rest, kept.program, cause.says.meant.means, cause.says.is_bad));
}
why_outcome call (Judged p verdict journal line) cause kept =
    why_verdict call verdict (record { settings = cause.settings; has = cause.has; text = cause.text; says = keeps_verdict call cause.settings p verdict journal.items cause.says kept.program kept.journal kept.ended })
why_outcome call (Ran run trace numbering) cause kept = why_end call run.ended

why_answer : (call : Call) → IsAnswered call → Why call call.answer
unfolding Why
why_answer call answered = elim answered.told.gives as (λ _. Why call call.answer) [
  | inl told ↦ subst (Why call) (sym told.0) (why_outcome call answered.outcome answered.cause answered.kept)
  | inr cut ↦ subst (Why call) (sym cut.0) tt
]

no_settings : (g : Given) (s : Settings) → IsErr (settings_of g.words) → HasSettings g s → ⊥
no_settings g s fails has = let e = (rw has.words at fails) in cc

-- the outcome is told, or a write failed
told_or_cut : (sink : SinkChange) (due : List ℕ) (wanted answer : Status) → Gives sink due wanted answer → IsUnlessWanting wanted answer
told_or_cut sink due wanted answer gives = elim gives [ inl told ↦ inl told.0 | inr cut ↦ inr (inl cut.0) ]

-- memory was wanting, or a write failed
memory_or_cut : (sink : SinkChange) (due : List ℕ) (wanted answer : Status) → Gives sink due status.Memory answer → IsUnlessWanting wanted answer
memory_or_cut sink due wanted answer gives = elim gives [ inl told ↦ inr (inr told.0) | inr cut ↦ inr (inl cut.0) ]

told_usage : (call : Call) (outcome : Outcome) → HasCause (given_of call) outcome → IsTold outcome call.sink call.answer → IsErr (settings_of call.words) → IsUnlessWanting status.Usage call.answer
told_usage call Usage cause told fails = told_or_cut call.sink told.due _ _ told.gives
told_usage call Memory cause told fails = memory_or_cut call.sink told.due _ _ told.gives
told_usage call ReadFault cause told fails = absurd (no_settings (given_of call) cause.settings fails cause.has)
told_usage call TooLong cause told fails = absurd (no_settings (given_of call) cause.settings fails cause.has)
told_usage call (Refused refusal line) cause told fails = absurd (no_settings (given_of call) cause.settings fails cause.has)
told_usage call (Checked p) cause told fails = absurd (no_settings (given_of call) cause.settings fails cause.has)
told_usage call (Small p line) cause told fails = absurd (no_settings (given_of call) cause.settings fails cause.has)
told_usage call NoPart cause told fails = absurd (no_settings (given_of call) cause.settings fails cause.has)
told_usage call (BadGraph p bad line) cause told fails = absurd (no_settings (given_of call) cause.settings fails cause.has)
told_usage call (Judged p verdict journal line) cause told fails = absurd (no_settings (given_of call) cause.settings fails cause.has)
told_usage call (Ran run trace numbering) cause told fails = absurd (no_settings (given_of call) cause.settings fails cause.has)

IsLong : Given → Type 0
IsLong g = longest < length g.text

-- a text that is there whole is not too long
not_long : (g : Given) (s t : Settings) → HasSettings g s → IsText g s.sample → settings_of g.words ≡ Ok t → t.sample ≡ None → IsLong g → ⊥
unfolding IsLong
not_long g s t has text words none long =
    let e : s.sample ≡ None = ap (λ x. x.sample) (one_settings g.words s t has.words words) ∙ none in
    let whole : IsText g None = subst (IsText g) e text in
    let fits = whole.fits in
    omega (arith, fits, long)

told_long : (call : Call) (outcome : Outcome) → HasCause (given_of call) outcome → IsTold outcome call.sink call.answer → (t : Settings) → settings_of call.words ≡ Ok t → t.sample ≡ None → IsLong (given_of call) → IsUnlessWanting status.TooLong call.answer
unfolding IsLong
told_long call TooLong cause told t words none long = told_or_cut call.sink told.due _ _ told.gives
told_long call Memory cause told t words none long = memory_or_cut call.sink told.due _ _ told.gives
told_long call Usage cause told t words none long = absurd (let e = (rw words at cause.words) in cc)
told_long call ReadFault cause told t words none long = let fits = cause.text.fits in absurd (omega (arith, fits, long))
told_long call (Refused refusal line) cause told t words none long = absurd (not_long (given_of call) cause.settings t cause.has cause.text words none long)
told_long call (Checked p) cause told t words none long = absurd (not_long (given_of call) cause.settings t cause.has cause.text words none long)
told_long call (Small p line) cause told t words none long = absurd (not_long (given_of call) cause.settings t cause.has cause.text words none long)
told_long call NoPart cause told t words none long = absurd (not_long (given_of call) cause.settings t cause.has cause.text words none long)
told_long call (BadGraph p bad line) cause told t words none long = absurd (not_long (given_of call) cause.settings t cause.has cause.text words none long)
told_long call (Judged p verdict journal line) cause told t words none long = absurd (not_long (given_of call) cause.settings t cause.has cause.text words none long)
told_long call (Ran run trace numbering) cause told t words none long = absurd (not_long (given_of call) cause.settings t cause.has cause.text words none long)

pub caused : (call : Call) → IsAnswered call → IsCaused call
unfolding Why IsLong
caused call answered =
    let why = why_answer call answered in record {
      usage = λ is. subst (Why call) is why;
      only_usage = told_usage call answered.outcome answered.cause answered.told;
      read_fault = λ is. subst (Why call) is why;
      too_long = λ is. subst (Why call) is why;
      only_too_long = told_long call answered.outcome answered.cause answered.told;
      refused = λ is. subst (Why call) is why;
      checked = λ is. subst (Why call) is why;
      small = λ is. subst (Why call) is why;
      bad_graph = λ is. subst (Why call) is why;
      no_part = λ is. subst (Why call) is why;
      verified = λ is. subst (Why call) is why;
      invalid = λ is. subst (Why call) is why;
      no_room = λ is. subst (Why call) is why;
    }

-- ---- what is kept

none_some : {A : Type 0} (o : Option A) (x : A) → o ≡ None → o ≡ Some x → ⊥
none_some o x none some = let e : None ≡ Some x = sym none ∙ some in cc

some_none : {A : Type 0} (o : Option A) (x : A) → o ≡ Some x → o ≡ None → ⊥
some_none o x some none = none_some o x none some

one_some : {A : Type 0} (o : Option A) (x y : A) → o ≡ Some x → o ≡ Some y → x ≡ y
one_some o x y first second = let e : Some x ≡ Some y = sym first ∙ second in cc

-- the program that is kept is this one
kept_is : (call : Call) (p q : Program) (s : Settings) → HasSettings (given_of call) s → IsText (given_of call) s.sample → call.kept.program ≡ Some p → call.kept.program ≡ Some q → IsKeptProgram s call.kept.text.items p
    → HasText (given_of call) (λ s. IsKeptProgram s call.kept.text.items q)
kept_is call p q s has text first second is = record { settings = s; has = has; text = text; says = subst (IsKeptProgram s call.kept.text.items) (one_some call.kept.program p q first second) is }

keeps_program : (call : Call) (outcome : Outcome) → HasCause (given_of call) outcome → IsKept outcome call.kept → (p : Program) → call.kept.program ≡ Some p → HasText (given_of call) (λ s. IsKeptProgram s call.kept.text.items p)
keeps_program call (Checked q) cause kept p is = kept_is call q p cause.settings cause.has cause.text kept.program is (inl (cause.says.rest, cause.says.meant.means))
keeps_program call (BadGraph q bad line) cause kept p is = kept_is call q p cause.settings cause.has cause.text kept.program is (inl (cause.says.rest, cause.says.meant.means))
keeps_program call (Small q line) cause kept p is = kept_is call q p cause.settings cause.has cause.text kept.program is (inr cause.says.meant.runs)
keeps_program call (Judged q verdict journal line) cause kept p is = kept_is call q p cause.settings cause.has cause.text kept.program is (inl (cause.says.rest, cause.says.meant.means))
keeps_program call (Ran run trace numbering) cause kept p is = kept_is call run.program p cause.settings cause.has cause.text kept.program is (inr cause.says.meant.runs)
keeps_program call Usage cause kept p is = absurd (none_some call.kept.program p kept.program is)
keeps_program call ReadFault cause kept p is = absurd (none_some call.kept.program p kept.program is)
keeps_program call TooLong cause kept p is = absurd (none_some call.kept.program p kept.program is)
keeps_program call Memory cause kept p is = absurd (none_some call.kept.program p kept.program is)
keeps_program call NoPart cause kept p is = absurd (none_some call.kept.program p kept.program is)
keeps_program call (Refused refusal line) cause kept p is = absurd (none_some call.kept.program p kept.program is)

keeps_refusal : (call : Call) (outcome : Outcome) → HasCause (given_of call) outcome → IsKept outcome call.kept → (r : Refusal) → call.kept.refusal ≡ Some r → HasText (given_of call) (λ s. HasFault s call.kept r)
keeps_refusal call (Refused refusal line) cause kept r is = record {
  settings = cause.settings;
  has = cause.has;
  text = cause.text;
  says = subst (HasFault cause.settings call.kept) (one_some call.kept.refusal refusal r kept.refusal is) cause.says;
}
keeps_refusal call (Checked q) cause kept r is = absurd (none_some call.kept.refusal r kept.refusal is)
keeps_refusal call (Small q line) cause kept r is = absurd (none_some call.kept.refusal r kept.refusal is)
keeps_refusal call (Ran run trace numbering) cause kept r is = absurd (none_some call.kept.refusal r kept.refusal is)
keeps_refusal call Usage cause kept r is = absurd (none_some call.kept.refusal r kept.refusal is)
keeps_refusal call ReadFault cause kept r is = absurd (none_some call.kept.refusal r kept.refusal is)
keeps_refusal call TooLong cause kept r is = absurd (none_some call.kept.refusal r kept.refusal is)
keeps_refusal call Memory cause kept r is = absurd (none_some call.kept.refusal r kept.refusal is)
keeps_refusal call NoPart cause kept r is = absurd (none_some call.kept.refusal r kept.refusal is)
keeps_refusal call (BadGraph p bad line) cause kept r is = absurd (none_some call.kept.refusal r kept.refusal is)
keeps_refusal call (Judged p verdict journal line) cause kept r is = absurd (none_some call.kept.refusal r kept.refusal is)

keeps_run : (call : Call) (outcome : Outcome) → HasCause (given_of call) outcome → IsKept outcome call.kept → (e : End) → call.kept.end ≡ Some e → HasText (given_of call) (λ s. KeepsRun s call.kept e)
keeps_run call (Ran run trace numbering) cause kept e is =
    let s = cause.settings in record {
      settings = s;
      has = cause.has;
      text = cause.text;
      says = (
        run.program,
        kept.program,
        cause.says.meant.runs,
        (
          run.store.graph,
          subst (λ (z : List Entry × End × List WorkerReport × ℕ). IsRun (limits_of s) s.workers run.program z.0 run.store.graph z.1 z.2 z.3)
              (λ i. (sym kept.journal i, one_some call.kept.end run.ended e kept.ended is i, sym kept.reports i, sym kept.left i)) cause.says.run,
        ),
      );
    }
keeps_run call Usage cause kept e is = absurd (none_some call.kept.end e kept.ended is)
keeps_run call ReadFault cause kept e is = absurd (none_some call.kept.end e kept.ended is)
keeps_run call TooLong cause kept e is = absurd (none_some call.kept.end e kept.ended is)
keeps_run call Memory cause kept e is = absurd (none_some call.kept.end e kept.ended is)
keeps_run call NoPart cause kept e is = absurd (none_some call.kept.end e kept.ended is)
keeps_run call (BadGraph p bad line) cause kept e is = absurd (none_some call.kept.end e kept.ended is)
keeps_run call (Judged p verdict journal line) cause kept e is = absurd (none_some call.kept.end e kept.ended is)
keeps_run call (Refused refusal line) cause kept e is = absurd (none_some call.kept.end e kept.ended is)
keeps_run call (Checked q) cause kept e is = absurd (none_some call.kept.end e kept.ended is)
keeps_run call (Small q line) cause kept e is = absurd (none_some call.kept.end e kept.ended is)

keeps_no_run : (outcome : Outcome) (kept : Kept) → IsKept outcome kept → kept.end ≡ None → KeepsNoRun kept
keeps_no_run (Ran run trace numbering) kept k none = absurd (some_none kept.end run.ended k.ended none)
keeps_no_run Usage kept k none = (k.reports, k.left)
keeps_no_run ReadFault kept k none = (k.reports, k.left)
keeps_no_run TooLong kept k none = (k.reports, k.left)
keeps_no_run Memory kept k none = (k.reports, k.left)
keeps_no_run NoPart kept k none = (k.reports, k.left)
keeps_no_run (BadGraph p bad line) kept k none = (k.reports, k.left)
keeps_no_run (Judged p verdict journal line) kept k none = (k.reports, k.left)
keeps_no_run (Refused refusal line) kept k none = (k.reports, k.left)
keeps_no_run (Checked q) kept k none = (k.reports, k.left)
keeps_no_run (Small q line) kept k none = (k.reports, k.left)

-- without an end, the kept journal is empty or that of a trace that was checked
keeps_checked : (call : Call) (outcome : Outcome) → HasCause (given_of call) outcome → IsKept outcome call.kept → call.kept.end ≡ None
    → (call.kept.journal.items ≡ []) ⊎ HasText (given_of call) (λ s. (verdict : Verdict) × KeepsVerdict s call.kept verdict)
keeps_checked call (Ran run trace numbering) cause k none = absurd (some_none call.kept.end run.ended k.ended none)
keeps_checked call (Judged p verdict journal line) cause k none =
    inr (record { settings = cause.settings; has = cause.has; text = cause.text; says = (verdict, keeps_verdict call cause.settings p verdict journal.items cause.says k.program k.journal k.ended) })
keeps_checked call Usage cause k none = inl k.journal
keeps_checked call ReadFault cause k none = inl k.journal
keeps_checked call TooLong cause k none = inl k.journal
keeps_checked call Memory cause k none = inl k.journal
keeps_checked call NoPart cause k none = inl k.journal
keeps_checked call (Refused refusal line) cause k none = inl k.journal
keeps_checked call (Checked q) cause k none = inl k.journal
keeps_checked call (BadGraph q bad line) cause k none = inl k.journal
keeps_checked call (Small q line) cause k none = inl k.journal

end_told : (outcome : Outcome) (kept : Kept) (e : End) → IsKept outcome kept → kept.end ≡ Some e → status_of outcome ≡ status_of_end e
end_told (Ran run trace numbering) kept e k is = ap status_of_end (one_some kept.end run.ended e k.ended is)
end_told Usage kept e k is = absurd (none_some kept.end e k.ended is)
end_told ReadFault kept e k is = absurd (none_some kept.end e k.ended is)
end_told TooLong kept e k is = absurd (none_some kept.end e k.ended is)
end_told Memory kept e k is = absurd (none_some kept.end e k.ended is)
end_told NoPart kept e k is = absurd (none_some kept.end e k.ended is)
end_told (BadGraph p bad line) kept e k is = absurd (none_some kept.end e k.ended is)
end_told (Judged p verdict journal line) kept e k is = absurd (none_some kept.end e k.ended is)
end_told (Refused refusal line) kept e k is = absurd (none_some kept.end e k.ended is)
end_told (Checked q) kept e k is = absurd (none_some kept.end e k.ended is)
end_told (Small q line) kept e k is = absurd (none_some kept.end e k.ended is)

keeps_end : (call : Call) → IsAnswered call → (e : End) → call.kept.end ≡ Some e → (call.answer ≡ status_of_end e) ⊎ (call.answer ≡ status.WriteFault)
keeps_end call answered e is = elim answered.told.gives [ inl told ↦ inl (told.0 ∙ end_told answered.outcome call.kept e answered.kept is) | inr cut ↦ inr cut.0 ]

-- a source that was read where the sample text is asked for
sample_read : (g : Given) (s t : Settings) (count : ℕ) → HasSettings g s → s.sample ≡ None → settings_of g.words ≡ Ok t → t.sample ≡ Some count → ⊥
sample_read g s t count has none words asked = none_some t.sample count (sym (ap (λ x. x.sample) (one_settings g.words s t has.words words)) ∙ none) asked

keeps_source : (call : Call) (outcome : Outcome) → HasCause (given_of call) outcome → (t : Settings) (count : ℕ) → settings_of call.words ≡ Ok t → t.sample ≡ Some count → IsUnread call.source
keeps_source call Usage cause t count words asked = cause.unread
keeps_source call Memory cause t count words asked = cause t count words asked
keeps_source call ReadFault cause t count words asked = absurd (sample_read (given_of call) cause.settings t count cause.has cause.no_sample words asked)
keeps_source call TooLong cause t count words asked = absurd (sample_read (given_of call) cause.settings t count cause.has cause.no_sample words asked)
keeps_source call (Refused refusal line) cause t count words asked = text_unread (given_of call) cause.settings cause.has cause.text t count words asked
keeps_source call (Checked q) cause t count words asked = text_unread (given_of call) cause.settings cause.has cause.text t count words asked
keeps_source call (Small q line) cause t count words asked = text_unread (given_of call) cause.settings cause.has cause.text t count words asked
keeps_source call NoPart cause t count words asked = text_unread (given_of call) cause.settings cause.has cause.text t count words asked
keeps_source call (BadGraph p bad line) cause t count words asked = text_unread (given_of call) cause.settings cause.has cause.text t count words asked
keeps_source call (Judged p verdict journal line) cause t count words asked = text_unread (given_of call) cause.settings cause.has cause.text t count words asked
keeps_source call (Ran run trace numbering) cause t count words asked = text_unread (given_of call) cause.settings cause.has cause.text t count words asked

pub keeps_faith : (call : Call) → IsAnswered call → KeepsFaith call
unfolding Why
keeps_faith call answered = record {
  program = keeps_program call answered.outcome answered.cause answered.kept;
  refusal = keeps_refusal call answered.outcome answered.cause answered.kept;
  run = keeps_run call answered.outcome answered.cause answered.kept;
  no_run = keeps_no_run answered.outcome call.kept answered.kept;
  checked = keeps_checked call answered.outcome answered.cause answered.kept;
  ended = keeps_end call answered;
  wanting = λ is. subst (Why call) is (why_answer call answered);
  sample = keeps_source call answered.outcome answered.cause;
}
