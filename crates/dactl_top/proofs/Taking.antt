-- Why an outcome comes, by how the taking of the text ended.
use Rattle.std.proofs.Common.{◌≡◌, ℕ, List, Result, Some, None, Ok, Err, IsErr, refl, sym, ap, ◌∙◌, subst, inl, inr}
use Rattle.std.specs.declared.option.Option.{Option}
use Rattle.std.specs.Prelude.{◌⊎◌}
use Rattle.dactl_settings.specs.Reading.{settings_of}
use Rattle.dactl_settings.specs.declared.settings.Settings.{Settings}
use Rattle.dactl_settings.specs.declared.fault.UsageFault.{UsageFault}
use Rattle.dactl_settings.specs.declared.fault.UsageFault.TheVariants as fault
use Rattle.dactl_top.specs.declared.input.Input.TheVariants as input
use Rattle.dactl_top.specs.declared.outcome.Outcome.{Outcome}
use Rattle.dactl_top.specs.declared.outcome.Outcome.TheVariants.{Usage, ReadFault, TooLong, Memory, NoPart, Refused, Checked, BadGraph, Small, Judged, Ran}
use Rattle.dactl_top.specs.Devices.{SourceChange, IsUnread}
use Rattle.dactl_top.specs.Input.{HasTaken, IsFailedText, IsLongText}
use Rattle.dactl_top.specs.Given.{Given, given, HasSettings, IsText, HasReadFault, HasLongText, HasMemory}
use Rattle.dactl_top.specs.Outcomes.{ComesOf, HasCause}

pub one_settings : (words : List (List ℕ)) (s t : Settings) → settings_of words ≡ Ok s → settings_of words ≡ Ok t → s ≡ t
one_settings words s t first second = let e : Ok s ≡ Ok t = sym first ∙ second in cc

unread_text : (g : Given) (sample : Option ℕ) (count : ℕ) → IsText g sample → sample ≡ Some count → IsUnread g.source
unread_text g None count text is = cc
unread_text g (Some n) count text is = text.1

-- where the text is there whole, and the sample text is asked for, the source was not read
pub text_unread : (g : Given) (s : Settings) → HasSettings g s → IsText g s.sample → HasMemory g
text_unread g s has text = λ t count also asked. unread_text g s.sample count text (ap (λ x. x.sample) (one_settings g.words s t has.words also) ∙ asked)

-- what comes of a text that is there whole has its cause
text_cause : (g : Given) (s : Settings) (outcome : Outcome) → HasSettings g s → IsText g s.sample → ComesOf s g.text outcome → HasCause g outcome
text_cause g s (Refused refusal line) has text comes = record { settings = s; has = has; text = text; says = comes }
text_cause g s (Checked p) has text comes = record { settings = s; has = has; text = text; says = comes }
text_cause g s (Small p line) has text comes = record { settings = s; has = has; text = text; says = comes }
text_cause g s NoPart has text comes = record { settings = s; has = has; text = text; says = comes }
text_cause g s (BadGraph p bad line) has text comes = record { settings = s; has = has; text = text; says = comes }
text_cause g s (Judged p verdict journal line) has text comes = record { settings = s; has = has; text = text; says = comes }
text_cause g s (Ran run trace numbering) has text comes = record { settings = s; has = has; text = text; says = comes }
text_cause g s Memory has text comes = text_unread g s has text
text_cause g s Usage has text comes = absurd comes
text_cause g s ReadFault has text comes = absurd comes
text_cause g s TooLong has text comes = absurd comes

whole_taken : (g : Given) (sample : Option ℕ) → HasTaken sample g.source g.text input.Whole → IsText g sample
whole_taken g None taken = taken
whole_taken g (Some count) taken = (taken.1.sample, taken.0)

pub whole_cause : (words : List (List ℕ)) (s : Settings) (source : SourceChange) (text told : List ℕ) (outcome : Outcome) → settings_of words ≡ Ok s → told ≡ text → HasTaken s.sample source text input.Whole → ComesOf s told outcome
    → HasCause (given words source (Some s) text) outcome
whole_cause words s source text told outcome is same taken comes =
    let g : Given = given words source (Some s) text in
    text_cause g s outcome (record { words = is; kept = refl }) (whole_taken g s.sample taken) (subst (λ x. ComesOf s x outcome) same comes)

failed_taken : (sample : Option ℕ) (source : SourceChange) (text : List ℕ) → HasTaken sample source text input.Failed → (sample ≡ None) × IsFailedText source text
failed_taken None source text taken = (refl, taken)
failed_taken (Some count) source text taken = absurd taken.1

pub failed_cause : (words : List (List ℕ)) (s : Settings) (source : SourceChange) (text : List ℕ) → settings_of words ≡ Ok s → HasTaken s.sample source text input.Failed → HasReadFault (given words source (Some s) text)
failed_cause words s source text is taken = let failed = failed_taken s.sample source text taken in record { settings = s; has = record { words = is; kept = refl }; no_sample = failed.0; text = failed.1 }

long_taken : (sample : Option ℕ) (source : SourceChange) (text : List ℕ) → HasTaken sample source text input.TooLong → (sample ≡ None) × IsLongText source text
long_taken None source text taken = (refl, taken)
long_taken (Some count) source text taken = absurd taken.1

pub long_cause : (words : List (List ℕ)) (s : Settings) (source : SourceChange) (text : List ℕ) → settings_of words ≡ Ok s → HasTaken s.sample source text input.TooLong → HasLongText (given words source (Some s) text)
long_cause words s source text is taken = let long = long_taken s.sample source text taken in record { settings = s; has = record { words = is; kept = refl }; no_sample = long.0; text = long.1 }

short_unread : (sample : Option ℕ) (source : SourceChange) (text : List ℕ) (count : ℕ) → HasTaken sample source text input.Short → sample ≡ Some count → IsUnread source
short_unread None source text count taken is = cc
short_unread (Some n) source text count taken is = taken.0

pub short_cause : (words : List (List ℕ)) (s : Settings) (source : SourceChange) (text : List ℕ) → settings_of words ≡ Ok s → HasTaken s.sample source text input.Short → HasMemory (given words source (Some s) text)
short_cause words s source text is taken = λ t count also asked. short_unread s.sample source text count taken (ap (λ x. x.sample) (one_settings words s t is also) ∙ asked)

-- ---- words that are no settings

-- a fault is that of the words, or want of memory
abbrev pub IsToldBy : List (List ℕ) → UsageFault → Type 0
IsToldBy words f = let told : Result Settings UsageFault = Err f in (told ≡ settings_of words) ⊎ (told ≡ Err fault.Memory)

-- the words are no settings where a fault is told that isn't want of memory
pub no_words : (words : List (List ℕ)) (f : UsageFault) → (f ≡ fault.Memory → ⊥) → IsToldBy words f → IsErr (settings_of words)
no_words words f other told = elim told [ inl is ↦ subst IsErr is refl | inr memory ↦ absurd (other (let e = memory in cc)) ]
