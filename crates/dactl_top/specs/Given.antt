-- What a call is given, what it reads, and what its devices tell of it.
use Rattle.std.specs.Prelude.{◌≡◌, ℕ, List, [], Some, None, Ok, IsErr}
use Rattle.std.specs.declared.option.Option.{Option}
use Rattle.dactl_sample.specs.Sample.{IsSample}
use Rattle.dactl_settings.specs.declared.settings.Settings.{Settings}
use Rattle.dactl_settings.specs.Reading.{settings_of}
use Rattle.dactl_top.specs.Devices.{SourceChange, IsUnread}
use Rattle.dactl_top.specs.Input.{IsWholeText, IsLongText, IsFailedText}

-- the words of a call, what its source told before and after, and the settings and the text that it kept
pub record Given : Type 0 where
  pub words : List (List ℕ)
  pub source : SourceChange
  pub settings : Option Settings
  pub text : List ℕ

abbrev pub given : List (List ℕ) → SourceChange → Option Settings → List ℕ → Given
given words source settings text = record { words = words; source = source; settings = settings; text = text }

-- the kept settings are those of the words
pub record HasSettings (given : Given) (s : Settings) : Type 0 where
  pub words : settings_of given.words ≡ Ok s
  pub kept : given.settings ≡ Some s

-- the kept text is the sample text, and the source was not read; or, where none is asked for, it is all that the source gave to its end
abbrev pub IsText : Given → Option ℕ → Type 0
IsText given (Some count) = IsSample count given.text × IsUnread given.source
IsText given None = IsWholeText given.source given.text

-- the words are settings, the text that they ask for is kept whole, and it says this
pub record HasText (given : Given) (Says : Settings → Type 0) : Type 0 where
  pub settings : Settings
  pub has : HasSettings given settings
  pub text : IsText given settings.sample
  pub says : Says settings

-- the words are no settings, and nothing was read or kept
pub record HasUsage (given : Given) : Type 0 where
  pub words : IsErr (settings_of given.words)
  pub unread : IsUnread given.source
  pub settings : given.settings ≡ None
  pub text : given.text ≡ []

-- the source failed, and what it gave before is kept
pub record HasReadFault (given : Given) : Type 0 where
  pub settings : Settings
  pub has : HasSettings given settings
  pub no_sample : settings.sample ≡ None
  pub text : IsFailedText given.source given.text

-- the source gave more than a text may have
pub record HasLongText (given : Given) : Type 0 where
  pub settings : Settings
  pub has : HasSettings given settings
  pub no_sample : settings.sample ≡ None
  pub text : IsLongText given.source given.text

-- memory was wanting; where the sample text was asked for, the source was not read
abbrev pub HasMemory : Given → Type 0
HasMemory given = (s : Settings) (count : ℕ) → settings_of given.words ≡ Ok s → s.sample ≡ Some count → IsUnread given.source
