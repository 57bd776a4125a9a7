-- What reading a source to its end leaves.
use Rattle.std.specs.Prelude.{◌≡◌, ℕ, ◌+◌, ◌≤◌, List, length, Some, None}
use Rattle.std.specs.declared.option.Option.{Option}
use Rattle.std.specs.Io.KnownBytes.{Consumes, IsAtEnd}
use Rattle.dactl_base.specs.Faults.{Rose}
use Rattle.dactl_sample.specs.Sample.{IsSample}
use Rattle.dactl_top.specs.Devices.{SourceChange, IsUnread}
use Rattle.dactl_top.specs.declared.input.Input.{Input}
use Rattle.dactl_top.specs.declared.input.Input.TheVariants.{Whole, TooLong, Failed, Short}

-- how many bytes a text may have
abbrev pub longest : ℕ
longest = 1048576

-- the text is all that the source gave, from what was left at the start to its end
pub record IsWholeText (source : SourceChange) (text : List ℕ) : Type 0 where
  pub taken : Consumes source.left source.left_after text
  pub ended : IsAtEnd source.left_after
  pub fits : length text ≤ longest

-- the source gave more bytes than a text may have, and was read no further than the first of them
pub record IsLongText (source : SourceChange) (text : List ℕ) : Type 0 where
  pub taken : Consumes source.left source.left_after text
  pub above : length text ≡ longest + 1

-- the source failed after it gave the text, by its own count of faults
pub record IsFailedText (source : SourceChange) (text : List ℕ) : Type 0 where
  pub taken : Consumes source.left source.left_after text
  pub fits : length text ≤ longest
  pub rose : Rose source.faults source.faults_after

-- how the reading of a source ended
abbrev pub HasRead : SourceChange → List ℕ → Input → Type 0
HasRead source text Whole = IsWholeText source text
HasRead source text TooLong = IsLongText source text
HasRead source text Failed = IsFailedText source text
HasRead source text Short = Unit {0}

-- the text is the sample text
pub record IsSampleText (count : ℕ) (text : List ℕ) : Type 0 where
  pub sample : IsSample count text
  pub fits : length text ≤ longest

-- how the making of the sample text ended
abbrev pub HasSampled : ℕ → List ℕ → Input → Type 0
HasSampled count text Whole = IsSampleText count text
HasSampled count text TooLong = ⊥
HasSampled count text Failed = ⊥
HasSampled count text Short = Unit {0}

-- how the taking of the text ended: the sample text was made and the source not read, or the source was read
abbrev pub HasTaken : Option ℕ → SourceChange → List ℕ → Input → Type 0
HasTaken (Some count) source text input = IsUnread source × HasSampled count text input
HasTaken None source text input = HasRead source text input
