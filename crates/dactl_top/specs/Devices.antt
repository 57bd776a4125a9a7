-- What the devices of a call tell before and after it.
use Rattle.std.specs.Prelude.{◌≡◌, ℕ, List, Result, OnOk, OnErr}
use Rattle.std.specs.declared.option.Option.{Option}
use Rattle.std.specs.Io.KnownBytes.{Appends}
use Rattle.dactl_base.specs.Bytes.{AppendsFront}
use Rattle.dactl_base.specs.Faults.{Rose}

-- what a source had left and how many faults, before and after
pub record SourceChange : Type 0 where
  pub left : Option (List ℕ)
  pub left_after : Option (List ℕ)
  pub faults : ℕ
  pub faults_after : ℕ

abbrev pub source_change : {S : Type 0} → (S → Option (List ℕ)) → (S → ℕ) → S → S → SourceChange
source_change left faults old new = record { left = left old; left_after = left new; faults = faults old; faults_after = faults new }

-- what a sink held and how many faults, before and after
pub record SinkChange : Type 0 where
  pub held : Option (List ℕ)
  pub held_after : Option (List ℕ)
  pub faults : ℕ
  pub faults_after : ℕ

abbrev pub sink_change : {K : Type 0} → (K → Option (List ℕ)) → (K → ℕ) → K → K → SinkChange
sink_change holds faults old new = record { held = holds old; held_after = holds new; faults = faults old; faults_after = faults new }

-- the source is as it was
pub record IsUnread (source : SourceChange) : Type 0 where
  pub left : source.left_after ≡ source.left
  pub faults : source.faults_after ≡ source.faults

-- the sink took these bytes
abbrev pub Took : SinkChange → List ℕ → Type 0
Took sink bytes = Appends sink.held sink.held_after bytes

-- the sink failed, by its own count of faults, and took a front of these bytes
pub record IsCutShort (sink : SinkChange) (bytes : List ℕ) : Type 0 where
  pub front : AppendsFront sink.held sink.held_after bytes
  pub rose : Rose sink.faults sink.faults_after

-- the sink took these bytes, or it failed and took a front of them
pub record Writes {T E : Type 0} (sink : SinkChange) (bytes : List ℕ) (result : Result T E) : Type 0 where
  pub whole : OnOk result (Took sink bytes)
  pub cut : OnErr result (IsCutShort sink bytes)
