-- The parts of an input: its text, and the rest behind a marker line.
use Rattle.std.specs.Prelude.{◌≡◌, ℕ, Bool, true, false, if◌then◌else◌, List, [], take, drop, codes, Some, None}
use Rattle.std.specs.declared.option.Option.{Option}
use Rattle.dactl_base.specs.declared.parts.Parts.{Parts}
use Rattle.dactl_base.specs.Parts.{AreParts, HasNoLine}
use Rattle.dactl_model.specs.declared.program.Program.{Program}
use Rattle.dactl_resume.specs.Resumed.{IsResumed}
use Rattle.dactl_settings.specs.declared.settings.Settings.{Settings}

-- the marker line that the settings ask for, where they ask for one
abbrev pub marker_of : Settings → Option (List ℕ)
marker_of s = if s.verify then Some (codes "%TRACE") else (if s.resume then Some (codes "%GRAPH") else None)

-- the text is all before the first line that is the marker, and the rest is all behind that line
pub record AreBeside (marker input text rest : List ℕ) : Type 0 where
  pub parts : Parts
  pub are : AreParts input marker parts
  pub is_text : text ≡ take parts.text_end input
  pub is_rest : rest ≡ drop parts.rest input

-- the text and the rest of the input; where no marker is asked for, all of it is the text
abbrev pub IsParted : Option (List ℕ) → List ℕ → List ℕ → List ℕ → Type 0
IsParted None input text rest = (text ≡ input) × (rest ≡ [])
IsParted (Some marker) input text rest = AreBeside marker input text rest

-- a marker line is asked for, and the input has none
abbrev pub LacksPart : Option (List ℕ) → List ℕ → Type 0
LacksPart None input = ⊥
LacksPart (Some marker) input = HasNoLine input marker

-- under the settings this is the rest of the input, and its text part says this
pub record HasPart (s : Settings) (input rest : List ℕ) (Says : List ℕ → Type 0) : Type 0 where
  pub text : List ℕ
  pub parted : IsParted (marker_of s) input text rest
  pub says : Says text

-- the program that is run of one that a text means: that one, or where it goes on from a graph, the same with the graph that is read from the rest in place of its start
abbrev pub IsStarted : Bool → Program → List ℕ → Program → Type 0
IsStarted false p rest q = q ≡ p
IsStarted true p rest q = IsResumed p rest q

-- under the settings the input is to run this program: it is what its text part means, with the start that the settings ask for
pub record Runs (Is : List ℕ → Program → Type 0) (s : Settings) (input : List ℕ) (q : Program) : Type 0 where
  pub rest : List ℕ
  pub meant : Program
  pub part : HasPart s input rest (λ text. Is text meant)
  pub started : IsStarted s.resume meant rest q
